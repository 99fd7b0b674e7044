-- The table of operators is sound over any total order of the values.
use Rattle.std.proofs.Common.{◌≡◌, Bool, true, false, not, ◌&&◌, ◌||◌, List, [], ◌∷◌, refl, ap, ◌∙◌, arith}
use Rattle.std.proofs.Common.{Ordering, Less, Equal, Greater}
use Rattle.std.specs.Cmp.{IsTotalOrder}
use Rattle.std.specs.List.{Contains, list_all}
use Rattle.std.specs.Ordering.{ordering_reverse, is_lt, is_eq, is_gt}
use Rattle.std.proofs.lemmas.List.Elements.{All-contains}
use Rattle.std.proofs.lemmas.List.Sums.{AllPass-from_list_all}
use Rattle.pg_value.specs.declared.operators.Op.{Op}
use Rattle.pg_value.specs.declared.operators.Op.TheVariants.{Lt, Le, Eq, Ge, Gt, Ne, AbsLt, AbsLe, AbsEq, AbsGe, AbsGt}
use Rattle.pg_value.specs.declared.value.Value.{Value}
use Rattle.pg_value.specs.Truths.{accepts}
use Rattle.predicate_proof.specs.Atoms.{plain, implication_cell}

-- how x can stand to w, where it stands so to v and w stands so to v
abbrev can_stand : Ordering → Ordering → Ordering → Bool
can_stand Less Equal o = is_lt o
can_stand Less Greater o = is_lt o
can_stand Equal Less o = is_gt o
can_stand Equal Equal o = is_eq o
can_stand Equal Greater o = is_lt o
can_stand Greater Less o = is_gt o
can_stand Greater Equal o = is_gt o
can_stand _ _ o = true

-- where x meets the clause's operator and w the table's cell, x meets the predicate's operator
abbrev is_sound_at : Op → Op → Ordering → Ordering → Ordering → Bool
is_sound_at op other xv wv xw = not (can_stand xv wv xw && accepts op xv && implication_cell (plain op) (plain other) wv) || accepts other xw

abbrev ops : List Op
ops = Lt ∷ Le ∷ Eq ∷ Ge ∷ Gt ∷ Ne ∷ AbsLt ∷ AbsLe ∷ AbsEq ∷ AbsGe ∷ AbsGt ∷ []

abbrev orders : List Ordering
orders = Less ∷ Equal ∷ Greater ∷ []

op-listed : (op : Op) → Contains ops op
op-listed Lt = (0, omega arith, refl)
op-listed Le = (1, omega arith, refl)
op-listed Eq = (2, omega arith, refl)
op-listed Ge = (3, omega arith, refl)
op-listed Gt = (4, omega arith, refl)
op-listed Ne = (5, omega arith, refl)
op-listed AbsLt = (6, omega arith, refl)
op-listed AbsLe = (7, omega arith, refl)
op-listed AbsEq = (8, omega arith, refl)
op-listed AbsGe = (9, omega arith, refl)
op-listed AbsGt = (10, omega arith, refl)

order-listed : (o : Ordering) → Contains orders o
order-listed Less = (0, omega arith, refl)
order-listed Equal = (1, omega arith, refl)
order-listed Greater = (2, omega arith, refl)

at : {A : Type 0} (p : A → Bool) (xs : List A) (x : A) → list_all p xs ≡ true → Contains xs x → p x ≡ true
at p xs x all one = All-contains (λ y. p y ≡ true) xs x (AllPass-from_list_all p xs all) one

-- the whole table, by computation
table-computed : list_all (λ op. list_all (λ other. list_all (λ xv. list_all (λ wv. list_all (λ xw. is_sound_at op other xv wv xw) orders) orders) orders) ops) ops ≡ true
table-computed = refl

table-at : (op other : Op) (xv wv xw : Ordering) → is_sound_at op other xv wv xw ≡ true
table-at op other xv wv xw =
    at (λ o. is_sound_at op other xv wv o) orders xw
    (at (λ o. list_all (λ p. is_sound_at op other xv o p) orders) orders wv
    (at (λ o. list_all (λ p. list_all (λ q. is_sound_at op other o p q) orders) orders) orders xv
    (at (λ o. list_all (λ xv'. list_all (λ p. list_all (λ q. is_sound_at op o xv' p q) orders) orders) orders) ops other
    (at (λ o. list_all (λ other'. list_all (λ xv'. list_all (λ p. list_all (λ q. is_sound_at o other' xv' p q) orders) orders) orders) ops) ops op table-computed (op-listed op)) (op-listed other)) (order-listed xv)) (order-listed wv)) (order-listed xw)

applied : (a b c d : Bool) → not (a && b && c) || d ≡ true → a ≡ true → b ≡ true → c ≡ true → d ≡ true
applied true true true d h p q r = h
applied false b c d h p q r = cc
applied true false c d h p q r = cc
applied true true false d h p q r = cc

module _ (cmp : Value → Value → Ordering) (total : IsTotalOrder cmp) (x v w : Value) where
  turned : (a b : Value) (o : Ordering) → cmp a b ≡ o → cmp b a ≡ ordering_reverse o
  turned a b o e = total.antisymm b a ∙ ap ordering_reverse e

  stands : (xv wv : Ordering) → cmp x v ≡ xv → cmp w v ≡ wv → can_stand xv wv (cmp x w) ≡ true
  stands Less Less p q = refl
  stands Less Equal p q = ap is_lt (turned w x Greater (total.congr w v x q ∙ turned x v Less p))
  stands Less Greater p q = ap is_lt (total.trans x v w p (turned w v Greater q))
  stands Equal Less p q = ap is_gt (total.congr x v w p ∙ turned w v Less q)
  stands Equal Equal p q = ap is_eq (total.congr x v w p ∙ turned w v Equal q)
  stands Equal Greater p q = ap is_lt (total.congr x v w p ∙ turned w v Greater q)
  stands Greater Less p q = ap is_gt (turned w x Less (total.trans w v x q (turned x v Greater p)))
  stands Greater Equal p q = ap is_gt (turned w x Less (total.congr w v x q ∙ turned x v Greater p))
  stands Greater Greater p q = refl

  pub cell-sound : (op other : Op) → accepts op (cmp x v) ≡ true → implication_cell (plain op) (plain other) (cmp w v) ≡ true → accepts other (cmp x w) ≡ true
  cell-sound op other clause holds = applied _ _ _ _ (table-at op other (cmp x v) (cmp w v) (cmp x w)) (stands (cmp x v) (cmp w v) refl refl) clause holds
