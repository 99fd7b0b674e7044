-- Whether a condition implies another one is decided, by cases of the two, those of fewer nodes first.
use Rattle.std.proofs.Common.{◌≡◌, ◌≤◌, ◌+◌, ℕ, zero, suc, Bool, true, false, ◌&&◌, ◌||◌, IsTrue, ◌↔◌, ◌⊎◌, List, [], ◌∷◌, Option, Some, None, get_or, inl, inr, refl, sym, ap, ◌∙◌, subst, arith, int_eq, nat_eq}
use Rattle.std.specs.Str.{bytes_eq}
use Rattle.std.proofs.lemmas.Bool.{true≢false, false≢true}
use Rattle.std.proofs.lemmas.Bool.Decides.{Decides-and, Decides-or, Decides-like, Decides-eqb, Decides-int_eq}
use Rattle.std.proofs.lemmas.Slice.Eq.{bytes_eq-Decides}
use Rattle.pg_base.specs.declared.numbers.ColNo.{ColNo}
use Rattle.pg_value.specs.declared.columns.Column.{Column}
use Rattle.pg_value.specs.declared.operators.Family.{Family}
use Rattle.pg_value.specs.declared.operators.Family.TheVariants.{Integer, IntAbs, Text as TextOps, Bool as BoolOps, Uuid as UuidOps, Date as DateOps, Timestamp as TimestampOps, TimestampTz as TimestampTzOps, Numeric as NumericOps}
use Rattle.pg_value.specs.declared.operators.Op.{Op}
use Rattle.pg_value.specs.declared.operators.Op.TheVariants.{Lt, Le, Eq, Ge, Gt, Ne, AbsLt, AbsLe, AbsEq, AbsGe, AbsGt}
use Rattle.pg_value.specs.declared.operators.Truth.{Truth}
use Rattle.pg_value.specs.declared.operators.Truth.TheVariants.{True, False, Unknown}
use Rattle.pg_value.specs.declared.value.Value.{Value}
use Rattle.pg_value.specs.declared.value.Value.TheVariants.{Null, Int, Bool as Flag, Text as String}
use Rattle.pg_value.specs.Order.{value_order}
use Rattle.pg_expr.specs.declared.operand.Operand.{Operand}
use Rattle.pg_expr.specs.declared.operand.Operand.TheVariants.{Col, Lit}
use Rattle.pg_expr.specs.Columns.{some_column}
use Rattle.pg_expr.specs.Cond.{Cond, compare, is_null, is_not_null, bool_col, const, all_of, any_of, negation, Conds, no_conds, cond_and}
use Rattle.predicate_proof.specs.Atoms.{is_any, is_atom, SameSide, SameAtom, has_column_number, operator_family, IsFamilyValue, plain, implication_cell, CellHolds, TableGives}
use Rattle.predicate_proof.specs.work.Atoms.{is_all, ComparisonGives}
use Rattle.predicate_proof.specs.Derivation.{Implies, ImpliesAll, no_part, part_and, ImpliesSome, this_part, later_part, AllImply, no_arm, arm_and, SomeImplies, this_clause, later_clause, EachImpliesSome, no_choice, choice_and}
use Rattle.predicate_proof.proofs.Inversion.{all-each, all-arms, all-never, any-arms, any-some, any-parts, any-never, atom-arms, atom-parts, atom-same, atom-comparison}
use Rattle.predicate_proof.proofs.Weight.{weight, weight_all}

-- a Bool tells whether it is so
pub record IsDecided (P : Type 0) : Type 0 where
  pub answer : Bool
  pub is : IsTrue answer ↔ P

pub always : {P : Type 0} → P → IsDecided P
always h = record { answer = true; is = (λ e. h, λ p. refl) }

pub never : {P : Type 0} → ¬ P → IsDecided P
never n = record { answer = false; is = (λ e. absurd (true≢false (sym e)), λ p. absurd (n p)) }

pub alike : {P Q : Type 0} → (P → Q) → (Q → P) → IsDecided P → IsDecided Q
alike f g d = record { answer = d.answer; is = Decides-like d.answer f g d.is }

pub both : {P Q : Type 0} → IsDecided P → IsDecided Q → IsDecided (P × Q)
both d e = record { answer = d.answer && e.answer; is = Decides-and d.answer e.answer d.is e.is }

pub three : {P Q R : Type 0} → IsDecided P → IsDecided Q → IsDecided R → IsDecided (P × Q × R)
three d e f = alike (λ x. (x.0, x.1.0, x.1.1)) (λ x. (x.0, (x.1, x.2))) (both d (both e f))

pub either : {P Q : Type 0} → IsDecided P → IsDecided Q → IsDecided (P ⊎ Q)
either d e = record { answer = d.answer || e.answer; is = Decides-or d.answer e.answer d.is e.is }

pub told : (b : Bool) → IsDecided (IsTrue b)
told b = record { answer = b; is = (λ e. e, λ e. e) }

pub same-numbers : (m n : ℕ) → IsDecided (m ≡ n)
same-numbers m n = record { answer = nat_eq m n; is = Decides-eqb m n }

-- what is told by a number is decided
by-code : {X : Type 0} (code : X → ℕ) (of : ℕ → X) → ((x : X) → of (code x) ≡ x) → (x y : X) → IsDecided (x ≡ y)
by-code code of back x y = alike (λ e. sym (back x) ∙ ap of e ∙ back y) (λ e. ap code e) (same-numbers (code x) (code y))

abbrev op-code : Op → ℕ
op-code Lt = 0
op-code Le = 1
op-code Eq = 2
op-code Ge = 3
op-code Gt = 4
op-code Ne = 5
op-code AbsLt = 6
op-code AbsLe = 7
op-code AbsEq = 8
op-code AbsGe = 9
op-code AbsGt = 10

abbrev op-of : ℕ → Op
op-of n = get_or (Lt ∷ Le ∷ Eq ∷ Ge ∷ Gt ∷ Ne ∷ AbsLt ∷ AbsLe ∷ AbsEq ∷ AbsGe ∷ AbsGt ∷ []) n Lt

op-back : (x : Op) → op-of (op-code x) ≡ x
op-back Lt = refl
op-back Le = refl
op-back Eq = refl
op-back Ge = refl
op-back Gt = refl
op-back Ne = refl
op-back AbsLt = refl
op-back AbsLe = refl
op-back AbsEq = refl
op-back AbsGe = refl
op-back AbsGt = refl

abbrev truth-code : Truth → ℕ
truth-code True = 0
truth-code False = 1
truth-code Unknown = 2

abbrev truth-of : ℕ → Truth
truth-of n = get_or (True ∷ False ∷ Unknown ∷ []) n True

truth-back : (x : Truth) → truth-of (truth-code x) ≡ x
truth-back True = refl
truth-back False = refl
truth-back Unknown = refl

abbrev flag-code : Bool → ℕ
flag-code true = 0
flag-code false = 1

abbrev flag-of : ℕ → Bool
flag-of n = get_or (true ∷ false ∷ []) n true

flag-back : (x : Bool) → flag-of (flag-code x) ≡ x
flag-back true = refl
flag-back false = refl

same-columns : (c d : ColNo) → IsDecided (c ≡ d)
same-columns c d = alike (λ e. ap (λ (n : ℕ). record { 0 = n }) e) (λ e. ap (λ (x : ColNo). x.0) e) (same-numbers c.0 d.0)

same-values : (v w : Value) → IsDecided (v ≡ w)
same-values Null Null = always refl
same-values (Int m) (Int n) = alike (λ e. ap Int e) (λ e. cc) (record { answer = int_eq m n; is = Decides-int_eq m n })
same-values (Flag a) (Flag b) = alike (λ e. ap Flag e) (λ e. cc) (by-code flag-code flag-of flag-back a b)
same-values (String s) (String t) = alike (λ e. ap String e) (λ e. cc) (record { answer = bytes_eq s t; is = bytes_eq-Decides s t })
same-values _ _ = never (λ e. cc)

same-families : (f g : Option Family) → IsDecided (f ≡ g)
same-families None None = always refl
same-families (Some Integer) (Some Integer) = always refl
same-families (Some IntAbs) (Some IntAbs) = always refl
same-families (Some TextOps) (Some TextOps) = always refl
same-families (Some BoolOps) (Some BoolOps) = always refl
same-families (Some UuidOps) (Some UuidOps) = always refl
same-families (Some DateOps) (Some DateOps) = always refl
same-families (Some TimestampOps) (Some TimestampOps) = always refl
same-families (Some TimestampTzOps) (Some TimestampTzOps) = always refl
same-families (Some (NumericOps m)) (Some (NumericOps n)) = alike (λ e. ap (λ (s : ℕ). Some (NumericOps s)) e) (λ e. cc) (same-numbers m n)
same-families _ _ = never (λ e. cc)

same-sides : (a b : Operand) → IsDecided (SameSide a b)
same-sides (Col c) (Col d) = same-columns c.col d.col
same-sides (Lit v) (Lit w) = same-values v w
same-sides _ _ = never (λ h. h)

same-atoms : (c d : Cond) → IsDecided (SameAtom c d)
same-atoms (compare op l r) (compare other m s) = three (by-code op-code op-of op-back op other) (same-sides l m) (same-sides r s)
same-atoms (is_null c) (is_null d) = same-columns c.col d.col
same-atoms (is_not_null c) (is_not_null d) = same-columns c.col d.col
same-atoms (bool_col c) (bool_col d) = same-columns c.col d.col
same-atoms (const t) (const u) = by-code truth-code truth-of truth-back t u
same-atoms (negation c) (negation d) = same-atoms c d
same-atoms _ _ = never (λ h. h)

family-value : (f : Family) (v : Value) → IsDecided (IsFamilyValue f v)
family-value Integer (Int n) = always tt
family-value IntAbs (Int n) = always tt
family-value TextOps (String t) = always tt
family-value BoolOps (Flag b) = always tt
family-value UuidOps (String t) = always tt
family-value DateOps (Int n) = always tt
family-value TimestampOps (Int n) = always tt
family-value TimestampTzOps (Int n) = always tt
family-value (NumericOps scale) (Int n) = always tt
family-value _ _ = never (λ h. h)

cell-holds : (f : Option Family) (op : Op) (v : Value) (other : Op) (w : Value) → IsDecided (CellHolds f op v other w)
cell-holds None op v other w = never (λ h. h)
cell-holds (Some f) op v other w = three (family-value f v) (family-value f w) (told (implication_cell (plain op) (plain other) (value_order f w v)))

module _ (columns : List Column) where
  table-gives : (op : Op) (c : ColNo) (v : Value) (other : Op) (d : ColNo) (w : Value) → IsDecided (TableGives columns op c v other d w)
  table-gives op c v other d w =
      three (same-columns c d) (same-families (operator_family columns c op) (operator_family columns d other)) (cell-holds (operator_family columns c op) op v other w)

  comparison-gives : (c d : Cond) → IsDecided (ComparisonGives columns c d)
  comparison-gives (compare op l r) (is_not_null d) = told (some_column (has_column_number d.col) (compare op l r))
  comparison-gives (compare op (Col c) (Lit v)) (compare other (Col d) (Lit w)) = table-gives op c.col v other d.col w
  comparison-gives _ _ = never (λ h. h)

  -- lists of parts, each of which is decided
  abbrev Below : (Cond → Type 0) → ℕ → Type 0
  Below P n = (p : Cond) → weight p ≤ n → IsDecided (P p)

  first-below : {P : Cond → Type 0} (p : Cond) (ps : Conds) → Below P (weight_all (cond_and p ps)) → IsDecided (P p)
  first-below p ps h = h p (omega arith)

  rest-below : {P : Cond → Type 0} (p : Cond) (ps : Conds) → Below P (weight_all (cond_and p ps)) → Below P (weight_all ps)
  rest-below p ps h k le = h k (omega (arith, le))

  implies-all : (c : Cond) (ps : Conds) → Below (Implies columns c) (weight_all ps) → IsDecided (ImpliesAll columns c ps)
  implies-all c no_conds h = always (no_part c)
  implies-all c (cond_and p ps) h = alike (λ x. part_and c p ps x.0 x.1) split (both (first-below p ps h) (implies-all c ps (rest-below p ps h)))
    where
      split : ImpliesAll columns c (cond_and p ps) → Implies columns c p × ImpliesAll columns c ps
      split (part_and _ _ _ x xs) = (x, xs)

  implies-some : (c : Cond) (ps : Conds) → Below (Implies columns c) (weight_all ps) → IsDecided (ImpliesSome columns c ps)
  implies-some c no_conds h = never none
    where
      none : ¬ ImpliesSome columns c no_conds
      none x = elim x [ ]
  implies-some c (cond_and p ps) h = alike join split (either (first-below p ps h) (implies-some c ps (rest-below p ps h)))
    where
      join : Implies columns c p ⊎ ImpliesSome columns c ps → ImpliesSome columns c (cond_and p ps)
      join (inl x) = this_part c p ps x
      join (inr x) = later_part c p ps x

      split : ImpliesSome columns c (cond_and p ps) → Implies columns c p ⊎ ImpliesSome columns c ps
      split (this_part _ _ _ x) = inl x
      split (later_part _ _ _ x) = inr x

  all-imply : (cs : Conds) (g : Cond) → Below (λ c. Implies columns c g) (weight_all cs) → IsDecided (AllImply columns cs g)
  all-imply no_conds g h = always (no_arm g)
  all-imply (cond_and c cs) g h = alike (λ x. arm_and c g cs x.0 x.1) split (both (first-below c cs h) (all-imply cs g (rest-below c cs h)))
    where
      split : AllImply columns (cond_and c cs) g → Implies columns c g × AllImply columns cs g
      split (arm_and _ _ _ x xs) = (x, xs)

  some-imply : (cs : Conds) (g : Cond) → Below (λ c. Implies columns c g) (weight_all cs) → IsDecided (SomeImplies columns cs g)
  some-imply no_conds g h = never none
    where
      none : ¬ SomeImplies columns no_conds g
      none x = elim x [ ]
  some-imply (cond_and c cs) g h = alike join split (either (first-below c cs h) (some-imply cs g (rest-below c cs h)))
    where
      join : Implies columns c g ⊎ SomeImplies columns cs g → SomeImplies columns (cond_and c cs) g
      join (inl x) = this_clause c g cs x
      join (inr x) = later_clause c g cs x

      split : SomeImplies columns (cond_and c cs) g → Implies columns c g ⊎ SomeImplies columns cs g
      split (this_clause _ _ _ x) = inl x
      split (later_clause _ _ _ x) = inr x

  each-some : (cs ps : Conds) → Below (λ c. ImpliesSome columns c ps) (weight_all cs) → IsDecided (EachImpliesSome columns cs ps)
  each-some no_conds ps h = always (no_choice ps)
  each-some (cond_and c cs) ps h = alike (λ x. choice_and c cs ps x.0 x.1) split (both (first-below c cs h) (each-some cs ps (rest-below c cs h)))
    where
      split : EachImpliesSome columns (cond_and c cs) ps → ImpliesSome columns c ps × EachImpliesSome columns cs ps
      split (choice_and _ _ _ x xs) = (x, xs)

  weight-some : (c : Cond) → 1 ≤ weight c
  weight-some (compare op l r) = omega arith
  weight-some (is_null c) = omega arith
  weight-some (is_not_null c) = omega arith
  weight-some (bool_col c) = omega arith
  weight-some (const t) = omega arith
  weight-some (all_of cs) = omega arith
  weight-some (any_of cs) = omega arith
  weight-some (negation c) = omega arith

  -- a condition is an AND, an OR or neither
  data IsOfKind (c : Cond) : Type 0 where
    is_an_and : (cs : Conds) → c ≡ all_of cs → IsOfKind c
    is_an_or : (cs : Conds) → c ≡ any_of cs → IsOfKind c
    is_neither : is_any c ≡ false → is_all c ≡ false → is_atom c ≡ true → IsOfKind c

  kind : (c : Cond) → IsOfKind c
  kind (all_of cs) = is_an_and cs refl
  kind (any_of cs) = is_an_or cs refl
  kind (compare op l r) = is_neither refl refl refl
  kind (is_null c) = is_neither refl refl refl
  kind (is_not_null c) = is_neither refl refl refl
  kind (bool_col c) = is_neither refl refl refl
  kind (const t) = is_neither refl refl refl
  kind (negation c) = is_neither refl refl refl

  decided : {P : Type 0} (r : Bool) → (IsTrue r ↔ P) → IsDecided P
  decided r h = record { answer = r; is = h }

  -- by what was decided first
  by-answer : {P Q : Type 0} (b : Bool) → (IsTrue b ↔ Q) → ((IsTrue true ↔ Q) → IsDecided P) → ((IsTrue false ↔ Q) → IsDecided P) → IsDecided P
  by-answer true h so not_so = so h
  by-answer false h so not_so = not_so h

  by-first : {P Q : Type 0} → IsDecided Q → ((IsTrue true ↔ Q) → IsDecided P) → ((IsTrue false ↔ Q) → IsDecided P) → IsDecided P
  by-first d so not_so = by-answer d.answer d.is so not_so

  abbrev Smaller : ℕ → Type 0
  Smaller n = (c g : Cond) → weight c + weight g ≤ n → IsDecided (Implies columns c g)

  against-all : (n : ℕ) → Smaller n → (c : Cond) (ps : Conds) → weight c + weight (all_of ps) ≤ suc n → IsDecided (Implies columns c (all_of ps))
  against-all n h c ps le =
      by-first (implies-all c ps (λ p k. h c p (omega (arith, le, k))))
      (λ so. decided true (all-each columns c (all_of ps) ps refl so))
      (λ not_so. by (kind c) not_so)
    where
      arms : (cs : Conds) → c ≡ any_of cs → IsDecided (AllImply columns cs (all_of ps))
      arms cs e = all-imply cs (all_of ps) (λ k small. h k (all_of ps) (let w = ap weight e in omega (arith, le, small, w)))

      by : IsOfKind c → (IsTrue false ↔ ImpliesAll columns c ps) → IsDecided (Implies columns c (all_of ps))
      by (is_an_and cs e) not_so = decided false (all-never columns c (all_of ps) ps (ap is_any e) refl not_so)
      by (is_an_or cs e) not_so = let a = arms cs e in decided a.answer (all-arms columns a.answer c (all_of ps) cs ps e refl not_so a.is)
      by (is_neither f k t) not_so = decided false (all-never columns c (all_of ps) ps f refl not_so)

  against-any : (n : ℕ) → Smaller n → (c : Cond) (ps : Conds) → weight c + weight (any_of ps) ≤ suc n → IsDecided (Implies columns c (any_of ps))
  against-any n h c ps le = by (kind c)
    where
      some : IsDecided (ImpliesSome columns c ps)
      some = implies-some c ps (λ p k. h c p (omega (arith, le, k)))

      each : (cs : Conds) → c ≡ any_of cs → IsDecided (EachImpliesSome columns cs ps)
      each cs e = each-some cs ps (λ k small. implies-some k ps (λ p less. h k p (let w = ap weight e in omega (arith, le, small, less, w))))

      parts : (cs : Conds) → c ≡ all_of cs → IsDecided (SomeImplies columns cs (any_of ps))
      parts cs e = some-imply cs (any_of ps) (λ k small. h k (any_of ps) (let w = ap weight e in omega (arith, le, small, w)))

      by : IsOfKind c → IsDecided (Implies columns c (any_of ps))
      by (is_an_or cs e) = let a = each cs e in decided a.answer (any-arms columns a.answer c (any_of ps) cs ps e refl a.is)
      by (is_an_and cs e) =
          by-first some
          (λ so. decided true (any-some columns c (any_of ps) ps (ap is_any e) refl so))
          (λ not_so. let a = parts cs e in decided a.answer (any-parts columns a.answer c (any_of ps) cs ps e refl not_so a.is))
      by (is_neither f k t) =
          by-first some
          (λ so. decided true (any-some columns c (any_of ps) ps f refl so))
          (λ not_so. decided false (any-never columns c (any_of ps) ps f k refl not_so))

  against-atom : (n : ℕ) → Smaller n → (c g : Cond) → is_atom g ≡ true → weight c + weight g ≤ suc n → IsDecided (Implies columns c g)
  against-atom n h c g atom le = by (kind c)
    where
      by : IsOfKind c → IsDecided (Implies columns c g)
      by (is_an_or cs e) =
          let a = all-imply cs g (λ k small. h k g (let w = ap weight e in omega (arith, le, small, w))) in
          decided a.answer (atom-arms columns a.answer c g cs e atom a.is)
      by (is_an_and cs e) =
          let a = some-imply cs g (λ k small. h k g (let w = ap weight e in omega (arith, le, small, w))) in
          decided a.answer (atom-parts columns a.answer c g cs e atom a.is)
      by (is_neither f k t) =
          by-first (same-atoms c g)
          (λ so. decided true (atom-same columns c g so))
          (λ not_so. let a = comparison-gives c g in decided a.answer (atom-comparison columns a.answer c g f k atom not_so a.is))

  implies-next : (n : ℕ) → Smaller n → Smaller (suc n)
  implies-next n h c g le = by (kind g)
    where
      by : IsOfKind g → IsDecided (Implies columns c g)
      by (is_an_and ps e) = alike (subst (Implies columns c) (sym e)) (subst (Implies columns c) e) (against-all n h c ps (let w = ap weight e in omega (arith, le, w)))
      by (is_an_or ps e) = alike (subst (Implies columns c) (sym e)) (subst (Implies columns c) e) (against-any n h c ps (let w = ap weight e in omega (arith, le, w)))
      by (is_neither f k t) = against-atom n h c g t le

  implies-below : (n : ℕ) → Smaller n
  implies-below zero c g le = let w = weight-some c in absurd (omega (arith, le, w))
  implies-below (suc n) c g le = implies-next n (implies-below n) c g le

  -- whether a condition implies another one
  pub implication-decided : (c g : Cond) → IsDecided (Implies columns c g)
  implication-decided c g = implies-below (weight c + weight g) c g (omega arith)

or-not-by : {P : Type 0} (b : Bool) → (IsTrue b ↔ P) → P ⊎ (¬ P)
or-not-by true h = inl (h.0 refl)
or-not-by false h = inr (λ p. false≢true (h.1 p))

pub or-not : {P : Type 0} → IsDecided P → P ⊎ (¬ P)
or-not d = or-not-by d.answer d.is
