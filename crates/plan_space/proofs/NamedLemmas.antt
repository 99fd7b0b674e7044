-- The relations that clauses name, by their numbers.
use Prim.Native.Nat.{suc, zero}
use Rattle.std.proofs.Common.{◌≡◌, ◌<◌, ◌≤◌, ◌+◌, ℕ, Bool, true, false, not, cond, ◌&&◌, ◌||◌, nat_eq, nat_lt, List, [], ◌∷◌, length, map, filter, drop, IsTrue, refl, sym, ap, ◌∙◌, arith, true≢false, ◌⊎◌, inl, inr, ◌↔◌}
use Rattle.std.specs.List.{AllByRecursion, enumerate_from, list_any}
use Rattle.std.proofs.Math.ListN.{drop_of_length-le}
use Rattle.std.proofs.lemmas.Bool.{and_parts, cases_lt}
use Rattle.std.proofs.lemmas.Grind.{common_steps}
use Rattle.std.proofs.lemmas.List.{drop_more}
use Rattle.pg_base.specs.Sets.{has}
use Rattle.pg_base.specs.declared.numbers.IndexNo.{IndexNo}
use Rattle.pg_base.proofs.SetLaws.{same_set}
use Rattle.opfamily.specs.declared.classes.Method.{Method}
use Rattle.opfamily.specs.declared.classes.Method.TheVariants.{Btree, Hash}
use Rattle.pg_expr.specs.Cond.{Cond}
use Rattle.pg_expr.specs.Columns.{names_rel}
use Rattle.pg_expr.specs.work.Columns.{rels_below}
use Rattle.pg_expr.proofs.ColumnLaws.{weaker-each}
use Rattle.catalog.specs.Range.{Range}
use Rattle.path_cost.specs.work.Columns.{IsOver, is_column_in}
use Rattle.catalog.specs.Contents.{Contents, index_at}
use Rattle.eq_classes.specs.Clauses.{Clause, Set, ClassTable}
use Rattle.eq_classes.specs.Listing.{clause_at}
use Rattle.eq_classes.proofs.ClasswiseLemmas.{same_truth}
use Rattle.plan_tree.specs.index_match_Conditions.{allowed, is_condition, index_conditions}
use Rattle.plan_tree.specs.index_match_Numbered.{Numbered, numbered, conditions_of, has_number, local}
use Rattle.path_cost.specs.Estimates.{conditions_from}
use Rattle.path_cost.proofs.KeptLemmas.{conditions-at}
use Rattle.plan_tree.specs.Space.{IsSameSet, others_named}

-- a condition is that of the clause of its number
pub record IsOfTable (ks : List Clause) (x : Numbered) : Type 0 where
  pub within : x.number < length ks
  pub same : x.cond ≡ (clause_at ks x.number).cond

pub enumerated : (all : List Clause) (test : Clause → Bool) (n : ℕ) (ks : List Clause) → drop n all ≡ ks →
    AllByRecursion (IsOfTable all) (map (λ (p : ℕ × Clause). numbered (p.0, p.1.cond)) (filter (λ (p : ℕ × Clause). test p.1) (enumerate_from n ks)))
enumerated all test n [] e = tt
enumerated all test n (k ∷ ks) e = by (test k) (enumerated all test (n + 1) ks tail)
  where
    inside : (n < length all) ⊎ (length all ≤ n) → n < length all
    inside (inl lt) = lt
    inside (inr le) = let wrong : [] ≡ k ∷ ks = sym (drop_of_length-le all le) ∙ e in cc

    lt : n < length all
    lt = inside (cases_lt n (length all))

    parts : clause_at all n ∷ drop (n + 1) all ≡ k ∷ ks
    parts = sym (drop_more all n _ lt) ∙ e

    tail : drop (n + 1) all ≡ ks
    tail = cc parts

    head : clause_at all n ≡ k
    head = cc parts

    by : (b : Bool) → AllByRecursion (IsOfTable all) (map (λ (p : ℕ × Clause). numbered (p.0, p.1.cond)) (filter (λ (p : ℕ × Clause). test p.1) (enumerate_from (n + 1) ks))) →
        AllByRecursion (IsOfTable all) (map (λ (p : ℕ × Clause). numbered (p.0, p.1.cond)) (cond b ((n, k) ∷ filter (λ (p : ℕ × Clause). test p.1) (enumerate_from (n + 1) ks)) (filter (λ (p : ℕ × Clause). test p.1) (enumerate_from (n + 1) ks))))
    by true rest = (record { within = lt; same = ap (λ (x : Clause). x.cond) (sym head) }, rest)
    by false rest = rest

kept-of : (ks : List Clause) (test : Numbered → Bool) (xs : List Numbered) → AllByRecursion (IsOfTable ks) xs → AllByRecursion (IsOfTable ks) (filter test xs)
kept-of ks test [] h = tt
kept-of ks test (x ∷ xs) h = by (test x) (kept-of ks test xs h.1)
  where
    by : (b : Bool) → AllByRecursion (IsOfTable ks) (filter test xs) → AllByRecursion (IsOfTable ks) (cond b (x ∷ filter test xs) (filter test xs))
    by true rest = (h.0, rest)
    by false rest = rest

allowed-of : (ks : List Clause) (m : Method) (xs : List Numbered) → AllByRecursion (IsOfTable ks) xs → AllByRecursion (IsOfTable ks) (allowed m xs)
allowed-of ks Btree xs h = h
allowed-of ks Hash [] h = tt
allowed-of ks Hash (x ∷ xs) h = (h.0, tt)

pub conditions-of-table : (c : Contents) (t : ClassTable) (i : IndexNo) (r : ℕ) (p : Set) → AllByRecursion (IsOfTable t.clauses) (index_conditions c t i r p)
conditions-of-table c t i r p =
    let d = index_at c i in
    allowed-of t.clauses d.method (filter (λ (x : Numbered). is_condition d r x.cond) (local t r p)) (kept-of t.clauses (λ x. is_condition d r x.cond) (local t r p) (enumerated t.clauses _ 0 t.clauses refl))

-- a clause of a list that is found: its number, and that it passes
record Found (ks : List Clause) (chosen : ℕ → Bool) (f : Cond → Bool) : Type 0 where
  pub number : ℕ
  pub within : number < length ks
  pub is_chosen : chosen number ≡ true
  pub passes : f (clause_at ks number).cond ≡ true

later : (ks : List Clause) (cs : List Numbered) (x : Numbered) (f : Cond → Bool) → Found ks (has_number cs) f → Found ks (has_number (x ∷ cs)) f
later ks cs x f h = record { number = h.number; within = h.within; is_chosen = or-right (nat_eq h.number x.number) h.is_chosen; passes = h.passes }
  where
    or-right : {b : Bool} (a : Bool) → b ≡ true → a || b ≡ true
    or-right true e = refl
    or-right false e = e

listed-found : (ks : List Clause) (cs : List Numbered) (f : Cond → Bool) → AllByRecursion (IsOfTable ks) cs → list_any f (conditions_of cs) ≡ true → Found ks (has_number cs) f
listed-found ks [] f of h = absurd (true≢false (sym h))
listed-found ks (x ∷ cs) f of h = by (listed-found ks cs f of.1) (f x.cond) refl h
  where
    itself : (n : ℕ) (b : Bool) → nat_eq n n || b ≡ true
    itself n b = grind (arith, common_steps)

    by : (list_any f (conditions_of cs) ≡ true → Found ks (has_number cs) f) → (b : Bool) → f x.cond ≡ b → b || list_any f (conditions_of cs) ≡ true → Found ks (has_number (x ∷ cs)) f
    by rest true e g = record { number = x.number; within = of.0.within; is_chosen = itself x.number (has_number cs x.number); passes = ap f (sym of.0.same) ∙ e }
    by rest false e g = later ks cs x f (rest g)

found-listed : (ks : List Clause) (cs : List Numbered) (f : Cond → Bool) (n : ℕ) → AllByRecursion (IsOfTable ks) cs → has_number cs n ≡ true → f (clause_at ks n).cond ≡ true → list_any f (conditions_of cs) ≡ true
found-listed ks [] f n of h passes = absurd (true≢false (sym h))
found-listed ks (x ∷ cs) f n of h passes = by (λ g. found-listed ks cs f n of.1 g passes) (nat_eq n x.number) refl h
  where
    same : (m k : ℕ) → nat_eq m k ≡ true → m ≡ k
    same m k e = grind (arith, common_steps)

    or-right : {b : Bool} (a : Bool) → b ≡ true → a || b ≡ true
    or-right true e = refl
    or-right false e = e

    by : (has_number cs n ≡ true → list_any f (conditions_of cs) ≡ true) → (b : Bool) → nat_eq n x.number ≡ b → b || has_number cs n ≡ true → f x.cond || list_any f (conditions_of cs) ≡ true
    by rest true e g = ap (λ b. b || list_any f (conditions_of cs)) (ap f (of.0.same ∙ ap (λ m. (clause_at ks m).cond) (sym (same n x.number e))) ∙ passes)
    by rest false e g = or-right (f x.cond) (rest g)

-- one clause after the other
pub named-at : (ks : List Clause) (chosen : ℕ → Bool) (f : Cond → Bool) (n : ℕ) → n < length ks →
    list_any f (conditions_from n chosen (drop n ks)) ≡ (chosen n && f (clause_at ks n).cond) || list_any f (conditions_from (n + 1) chosen (drop (n + 1) ks))
named-at ks chosen f n lt = ap (list_any f) (conditions-at ks chosen n (chosen n) lt refl) ∙ by (chosen n)
  where
    by : (b : Bool) → list_any f (cond b ((clause_at ks n).cond ∷ conditions_from (n + 1) chosen (drop (n + 1) ks)) (conditions_from (n + 1) chosen (drop (n + 1) ks))) ≡ (b && f (clause_at ks n).cond) || list_any f (conditions_from (n + 1) chosen (drop (n + 1) ks))
    by true = refl
    by false = refl

-- the clauses from a number on, of which one is found
from-found : (ks : List Clause) (chosen : ℕ → Bool) (f : Cond → Bool) (n left : ℕ) → n + left ≡ length ks → list_any f (conditions_from n chosen (drop n ks)) ≡ true → Found ks chosen f
from-found ks chosen f n zero e h = absurd (true≢false (sym (ap (λ xs. list_any f (conditions_from n chosen xs)) (sym (drop_of_length-le ks (omega (arith, e)))) ∙ h)))
from-found ks chosen f n (suc left) e h =
    let lt : n < length ks = omega (arith, e) in
    by lt (from-found ks chosen f (n + 1) left (omega (arith, e))) (chosen n) refl (f (clause_at ks n).cond) refl (sym (named-at ks chosen f n lt) ∙ h)
  where
    by : n < length ks → (list_any f (conditions_from (n + 1) chosen (drop (n + 1) ks)) ≡ true → Found ks chosen f) → (a : Bool) → chosen n ≡ a → (b : Bool) → f (clause_at ks n).cond ≡ b →
        (a && b) || list_any f (conditions_from (n + 1) chosen (drop (n + 1) ks)) ≡ true → Found ks chosen f
    by lt rest true c true p g = record { number = n; within = lt; is_chosen = c; passes = p }
    by lt rest true c false p g = rest g
    by lt rest false c b p g = rest g

found-from : (ks : List Clause) (chosen : ℕ → Bool) (f : Cond → Bool) (m n left : ℕ) → n + left ≡ m → m < length ks → chosen m ≡ true → f (clause_at ks m).cond ≡ true → list_any f (conditions_from n chosen (drop n ks)) ≡ true
found-from ks chosen f m n zero e lt c p =
    let same : m ≡ n = omega (arith, e) in
    named-at ks chosen f n (omega (arith, e, lt)) ∙ ap (λ k. (chosen k && f (clause_at ks k).cond) || list_any f (conditions_from (n + 1) chosen (drop (n + 1) ks))) (sym same) ∙ ap (λ b. (b && f (clause_at ks m).cond) || list_any f (conditions_from (n + 1) chosen (drop (n + 1) ks))) c ∙ ap (λ b. b || list_any f (conditions_from (n + 1) chosen (drop (n + 1) ks))) p
found-from ks chosen f m n (suc left) e lt c p =
    let rest = found-from ks chosen f m (n + 1) left (omega (arith, e)) lt c p in
    named-at ks chosen f n (omega (arith, e, lt)) ∙ or-right (chosen n && f (clause_at ks n).cond) rest
  where
    or-right : {b : Bool} (a : Bool) → b ≡ true → a || b ≡ true
    or-right true e = refl
    or-right false e = e

-- the conditions of an index name the relations that its clauses name
pub named-same : (ks : List Clause) (cs : List Numbered) (chosen : ℕ → Bool) (f : Cond → Bool) → AllByRecursion (IsOfTable ks) cs → ((n : ℕ) → chosen n ≡ has_number cs n) → list_any f (conditions_of cs) ≡ list_any f (conditions_from 0 chosen ks)
named-same ks cs chosen f of same =
    same_truth (list_any f (conditions_of cs)) (list_any f (conditions_from 0 chosen ks))
    (λ e. let h = listed-found ks cs f of e in found-from ks chosen f h.number 0 h.number (omega arith) h.within (same h.number ∙ h.is_chosen) h.passes)
    (λ e. let h = from-found ks chosen f 0 (length ks) (omega arith) e in found-listed ks cs f h.number of (sym (same h.number) ∙ h.is_chosen) h.passes)

pub named-sets : (ks : List Clause) (cs : List Numbered) (chosen : ℕ → Bool) (r : ℕ) → AllByRecursion (IsOfTable ks) cs → ((n : ℕ) → chosen n ≡ has_number cs n) → IsSameSet (others_named r (conditions_from 0 chosen ks)) (others_named r (conditions_of cs))
named-sets ks cs chosen r of same k = ap (λ b. not (nat_eq k r) && b) (sym (named-same ks cs chosen (names_rel k) of same))

-- a set of relations is one that is found where it has its number
pub same-by-number : (p others : ℕ) (named : Set) → ((k : ℕ) → has others k ≡ named k) → (nat_eq p others ≡ true) ↔ IsSameSet (has p) named
same-by-number p others named is = (λ e k. ap (λ n. has n k) (same p others e) ∙ is k, λ h. equal p others (same_set p others (λ k. h k ∙ sym (is k))))
  where
    same : (m k : ℕ) → nat_eq m k ≡ true → m ≡ k
    same m k e = grind (arith, common_steps)

    equal : (m k : ℕ) → m ≡ k → nat_eq m k ≡ true
    equal m k e = grind (arith, common_steps)

-- a condition over the relations of a query names no others
pub few-relations : (c : Contents) (range : Range) (e : Cond) → length range ≤ 16 → IsOver c range e → IsTrue (rels_below 16 e)
few-relations c range e few over = weaker-each (is_column_in c range) (λ x. nat_lt x.rel.0 16) (λ x h. below x.rel.0 (length range) few (and_parts (nat_lt x.rel.0 (length range)) _ h).0) e over.columns
  where
    below : (m n : ℕ) → n ≤ 16 → nat_lt m n ≡ true → nat_lt m 16 ≡ true
    below m n le h = grind (arith, common_steps, le, h)

pub minus-one : (r k : ℕ) (b named one : Bool) → b ≡ named && not one → one ≡ nat_eq k r → b ≡ not (nat_eq k r) && named
minus-one r k b named one e f = e ∙ ap (λ x. named && not x) f ∙ swap named (not (nat_eq k r))
  where
    swap : (x y : Bool) → x && y ≡ y && x
    swap true true = refl
    swap true false = refl
    swap false true = refl
    swap false false = refl
