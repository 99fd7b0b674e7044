-- Scans that are given rows of other relations.
use Rattle.std.proofs.Common.{◌≡◌, ◌<◌, ◌+◌, ℕ, Bool, true, false, cond, nat_eq, nat_lt, List, [], ◌∷◌, sym, subst, ⊎_elim, refl, ◌||◌, arith}
use Rattle.std.specs.Prelude.{All, None, Some, IfSome}
use Rattle.std.specs.List.{list_any}
use Rattle.std.proofs.lemmas.Bool.{and_parts, eqb-true, ltb-true, or_cases, true≢false}
use Rattle.std.proofs.lemmas.List.Elements.{All-head, All-tail}
use Rattle.pg_expr.specs.Columns.{names_rel}
use Rattle.sql_query.specs.catalog_Contents.{Contents}
use Rattle.eq_classes.specs.Clauses.{Clause, one}
use Rattle.eq_classes.proofs.InsideLemmas.{column_both}
use Rattle.path_cost.specs.work.Columns.{IsOver, is_column_in}
use Rattle.path_cost.specs.Estimates.{conditions_from}
use Rattle.sql_query.specs.Queries.{Query, width}
use Rattle.std.proofs.Math.Bool.{or_self}
use Rattle.plan_tree.specs.Plans.{Plan, seq, index, index_only, bitmap, sort, nest, merge, given_scan, is_empty, param_of, set_of, GivenScan}
use Rattle.plan_tree.specs.work.Reads.{ReadsBelow}
use Rattle.plan_tree.specs.Space.{IsEmpty, IsSameSet}
use Rattle.plan_tree.proofs.LikeLemmas.{given-like}
use Rattle.pg_base.specs.declared.numbers.RelNo.{RelNo}
use Rattle.pg_base.specs.declared.rel_set.RelSet.{RelSet}

-- the conditions of clauses over some relations name no others
pub clauses-below : (c : Contents) (q : Query) (k : ℕ) (chosen : ℕ → Bool) (n : ℕ) (ks : List Clause) → All (λ (x : Clause). IsOver c q.range x.cond) ks → list_any (names_rel k) (conditions_from n chosen ks) ≡ true → k < width q
clauses-below c q k chosen n [] over h = absurd (true≢false (sym h))
clauses-below c q k chosen n (x ∷ ks) over h = by (clauses-below c q k chosen (n + 1) ks (All-tail (λ (y : Clause). IsOver c q.range y.cond) x ks over)) (chosen n) h
  where
    here : names_rel k x.cond ≡ true → k < width q
    here g =
        let first = All-head (λ (y : Clause). IsOver c q.range y.cond) x ks over in
        let found = column_both (is_column_in c q.range) (λ y. nat_eq k y.rel.0) x.cond first.columns g in
        let lt : (found.0).rel.0 < width q = ltb-true (found.0).rel.0 (width q) (and_parts (nat_lt (found.0).rel.0 (width q)) _ found.1).0 in
        subst (λ m. m < width q) (sym (eqb-true k (found.0).rel.0 found.2)) lt

    by : (list_any (names_rel k) (conditions_from (n + 1) chosen ks) ≡ true → k < width q) → (b : Bool) → list_any (names_rel k) (cond b (x.cond ∷ conditions_from (n + 1) chosen ks) (conditions_from (n + 1) chosen ks)) ≡ true → k < width q
    by later true g = ⊎_elim here later (or_cases (names_rel k x.cond) (list_any (names_rel k) (conditions_from (n + 1) chosen ks)) g)
    by later false g = later g

-- a plan that is given no rows is no scan that is
pub given-none : (t : Plan) → IsEmpty (param_of t) → given_scan t ≡ None
given-none t none = given-like t (nest t t) (record { set = λ k. sym (or_self (set_of t k)); param = λ k. none k })

-- a scan that is given rows is of one relation
pub scan-one : (r : RelNo) (p : RelSet) (b : Bool) → IfSome (cond b None (Some (record { relation = r; param = p }))) (λ (s : GivenScan). IsSameSet (one r.0) (one s.relation.0))
scan-one r p true = tt
scan-one r p false = λ k. refl

-- a scan that is given rows is of one relation alone
pub given-one : (t : Plan) → IfSome (given_scan t) (λ (s : GivenScan). IsSameSet (set_of t) (one s.relation.0))
given-one (seq r) = tt
given-one (index r i backward p) = scan-one r p (is_empty p)
given-one (index_only r i backward p) = scan-one r p (is_empty p)
given-one (bitmap r p bits) = scan-one r p (is_empty p)
given-one (sort keys input) = given-one input
given-one (nest o i) = tt
given-one (merge keys o i) = tt

-- what a plan reads is below the bound of its relations
pub read-below : (n : ℕ) (t : Plan) (k : ℕ) → ReadsBelow n t → set_of t k ≡ true → k < n
read-below n (seq r) k h e = let same : k ≡ r.0 = eqb-true k r.0 e in omega (arith, same, h)
read-below n (index r i backward p) k h e = let same : k ≡ r.0 = eqb-true k r.0 e in omega (arith, same, h)
read-below n (index_only r i backward p) k h e = let same : k ≡ r.0 = eqb-true k r.0 e in omega (arith, same, h)
read-below n (bitmap r p bits) k h e = let same : k ≡ r.0 = eqb-true k r.0 e in omega (arith, same, h)
read-below n (sort keys input) k h e = read-below n input k h e
read-below n (nest o i) k h e = ⊎_elim (read-below n o k h.0) (read-below n i k h.1) (or_cases (set_of o k) (set_of i k) e)
read-below n (merge keys o i) k h e = ⊎_elim (read-below n o k h.0) (read-below n i k h.1) (or_cases (set_of o k) (set_of i k) e)
