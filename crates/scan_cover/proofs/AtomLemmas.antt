-- The OR clauses of a well bound query have few atoms.
use Rattle.std.proofs.Common.{◌≡◌, ◌≤◌, ◌+◌, ℕ, suc, Bool, true, false, cond, ◌&&◌, List, [], ◌∷◌, ◌++◌, map, sum, refl, sym, ap, subst, ◌∙◌, arith, ⊎_elim, inl, inr}
use Rattle.std.specs.Prelude.{flat_map, is_some}
use Rattle.std.proofs.lemmas.Bool.{cases_Bool}
use Rattle.std.proofs.lemmas.List.Concat.{flat_map-cons}
use Rattle.pg_base.specs.declared.limits.TheConstants.{MOST_ATOMS}
use Rattle.pg_value.specs.declared.value.SqlType.{SqlType}
use Rattle.pg_expr.specs.declared.operand.ColRef.{ColRef}
use Rattle.pg_expr.specs.declared.operand.Operand.TheVariants.{Col, Lit}
use Rattle.pg_expr.specs.Columns.{atom_count, atom_count_of}
use Rattle.pg_expr.specs.Cond.{Cond, Conds, conds_of, compare, is_null, is_not_null, bool_col, const, all_of, any_of, negation, no_conds, cond_and}
use Rattle.pg_expr.specs.Conjuncts.{conjuncts_of}
use Rattle.pg_expr.specs.Pushed.{pushed}
use Rattle.pg_expr.proofs.KeptLaws.{conjuncts-atoms, pushed-atoms}
use Rattle.catalog.specs.Contents.{Contents}
use Rattle.eq_classes.specs.Classes.{Class, conjuncts_in, listed}
use Rattle.eq_classes.specs.Clauses.{Clause, by_conjunct, clause_list, clauses_from, conjunct_clauses}
use Rattle.eq_classes.specs.Equality.{as_clause, equality_family, equality_in, is_column}
use Rattle.eq_classes.proofs.ColumnLemmas.{each_clause}
use Rattle.eq_classes.proofs.ListLemmas.{IsIn}
use Rattle.sql_query.specs.Queries.{Query}
use Rattle.sql_query.specs.WellBound.{IsWellBound, given_with}
use Rattle.plan_tree.specs.Bitmaps.{is_or}
use Rattle.pg_base.proofs.ListLemmas.{sum-cons}
use Rattle.scan_cover.specs.work.Limits.{HasFewAtoms, or_atoms}

sum-joined : (xs ys : List Clause) → sum (map or_atoms (xs ++ ys)) ≡ sum (map or_atoms xs) + sum (map or_atoms ys)
sum-joined [] ys = omega arith
sum-joined (x ∷ xs) ys =
    let e = sum-cons (or_atoms x) (map or_atoms (xs ++ ys)) in
    let f = sum-cons (or_atoms x) (map or_atoms xs) in
    let g = sum-joined xs ys in
    omega (arith, e, f, g)

-- what is no OR counts for nothing
none-count : (ks : List Clause) → ((k : Clause) → IsIn k ks → is_or k.cond ≡ false) → sum (map or_atoms ks) ≡ 0
none-count [] h = refl
none-count (k ∷ ks) h =
    let e = sum-cons (or_atoms k) (map or_atoms ks) in
    let first : or_atoms k ≡ 0 = ap (λ (b : Bool). cond b (atom_count k.cond) 0) (h k (inl refl)) in
    let rest = none-count ks (λ x i. h x (inr i)) in
    omega (arith, e, first, rest)

module _ (type_of : ColRef → SqlType) where
  as-or : (k : Cond) → cond (is_or (as_clause type_of k)) (atom_count (as_clause type_of k)) 0 ≤ atom_count k
  as-or (compare op (Col c) (Col d)) = by (is_column c d && is_some (equality_family op (type_of c)))
    where
      by : (b : Bool) → cond (is_or (cond b (is_not_null c) (compare op (Col c) (Col d)))) (atom_count (cond b (is_not_null c) (compare op (Col c) (Col d)))) 0 ≤ 1
      by true = omega arith
      by false = omega arith
  as-or (compare op (Col c) (Lit v)) = omega arith
  as-or (compare op (Lit v) r) = omega arith
  as-or (is_null c) = omega arith
  as-or (is_not_null c) = omega arith
  as-or (bool_col c) = omega arith
  as-or (const t) = omega arith
  as-or (all_of cs) = omega arith
  as-or (any_of cs) = omega arith
  as-or (negation c) = omega arith

  conjuncts-count : (n : ℕ) (ks : List Cond) → sum (map or_atoms (conjunct_clauses type_of n ks)) ≤ sum (map atom_count ks)
  conjuncts-count n [] = omega arith
  conjuncts-count n (k ∷ ks) = by (is_some (equality_in type_of k)) (conjuncts-count (suc n) ks)
    where
      by : (b : Bool) → sum (map or_atoms (conjunct_clauses type_of (suc n) ks)) ≤ sum (map atom_count ks) →
          sum (map or_atoms (cond b (conjunct_clauses type_of (suc n) ks) (record { cond = as_clause type_of k; source = by_conjunct n } ∷ conjunct_clauses type_of (suc n) ks))) ≤ sum (atom_count k ∷ map atom_count ks)
      by true rest = let f = sum-cons (atom_count k) (map atom_count ks) in omega (arith, rest, f)
      by false rest =
          let e = sum-cons (cond (is_or (as_clause type_of k)) (atom_count (as_clause type_of k)) 0) (map or_atoms (conjunct_clauses type_of (suc n) ks)) in
          let f = sum-cons (atom_count k) (map atom_count ks) in
          let first = as-or k in
          omega (arith, rest, e, f, first)

  classes-count : (classes : List Class) → sum (map or_atoms (clauses_from 0 classes)) ≡ 0
  classes-count classes = none-count (clauses_from 0 classes) (each_clause type_of [] classes (λ e. is_or e ≡ false) (λ k i. absurd i) (λ c i x y ix iy. refl) (λ c i x v ix iv. refl))

-- the atoms of the parts are those of the whole
listed-count : (cs : Conds) → sum (map atom_count (listed cs)) ≡ atom_count_of cs
listed-count no_conds = refl
listed-count (cond_and e es) = let f = sum-cons (atom_count e) (map atom_count (listed es)) in let rest = listed-count es in omega (arith, f, rest)

count-joined : (xs ys : List Cond) → sum (map atom_count (xs ++ ys)) ≡ sum (map atom_count xs) + sum (map atom_count ys)
count-joined [] ys = omega arith
count-joined (x ∷ xs) ys =
    let e = sum-cons (atom_count x) (map atom_count (xs ++ ys)) in
    let f = sum-cons (atom_count x) (map atom_count xs) in
    let g = count-joined xs ys in
    omega (arith, e, f, g)

written-count : (ws : List Cond) → sum (map atom_count (conjuncts_in ws)) ≡ atom_count_of (conds_of ws)
written-count [] = refl
written-count (w ∷ ws) =
    let parts : Cond → List Cond = λ e. listed (conjuncts_of (pushed false e)) in
    let split = ap (λ (xs : List Cond). sum (map atom_count xs)) (flat_map-cons parts w ws) in
    let both = count-joined (parts w) (conjuncts_in ws) in
    let first = listed-count (conjuncts_of (pushed false w)) ∙ conjuncts-atoms (pushed false w) ∙ pushed-atoms false w in
    let rest = written-count ws in
    omega (arith, split, both, first, rest)

pub atoms-few : (c : Contents) (q : Query) → IsWellBound c q → HasFewAtoms q
atoms-few c q is =
    let g = given_with c q is.items in
    let all = ap (λ (ks : List Clause). sum (map or_atoms ks)) is.classes.clauses in
    let both = sum-joined (conjunct_clauses g.type_of 1 g.conjuncts) (clauses_from 0 q.classes.classes) in
    let first = conjuncts-count g.type_of 1 g.conjuncts in
    let none = classes-count g.type_of q.classes.classes in
    let written = written-count q.where_all in
    let most = is.limits.atoms in
    omega (arith, all, both, first, none, written, most)
