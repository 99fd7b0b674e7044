-- The arms of some elements are no more than the atoms of the OR clauses of a query.
use Rattle.std.proofs.Common.{◌≡◌, ◌<◌, ◌≤◌, ◌+◌, ◌/◌, ◌%◌, ℕ, zero, suc, Bool, true, false, cond, ◌&&◌, ◌||◌, nat_eq, nat_lt, List, [], ◌∷◌, ◌++◌, length, map, filter, sum, take, refl, sym, ap, subst, ◌∙◌, arith, true≢false}
use Rattle.std.specs.Prelude.{Option, Some, None, slice_get}
use Rattle.std.specs.List.{AllZip, enumerate_from, list_all}
use Rattle.std.proofs.lemmas.Bool.{and_parts, eqb-true, ltb-true}
use Rattle.std.proofs.lemmas.List.{length-append}
use Rattle.pg_base.specs.Sets.{has}
use Rattle.pg_base.specs.declared.limits.TheConstants.{MOST_ATOMS}
use Rattle.pg_base.specs.declared.numbers.IndexNo.{IndexNo}
use Rattle.pg_base.specs.declared.numbers.RelNo.{RelNo}
use Rattle.pg_base.specs.declared.rel_set.RelSet.{RelSet}
use Rattle.opfamily.specs.declared.classes.Method.{Method}
use Rattle.opfamily.specs.declared.classes.Method.TheVariants.{Btree, Hash}
use Rattle.pg_expr.specs.Columns.{atom_count, atom_count_of}
use Rattle.pg_expr.specs.Cond.{Cond, Conds, any_of, no_conds, cond_and}
use Rattle.catalog.specs.Contents.{Contents, index_at, indexes_of}
use Rattle.catalog.specs.Indexes.{Index}
use Rattle.eq_classes.specs.Clauses.{Clause}
use Rattle.eq_classes.specs.Classes.{listed}
use Rattle.index_match.specs.Arms.{arm_parts, arms_of, is_matched, takes_parts}
use Rattle.index_match.specs.Conditions.{is_condition}
use Rattle.index_match.specs.Numbered.{Numbered, local, numbered}
use Rattle.index_match.proofs.ArmLemmas.{parts_few}
use Rattle.sql_query.specs.Queries.{Query}
use Rattle.plan_tree.specs.Bitmaps.{ArePicked, none_left, picked, passed, AreElements, Element, HasArms, IsElement, MOST_ELEMENTS, MatchesArm, by_clause, by_index, candidates, condition_at, condition_by, element_of, is_or, table_of_relation}
use Rattle.plan_tree.specs.Plans.{BitTree, leaf, all_hold, some_arm}
use Rattle.bitmap_scan.specs.work.Chosen.{IsLeastTree, marked}
use Rattle.pg_base.proofs.ListLemmas.{sum-cons}
use Rattle.plan_check.specs.Plains.{arms_in}
use Rattle.scan_cover.specs.work.Limits.{HasFewAtoms, arms_of_all, or_atoms}
use Rattle.eq_classes.specs.Parts.{is_local}

-- sums over a part of a list are no greater
sum-both : (b : Bool) (n : ℕ) (us vs : List ℕ) → sum us ≤ sum vs → sum (cond b (n ∷ us) us) ≤ sum (n ∷ vs)
sum-both true n us vs le = let e = sum-cons n us in let f = sum-cons n vs in omega (arith, le, e, f)
sum-both false n us vs le = let f = sum-cons n vs in omega (arith, le, f)

module _ {X : Type 0} (w : X → ℕ) where
  map-cond : (b : Bool) (x : X) (ys : List X) → map w (cond b (x ∷ ys) ys) ≡ cond b (w x ∷ map w ys) (map w ys)
  map-cond true x ys = refl
  map-cond false x ys = refl

  sum-marked : (n : ℕ) (xs : List X) → sum (map w (marked n xs)) ≤ sum (map w xs)
  sum-marked n [] = omega arith
  sum-marked n (x ∷ xs) =
      let rest = sum-marked (n / 2) xs in
      let same = map-cond (nat_eq (n % 2) 1) x (marked (n / 2) xs) in
      subst (λ (us : List ℕ). sum us ≤ sum (w x ∷ map w xs)) (sym same) (sum-both (nat_eq (n % 2) 1) (w x) (map w (marked (n / 2) xs)) (map w xs) rest)

  sum-taken : (n : ℕ) (xs : List X) → sum (map w (take n xs)) ≤ sum (map w xs)
  sum-taken zero xs = omega arith
  sum-taken (suc n) [] = omega arith
  sum-taken (suc n) (x ∷ xs) = sum-both true (w x) (map w (take n xs)) (map w xs) (sum-taken n xs)

  sum-picked : (P : X → Type 0) (xs ys : List X) → ArePicked P xs ys → sum (map w ys) ≤ sum (map w xs)
  sum-picked P _ _ none_left = omega arith
  sum-picked P _ _ (picked x xs ys h rest) = sum-both true (w x) (map w ys) (map w xs) (sum-picked P xs ys rest)
  sum-picked P _ _ (passed x xs ys h rest) = sum-both false (w x) (map w ys) (map w xs) (sum-picked P xs ys rest)

  sum-joined : (xs ys : List X) → sum (map w (xs ++ ys)) ≡ sum (map w xs) + sum (map w ys)
  sum-joined [] ys = omega arith
  sum-joined (x ∷ xs) ys =
      let e = sum-cons (w x) (map w (xs ++ ys)) in
      let f = sum-cons (w x) (map w xs) in
      let g = sum-joined xs ys in
      omega (arith, e, f, g)

-- a matched arm has an atom
some-part : (m : Method) (n : ℕ) → takes_parts m n ≡ true → 1 ≤ n
some-part Btree n h = ltb-true 0 n h
some-part Hash n h = let e = eqb-true n 1 h in omega (arith, e)

one-atom : (d : Index) (r : ℕ) (arm : Cond) → is_matched d r arm ≡ true → 1 ≤ atom_count arm
one-atom d r arm h =
    let parts = and_parts (takes_parts d.method (length (arm_parts arm))) (list_all (is_condition d r) (arm_parts arm)) h in
    let some = some-part d.method (length (arm_parts arm)) parts.0 in
    let few = parts_few d r arm parts.1 in
    omega (arith, some, few)

module _ (c : Contents) (q : Query) (r : RelNo) where
  arms-few : (es : Conds) (is : List IndexNo) → AllZip (MatchesArm c q r.0) (listed es) is → length is ≤ atom_count_of es
  arms-few no_conds [] z = omega arith
  arms-few no_conds (i ∷ is) z = absurd z
  arms-few (cond_and e es) [] z = omega arith
  arms-few (cond_and e es) (i ∷ is) z =
      let first = one-atom (index_at c i) r.0 e z.0.matched in
      let rest = arms-few es is z.1 in
      omega (arith, first, rest)

  or-few : (e : Cond) (is : List IndexNo) → AllZip (MatchesArm c q r.0) (arms_of e) is → length is ≤ cond (is_or e) (atom_count e) 0
  or-few (any_of es) is z = arms-few es is z
  or-few _ [] z = omega arith
  or-few _ (i ∷ is) z = absurd z

-- the atoms of a clause by its number, where it is an OR
abbrev atoms-by : Option Clause → ℕ
atoms-by None = 0
atoms-by (Some k) = or_atoms k

abbrev weight : Query → Element → ℕ
weight q (by_index i) = 0
weight q (by_clause n) = atoms-by (slice_get q.classes.clauses n)

condition-atoms : (o : Option Clause) → cond (is_or (condition_by o)) (atom_count (condition_by o)) 0 ≡ atoms-by o
condition-atoms None = refl
condition-atoms (Some k) = refl

module _ (c : Contents) (q : Query) (r : RelNo) (p : RelSet) where
  tree-few : (e : Element) (b : BitTree) → element_of c q r.0 (has p.0) b ≡ Some e → HasArms c q r.0 (has p.0) b → length (arms_in b) ≤ weight q e
  tree-few e (leaf i) is h = omega arith
  tree-few e (all_hold bs) is h = absurd h
  tree-few (by_index i) (some_arm m is') is h = absurd (cc)
  tree-few (by_clause n) (some_arm m is') is h =
      let same : m ≡ n = cc in
      let few = or-few c q r (condition_at q m) is' h in
      let atoms : cond (is_or (condition_at q m)) (atom_count (condition_at q m)) 0 ≡ atoms-by (slice_get q.classes.clauses n) = condition-atoms (slice_get q.classes.clauses m) ∙ ap (λ (k : ℕ). atoms-by (slice_get q.classes.clauses k)) same in
      omega (arith, few, atoms)

  trees-few : (es : List Element) (bs : List BitTree) → AllZip (IsLeastTree c q r p) es bs → length (arms_of_all bs) ≤ sum (map (weight q) es)
  trees-few [] [] z = omega arith
  trees-few [] (b ∷ bs) z = absurd z
  trees-few (e ∷ es) [] z = absurd z
  trees-few (e ∷ es) (b ∷ bs) z =
      let first = tree-few e b z.0.element z.0.arms in
      let rest = trees-few es bs z.1 in
      let long = length-append (arms_in b) (arms_of_all bs) in
      let all = sum-cons (weight q e) (map (weight q) es) in
      omega (arith, first, rest, long, all)

  index-weights : (is : List IndexNo) → sum (map (weight q) (map by_index is)) ≡ 0
  index-weights [] = refl
  index-weights (i ∷ is) = let e = sum-cons 0 (map (weight q) (map by_index is)) in let rest = index-weights is in omega (arith, e, rest)

  -- the clauses that pass a test, behind some others
  clause-weights : (test : Clause → Bool) (before after : List Clause) (n : ℕ) → n ≡ length before → before ++ after ≡ q.classes.clauses →
      sum (map (weight q) (map (λ (k : Numbered). by_clause k.number) (map (λ (x : ℕ × Clause). numbered (x.0, x.1.cond)) (filter (λ (x : ℕ × Clause). test x.1) (enumerate_from n after))))) ≤ sum (map or_atoms after)
  clause-weights test before [] n long all = omega arith
  clause-weights test before (k ∷ after) n long all =
      by (test k) (clause-weights test (before ++ k ∷ []) after (n + 1) (let more = length-append before (k ∷ []) in omega (arith, long, more)) (append-one before k after ∙ all))
    where
      append-one : (xs : List Clause) (x : Clause) (ys : List Clause) → (xs ++ x ∷ []) ++ ys ≡ xs ++ x ∷ ys
      append-one [] x ys = refl
      append-one (z ∷ xs) x ys = ap (λ (l : List Clause). z ∷ l) (append-one xs x ys)

      at-length : (xs : List Clause) (x : Clause) (ys : List Clause) → slice_get (xs ++ x ∷ ys) (length xs) ≡ Some x
      at-length [] x ys = refl
      at-length (z ∷ xs) x ys = at-length xs x ys

      here : atoms-by (slice_get q.classes.clauses n) ≡ or_atoms k
      here = ap (λ (xs : List Clause). atoms-by (slice_get xs n)) (sym all) ∙ ap (λ (m : ℕ). atoms-by (slice_get (before ++ k ∷ after) m)) long ∙ ap atoms-by (at-length before k after)

      by : (b : Bool) → sum (map (weight q) (map (λ (x : Numbered). by_clause x.number) (map (λ (x : ℕ × Clause). numbered (x.0, x.1.cond)) (filter (λ (x : ℕ × Clause). test x.1) (enumerate_from (n + 1) after))))) ≤ sum (map or_atoms after) →
          sum (map (weight q) (map (λ (x : Numbered). by_clause x.number) (map (λ (x : ℕ × Clause). numbered (x.0, x.1.cond)) (cond b ((n, k) ∷ filter (λ (x : ℕ × Clause). test x.1) (enumerate_from (n + 1) after)) (filter (λ (x : ℕ × Clause). test x.1) (enumerate_from (n + 1) after)))))) ≤ sum (or_atoms k ∷ map or_atoms after)
      by true later =
          let us = map (weight q) (map (λ (x : Numbered). by_clause x.number) (map (λ (x : ℕ × Clause). numbered (x.0, x.1.cond)) (filter (λ (x : ℕ × Clause). test x.1) (enumerate_from (n + 1) after)))) in
          let e = sum-cons (atoms-by (slice_get q.classes.clauses n)) us in
          let f = sum-cons (or_atoms k) (map or_atoms after) in
          let same = here in
          omega (arith, later, e, f, same)
      by false later = let f = sum-cons (or_atoms k) (map or_atoms after) in omega (arith, later, f)

  candidates-few : sum (map (weight q) (candidates c q r.0 (has p.0))) ≤ sum (map or_atoms q.classes.clauses)
  candidates-few =
      let is = map by_index (indexes_of c (table_of_relation q r.0)) in
      let ks = map (λ (k : Numbered). by_clause k.number) (local q.classes r.0 (has p.0)) in
      let both = sum-joined (weight q) is ks in
      let none = index-weights (indexes_of c (table_of_relation q r.0)) in
      let rest = clause-weights (is_local r.0 (has p.0)) [] q.classes.clauses 0 refl refl in
      omega (arith, both, none, rest)

  -- there is room for the arms of marked elements
  pub arms-fit : HasFewAtoms q → (es : List Element) (n : ℕ) (bs : List BitTree) → AreElements c q r.0 (has p.0) es → AllZip (IsLeastTree c q r p) (marked n (take MOST_ELEMENTS es)) bs → length (arms_of_all bs) ≤ MOST_ATOMS
  arms-fit few es n bs are z =
      let a = trees-few (marked n (take MOST_ELEMENTS es)) bs z in
      let b = sum-marked (weight q) n (take MOST_ELEMENTS es) in
      let d = sum-taken (weight q) MOST_ELEMENTS es in
      let e = sum-picked (weight q) (IsElement c q r.0 (has p.0)) (candidates c q r.0 (has p.0)) es are in
      let f = candidates-few in
      omega (arith, a, b, d, e, f, few)
