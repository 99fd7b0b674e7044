-- Bitmap trees of the plan space can be made: their indexes are of the relation's table, and their conditions are over it and
-- the rows given.
use Rattle.std.proofs.Common.{◌≡◌, ◌+◌, ◌<◌, ◌≤◌, ℕ, Bool, true, ◌&&◌, List, [], ◌∷◌, ◌++◌, length, map, filter, take, refl, sym, ap, ◌∙◌, subst, arith, inl, inr, All}
use Rattle.std.specs.Prelude.{Some}
use Rattle.std.specs.List.{AllZip, enumerate_from, items_where_true, list_all}
use Rattle.std.proofs.lemmas.Bool.{and_parts, eq-eqb, lt-ltb}
use Rattle.pg_base.specs.Sets.{has}
use Rattle.pg_base.specs.declared.numbers.IndexNo.{IndexNo}
use Rattle.pg_base.specs.declared.numbers.RelNo.{RelNo}
use Rattle.pg_base.specs.declared.numbers.Tid.{Tid}
use Rattle.pg_base.specs.declared.rel_set.RelSet.{RelSet}
use Rattle.pg_value.specs.declared.operators.Truth.TheVariants.{True}
use Rattle.opfamily.specs.declared.classes.Method.{Method}
use Rattle.opfamily.specs.declared.classes.Method.TheVariants.{Btree, Hash}
use Rattle.pg_expr.specs.declared.operand.ColRef.{ColRef}
use Rattle.pg_expr.specs.declared.expr.Expr.{Expr}
use Rattle.pg_expr.specs.Columns.{each_column, each_column_of}
use Rattle.pg_expr.specs.Cond.{Cond, compare, is_null, is_not_null, bool_col, const, all_of, any_of, negation, Conds, no_conds, cond_and}
use Rattle.pg_expr.specs.Typed.{AreTyped}
use Rattle.pg_expr.specs.work.View as view
use Rattle.catalog.specs.Contents.{Contents, index_at, indexes_of}
use Rattle.catalog.specs.Range.{type_in}
use Rattle.eq_classes.specs.Classes.{listed}
use Rattle.eq_classes.specs.Clauses.{Clause, Set, clause, by_conjunct, one}
use Rattle.eq_classes.specs.Listing.{clause_at}
use Rattle.eq_classes.specs.Parts.{union, is_local}
use Rattle.eq_classes.proofs.HoldLemmas.{in_map}
use Rattle.eq_classes.proofs.ListLemmas.{IsIn, all_from, in_filter}
use Rattle.index_match.specs.Arms.{arm_parts, arms_of, is_matched, takes_parts}
use Rattle.index_match.specs.Conditions.{allowed, is_condition}
use Rattle.index_match.specs.Numbered.{Numbered, conditions_of, local, numbered}
use Rattle.path_cost.specs.work.Columns.{is_column_in}
use Rattle.sql_query.specs.Queries.{Query}
use Rattle.plan_tree.specs.Bitmaps.{ArePicked, Element, IsBitTree, IsElement, HasArms, HaveArms, MOST_ELEMENTS, MatchesArm, by_clause, by_index, candidates, condition_at, element_of, elements_of, none_left, passed, picked, table_of_relation}
use Rattle.plan_tree.specs.Plans.{BitTree, leaf, all_hold, some_arm, BitTrees, no_trees, tree_and}
use Rattle.plan_tree.proofs.CostableLemmas.{In, in-contained, in-masked, in-picked, in-taken, index-listed}
use Rattle.plan_tree.proofs.ElementLemmas.{condition-here, listed-on}
use Rattle.store.specs.work.Kept.{Kept}
use Rattle.scan_probes.specs.work.Values.{Given}
use Rattle.scan_probes.proofs.BoundsLemmas.{in_conditions}
use Rattle.scan_exec.specs.work.Held.{AreHeldTrees, HasTree, IsHeldTree}
use Rattle.scan_exec.specs.work.Scene.{IsNear, IsScene, IsUsed}
use Rattle.scan_exec.proofs.LimitLemmas.{places_number}
use Rattle.scan_exec.proofs.NearLemmas.{clauses_near}
use Rattle.plan_tree.proofs.PickedLemmas.{holds-picked as holds_picked}

-- a condition's parts are over what it is over
module _ (c : Contents) (q : Query) (r : ℕ) (p : Set) where
  abbrev near : ColRef → Bool
  near x = is_column_in c q.range x && union (one r) p x.rel.0

  near_listed : (cs : Conds) → each_column_of near cs ≡ true → AreTyped (type_in c q.range) cs → (e : Cond) → IsIn e (listed cs) → IsNear c q r p e
  near_listed no_conds columns typed e i = absurd i
  near_listed (cond_and x cs) columns typed e (inl same) =
      subst (IsNear c q r p) (sym same) (record { columns = (and_parts (each_column near x) (each_column_of near cs) columns).0; typed = typed.0 })
  near_listed (cond_and x cs) columns typed e (inr i) = near_listed cs (and_parts (each_column near x) (each_column_of near cs) columns).1 typed.1 e i

  itself : (arm : Cond) → IsNear c q r p arm → (e : Cond) → IsIn e (arm ∷ []) → IsNear c q r p e
  itself arm is e (inl same) = subst (IsNear c q r p) (sym same) is
  itself arm is e (inr none) = absurd none

  pub near_parts : (arm : Cond) → IsNear c q r p arm → (e : Cond) → IsIn e (arm_parts arm) → IsNear c q r p e
  near_parts (all_of cs) is e i = near_listed cs is.columns is.typed e i
  near_parts (compare op a b) is e i = itself (compare op a b) is e i
  near_parts (is_null x) is e i = itself (is_null x) is e i
  near_parts (is_not_null x) is e i = itself (is_not_null x) is e i
  near_parts (bool_col x) is e i = itself (bool_col x) is e i
  near_parts (const x) is e i = itself (const x) is e i
  near_parts (any_of cs) is e i = itself (any_of cs) is e i
  near_parts (negation x) is e i = itself (negation x) is e i

  near_each : (es : List Expr) → each_column_of near (view.conds es) ≡ true → AreTyped (type_in c q.range) (view.conds es) → (e : Expr) → IsIn e es → IsNear c q r p (view.cond e)
  near_each [] columns typed e i = absurd i
  near_each (x ∷ es) columns typed e (inl same) =
      subst (λ (y : Expr). IsNear c q r p (view.cond y)) (sym same) (record { columns = (and_parts (each_column near (view.cond x)) (each_column_of near (view.conds es)) columns).0; typed = typed.0 })
  near_each (x ∷ es) columns typed e (inr i) = near_each es (and_parts (each_column near (view.cond x)) (each_column_of near (view.conds es)) columns).1 typed.1 e i

  pub near_arms : (k : Cond) (es : List Expr) → k ≡ any_of (view.conds es) → IsNear c q r p k → All (λ (e : Expr). IsNear c q r p (view.cond e)) es
  near_arms k es is of =
      let here = subst (IsNear c q r p) is of in
      all_from (λ (e : Expr). IsNear c q r p (view.cond e)) es (near_each es here.columns here.typed)

  -- the parts of an arm that an index matches are conditions of it
  every : (test : Cond → Bool) (es : List Cond) → list_all test es ≡ true → (e : Cond) → IsIn e es → test e ≡ true
  every test [] h e i = absurd i
  every test (x ∷ es) h e (inl same) = ap test same ∙ (and_parts (test x) (list_all test es) h).0
  every test (x ∷ es) h e (inr i) = every test es (and_parts (test x) (list_all test es) h).1 e i

  pub arm_used : (i : IndexNo) (arm : Cond) → IsNear c q r p arm → is_matched (index_at c i) r arm ≡ true → All (IsUsed c q r p i) (arm_parts arm)
  arm_used i arm is matched = all_from (IsUsed c q r p i) (arm_parts arm) (λ e j. record {
    near = near_parts arm is e j;
    form = every (is_condition (index_at c i) r) (arm_parts arm) (and_parts (takes_parts (index_at c i).method (length (arm_parts arm))) _ matched).1 e j;
  })

-- an index takes its conditions
pub takes_own : (m : Method) (cs : List Numbered) (n : ℕ) → n ≡ length (conditions_of (allowed m cs)) → 0 < n → takes_parts m n ≡ true
takes_own Btree cs n is some = lt-ltb 0 n some
takes_own Hash [] n is some = absurd (let z : n ≡ 0 = is in omega (arith, z, some))
takes_own Hash (x ∷ cs) n is some = eq-eqb n 1 is

in_numbers : (n : ℕ) (cs : List Numbered) → In (by_clause n) (map (λ (k : Numbered). by_clause k.number) cs) → (x : Numbered) × IsIn x cs × (x.number ≡ n)
in_numbers n [] h = absurd h
in_numbers n (x ∷ cs) (inl same) = (x, inl refl, cc)
in_numbers n (x ∷ cs) (inr h) = let w = in_numbers n cs h in (w.0, inr w.1, w.2)

past_indexes : (n : ℕ) (is : List IndexNo) (es : List Element) → In (by_clause n) (map by_index is ++ es) → In (by_clause n) es
past_indexes n [] es h = h
past_indexes n (i ∷ is) es (inl same) = cc
past_indexes n (i ∷ is) es (inr h) = past_indexes n is es h

place_within : {X : Type 0} (n : ℕ) (xs : List X) (x : ℕ × X) → IsIn x (enumerate_from n xs) → x.0 < n + length xs
place_within n [] x i = absurd i
place_within {X = X} n (y ∷ ys) x (inl same) = let e = ap (λ (z : ℕ × X). z.0) same in omega (arith, e)
place_within n (y ∷ ys) x (inr i) = let later = place_within (n + 1) ys x i in omega (arith, later)

module _ (c : Contents) (k : Kept) (q : Query) (r : RelNo) (p : RelSet) (outer : List Tid) (given : Given) (at : IsScene c k q r p outer given) where
  -- a clause of the relation and its parameterisation, by its number
  local_near : (x : Numbered) → IsIn x (local q.classes r.0 (has p.0)) → IsNear c q r.0 (has p.0) (condition_at q x.number)
  local_near x i =
      let m = in_map (λ (y : ℕ × Clause). numbered (y.0, y.1.cond)) (filter (λ (y : ℕ × Clause). is_local r.0 (has p.0) y.1) (enumerate_from 0 q.classes.clauses)) x i in
      let there = (in_filter (λ (y : ℕ × Clause). is_local r.0 (has p.0) y.1) (enumerate_from 0 q.classes.clauses) m.0 m.1).0 in
      let lt = place_within 0 q.classes.clauses m.0 there in
      let same : x.number ≡ (m.0).0 = ap (λ (y : Numbered). y.number) m.2 in
      let e : condition_at q x.number ≡ x.cond =
      condition-here q.classes.clauses x.number (omega (arith, lt, same))
      ∙ ap (λ (n : ℕ). (clause_at q.classes.clauses n).cond) same
      ∙ sym (places_number (λ (y : Clause). y.cond) q.classes.clauses (clause (const True) (by_conjunct 0)) m.0 there)
      ∙ sym (ap (λ (y : Numbered). y.cond) m.2) in
      subst (IsNear c q r.0 (has p.0)) (sym e) (clauses_near c k q r p outer given at x.cond (in_conditions (local q.classes r.0 (has p.0)) x i))

  abbrev IsOne : Element → Type 0
  IsOne = IsElement c q r.0 (has p.0)

  leaf_held : (es : List Element) (i : IndexNo) → ArePicked IsOne (candidates c q r.0 (has p.0)) es → In (by_index i) es → IsHeldTree c q r p (leaf i)
  leaf_held es i are h = (
    (listed-on c q r.0 i).0 (index-listed i (indexes_of c (table_of_relation q r.0)) (local q.classes r.0 (has p.0)) (in-picked IsOne (by_index i) (candidates c q r.0 (has p.0)) es are h)),
    (holds_picked IsOne (by_index i) (candidates c q r.0 (has p.0)) es are h).1,
  )

  clause_held : (es : List Element) (n : ℕ) (is : List IndexNo) → ArePicked IsOne (candidates c q r.0 (has p.0)) es → In (by_clause n) es → AllZip (MatchesArm c q r.0) (arms_of (condition_at q n)) is → IsHeldTree c q r p (some_arm n is)
  clause_held es n is are h arms =
      let w = in_numbers n (local q.classes r.0 (has p.0)) (past_indexes n (indexes_of c (table_of_relation q r.0)) _ (in-picked IsOne (by_clause n) (candidates c q r.0 (has p.0)) es are h)) in
      (subst (λ (m : ℕ). IsNear c q r.0 (has p.0) (condition_at q m)) w.2 (local_near w.0 w.1), arms)

  one_held : (es : List Element) (b : BitTree) (e : Element) → ArePicked IsOne (candidates c q r.0 (has p.0)) es → In e es → element_of c q r.0 (has p.0) b ≡ Some e → HasArms c q r.0 (has p.0) b → IsHeldTree c q r p b
  one_held es (leaf i) e are h same arms = let is : by_index i ≡ e = cc in leaf_held es i are (subst (λ x. In x es) (sym is) h)
  one_held es (all_hold bs) e are h same arms = absurd arms
  one_held es (some_arm n is) e are h same arms = let here : by_clause n ≡ e = cc in clause_held es n is are (subst (λ x. In x es) (sym here) h) arms

  all_held : (all : List Element) (es : List Element) (bs : BitTrees) → ArePicked IsOne (candidates c q r.0 (has p.0)) all → ((e : Element) → In e es → In e all) → elements_of c q r.0 (has p.0) bs ≡ map Some es → HaveArms c q r.0 (has p.0) bs → AreHeldTrees c q r p bs
  all_held all es no_trees are within same arms = tt
  all_held all [] (tree_and b bs) are within same arms = cc
  all_held all (e ∷ es) (tree_and b bs) are within same arms =
      let head : element_of c q r.0 (has p.0) b ≡ Some e = cc in
      let tail : elements_of c q r.0 (has p.0) bs ≡ map Some es = cc in
      (one_held all b e are (within e (inl refl)) head arms.0, all_held all es bs are (λ x h. within x (inr h)) tail arms.1)

  has_tree : (bs : BitTrees) → 2 ≤ length (elements_of c q r.0 (has p.0) bs) → HasTree bs
  has_tree no_trees some = absurd (omega (arith, some))
  has_tree (tree_and b bs) some = tt

  pub tree_held : (b : BitTree) → IsBitTree c q r.0 (has p.0) b → IsHeldTree c q r p b
  tree_held (leaf i) h = leaf_held h.elements i h.are (in-taken MOST_ELEMENTS (by_index i) h.elements (in-contained (by_index i) _ h.over.0 h.over.1 h.over.2))
  tree_held (all_hold bs) h = (
    all_held h.elements (items_where_true h.over.0 (take MOST_ELEMENTS h.elements)) bs h.are
        (λ e j. in-taken MOST_ELEMENTS e h.elements (in-masked e h.over.0 (take MOST_ELEMENTS h.elements) j)) h.over.1 h.over.3,
    has_tree bs h.over.2,
  )
  tree_held (some_arm n is) h = clause_held h.elements n is h.are (in-taken MOST_ELEMENTS (by_clause n) h.elements (in-contained (by_clause n) _ h.over.0.0 h.over.0.1 h.over.0.2)) h.over.1
