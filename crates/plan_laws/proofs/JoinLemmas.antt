-- A join gives the tuples of its set.
use Rattle.std.proofs.Common.{◌≡◌, ℕ, ◌<◌, Bool, true, false, cond, ◌&&◌, List, map, flat_map, filter, refl, sym, ap, ap₂, ◌∙◌, subst, ⊎_elim}
use Rattle.std.specs.List.{AllByRecursion}
use Rattle.std.proofs.lemmas.Bool.{cases_Bool, or_cases, and_parts, true≢false, eq-eqb, eqb-true}
use Rattle.eq_classes.specs.Clauses.{Set, one}
use Rattle.eq_classes.specs.Parts.{union, is_all, is_base, is_join, is_param, is_join_param}
use Rattle.eq_classes.specs.Holding.{AreApart, IsWithin}
use Rattle.sql_query.specs.Queries.{Query, width}
use Rattle.sql_query.specs.Tuples.{Tuple, row_of, one_row, beside, merged, value_at}
use Rattle.sql_query.specs.WellBound.{IsWellBound}
use Rattle.sql_query.specs.Worlds.{World, IsWorld}
use Rattle.plan_laws.specs.work.Meant.{holds_at, numbers_of, tuples_in, meant, tested, meant_rows, meant_scan, joined_with}
use Rattle.plan_laws.proofs.ClauseLemmas.{IsOfQuery, merged_left, merged_right, all_splits, params_split, one_is_base, local_all, local_base, local_param}
use Rattle.plan_laws.proofs.EachLemmas.{each_mapped}
use Rattle.pg_base.proofs.ListLemmas.{filter-passes}
use Rattle.plan_laws.proofs.FilterLemmas.{pairs_filtered, early_and_late, each_Perm, hold_either, filter_where}
use Rattle.plan_laws.proofs.PermLemmas.{Perm, join, Perm-same, Perm-sym, Perm-filter, Perm-map, Perm-flat_map, Perm-flat_map_each}
use Rattle.plan_laws.proofs.TupleLemmas.{row_at, tuples_split, tuples_one, crossing}

module _ (w : World) (q : Query) (world : IsWorld w) (bound : IsWellBound w.contents q) where
  -- the clauses of a union at a merged tuple
  union_holds : (a b : Set) → AreApart a b → IsOfQuery w q a → IsOfQuery w q b → (s u : Tuple)
      → holds_at w q (merged q a s u) (is_all (union a b)) ≡ holds_at w q s (is_all a) && (holds_at w q u (is_all b) && holds_at w q (merged q a s u) (is_join a b))
  union_holds a b apart of_a of_b s u =
      all_splits w q world bound (merged q a s u) a b apart
      ∙ ap₂ (λ (x y : Bool). x && (y && holds_at w q (merged q a s u) (is_join a b)))
      (local_all w q world bound (merged q a s u) s a (merged_left w q a s u of_a))
      (local_all w q world bound (merged q a s u) u b (merged_right w q a b s u apart of_b))

  -- each outer tuple with each inner one at which the clauses of the join hold
  abbrev pub pairs : Set → Set → List Tuple → List Tuple → List Tuple
  pairs a b ts us = flat_map (λ t. joined_with w q a b t us) ts

  pub Perm-joined_with : (a b : Set) (t : Tuple) (us vs : List Tuple) → Perm us vs → Perm (joined_with w q a b t us) (joined_with w q a b t vs)
  Perm-joined_with a b t us vs r = Perm-filter (λ x. holds_at w q x (is_join a b)) (map (merged q a t) us) (map (merged q a t) vs) (Perm-map (merged q a t) us vs r)

  Perm-pairs : (a b : Set) (ss ts us vs : List Tuple) → Perm ss ts → Perm us vs → Perm (pairs a b ss us) (pairs a b ts vs)
  Perm-pairs a b ss ts us vs p r =
      join (pairs a b ss us) (pairs a b ts us) (pairs a b ts vs)
      (Perm-flat_map (λ t. joined_with w q a b t us) ss ts p)
      (Perm-flat_map_each (λ t. joined_with w q a b t us) (λ t. joined_with w q a b t vs) (λ t. Perm-joined_with a b t us vs r) ts)

  pub join_means : (a b : Set) → AreApart a b → IsOfQuery w q a → IsOfQuery w q b → (ts us : List Tuple) → Perm ts (meant w q a) → Perm us (meant w q b) → Perm (pairs a b ts us) (meant w q (union a b))
  join_means a b apart of_a of_b ts us p r =
      join (pairs a b ts us) (pairs a b (meant w q a) (meant w q b)) (meant w q (union a b))
      (Perm-pairs a b ts (meant w q a) us (meant w q b) p r)
      (subst (λ (l : List Tuple). Perm l (meant w q (union a b)))
      (sym (pairs_filtered (merged q a) (λ t. holds_at w q t (is_all a)) (λ t. holds_at w q t (is_all b)) (λ t. holds_at w q t (is_all (union a b))) (λ t. holds_at w q t (is_join a b)) (union_holds a b apart of_a of_b) (tuples_in w q a) (tuples_in w q b)))
      (Perm-sym (meant w q (union a b)) (filter (λ t. holds_at w q t (is_all (union a b))) (crossing w q a (tuples_in w q a) (tuples_in w q b)))
      (Perm-filter (λ t. holds_at w q t (is_all (union a b))) (tuples_in w q (union a b)) (crossing w q a (tuples_in w q a) (tuples_in w q b)) (tuples_split w q a b apart))))

  pub each_meant : (a : Set) (ts : List Tuple) → Perm ts (meant w q a) → AllByRecursion (λ t. holds_at w q t (is_all a) ≡ true) ts
  each_meant a ts is = each_Perm (λ t. holds_at w q t (is_all a) ≡ true) (meant w q a) ts (Perm-sym ts (meant w q a) is) (filter-passes (λ t. holds_at w q t (is_all a)) (tuples_in w q a))

  -- a scan that is given the rows of p, of an outer tuple at which the outer's clauses hold
  module _ (a p : Set) (r : ℕ) (apart : AreApart a (one r)) (of_a : IsOfQuery w q a) (lt : r < width q) (part : IsWithin p a) where
    of_one : IsOfQuery w q (one r)
    of_one k is = subst (λ (j : ℕ). j < width q) (sym (eqb-true k r is)) lt

    own : one r r ≡ true
    own = eq-eqb r r refl

    outside : a r ≡ false
    outside = ⊎_elim (λ (in_a : a r ≡ true). absurd (true≢false (sym own ∙ apart r in_a))) (λ (out : a r ≡ false). out) (cases_Bool (a r))

    beside_own : (row : ℕ) (t : Tuple) (k : ℕ) → one r k ≡ true → row_of (beside q r row t) k ≡ row
    beside_own row t k is = row_at (width q) (λ j. cond (one r j) row (row_of t j)) k (of_one k is) ∙ ap (λ (v : Bool). cond v row (row_of t k)) is

    one_own : (row : ℕ) (k : ℕ) → one r k ≡ true → row_of (one_row q r row) k ≡ row
    one_own row k is = row_at (width q) (λ j. cond (one r j) row 0) k (of_one k is) ∙ ap (λ (v : Bool). cond v row 0) is

    beside_other : (row : ℕ) (t : Tuple) (k : ℕ) → a k ≡ true → row_of (beside q r row t) k ≡ row_of t k
    beside_other row t k is = row_at (width q) (λ j. cond (one r j) row (row_of t j)) k (of_a k is) ∙ ap (λ (v : Bool). cond v row (row_of t k)) (apart k is)

    -- the clauses that join the relation, at a tuple of both: those that the scan tests beside the outer tuple, and those left
    joins_split : (t : Tuple) → holds_at w q t (is_all a) ≡ true → (row : ℕ)
        → holds_at w q (merged q a t (one_row q r row)) (is_join a (one r)) ≡ holds_at w q (beside q r row t) (is_param r p) && holds_at w q (merged q a t (one_row q r row)) (is_join_param a r p)
    joins_split t holds row =
        let x = merged q a t (one_row q r row) in
        let y = beside q r row t in
        params_split w q world bound x a p r part outside (local_all w q world bound x t a (merged_left w q a t (one_row q r row) of_a) ∙ holds)
        ∙ ap (λ (v : Bool). v && holds_at w q x (is_join_param a r p))
        (local_param w q world bound x y r p (λ k is. ⊎_elim
        (λ (of_r : one r k ≡ true). merged_right w q a (one r) t (one_row q r row) apart of_one k of_r ∙ one_own row k of_r ∙ sym (beside_own row t k of_r))
        (λ (of_p : p k ≡ true). merged_left w q a t (one_row q r row) of_a k (part k of_p) ∙ sym (beside_other row t k (part k of_p)))
        (or_cases (one r k) (p k) is)))

    -- the clauses of a scan beside an outer tuple are those at the tuple of both
    row_holds : (t : Tuple) → holds_at w q t (is_all a) ≡ true → (row : ℕ)
        → holds_at w q (one_row q r row) (is_all (one r)) && holds_at w q (merged q a t (one_row q r row)) (is_join a (one r))
        ≡ holds_at w q (beside q r row t) (tested w q r p) && holds_at w q (merged q a t (one_row q r row)) (is_join_param a r p)
    row_holds t holds row =
        let x = merged q a t (one_row q r row) in
        let y = beside q r row t in
        ap₂ (λ (u v : Bool). u && v)
        (one_is_base w q world bound (one_row q r row) r ∙ local_base w q world bound (one_row q r row) y r (λ k is. one_own row k is ∙ sym (beside_own row t k is)))
        (joins_split t holds row)
        ∙ regroup (holds_at w q y (is_base r)) (holds_at w q y (is_param r p)) (holds_at w q x (is_join_param a r p))
        ∙ ap (λ (v : Bool). v && holds_at w q x (is_join_param a r p)) (sym (hold_either (value_at w q y) (is_base r) (is_param r p) q.classes.clauses))
      where
        regroup : (b c d : Bool) → b && (c && d) ≡ (b && c) && d
        regroup true c d = refl
        regroup false c d = refl

    -- an outer tuple with the rows of such a scan, by the clauses that it has not tested
    abbrev pub given_with : Tuple → List Tuple → List Tuple
    given_with t us = filter (λ x. holds_at w q x (is_join_param a r p)) (map (merged q a t) us)

    abbrev pub base_rows : List Tuple
    base_rows = filter (λ t. holds_at w q t (is_all (one r))) (map (one_row q r) (numbers_of w q r))

    pub base_rows_are : base_rows ≡ meant w q (one r)
    base_rows_are = ap (λ (l : List Tuple). filter (λ t. holds_at w q t (is_all (one r))) l) (sym (tuples_one w q r lt))

    -- as with the whole relation, by all clauses of the join
    pub given_joined : (t : Tuple) → holds_at w q t (is_all a) ≡ true → (us : List Tuple) → Perm us (meant_scan w q r p t) → Perm (given_with t us) (joined_with w q a (one r) t (meant w q (one r)))
    given_joined t holds us is =
        join (given_with t us) (given_with t (meant_scan w q r p t)) (joined_with w q a (one r) t (meant w q (one r)))
        (Perm-filter (λ x. holds_at w q x (is_join_param a r p)) (map (merged q a t) us) (map (merged q a t) (meant_scan w q r p t)) (Perm-map (merged q a t) us (meant_scan w q r p t) is))
        (Perm-same (given_with t (meant_scan w q r p t)) (joined_with w q a (one r) t (meant w q (one r)))
        (early_and_late (one_row q r) (λ row. holds_at w q (beside q r row t) (tested w q r p)) (λ x. holds_at w q x (is_join_param a r p)) (λ u. holds_at w q u (is_all (one r))) (λ x. holds_at w q x (is_join a (one r))) (merged q a t) (row_holds t holds) (numbers_of w q r)
        ∙ ap (joined_with w q a (one r) t) base_rows_are))

    -- the clauses that such a scan has tested are True at each tuple that it gives, so that a join may leave them out
    pub tests_alike : (t : Tuple) → holds_at w q t (is_all a) ≡ true → (us : List Tuple) → Perm us (meant_scan w q r p t) → given_with t us ≡ joined_with w q a (one r) t us
    tests_alike t holds us is =
        filter_where (merged q a t) (λ x. holds_at w q x (is_join_param a r p)) (λ x. holds_at w q x (is_join a (one r))) us
        (each_Perm (λ u. holds_at w q (merged q a t u) (is_join_param a r p) ≡ holds_at w q (merged q a t u) (is_join a (one r))) (meant_scan w q r p t) us (Perm-sym us (meant_scan w q r p t) is)
        (each_mapped (λ row. holds_at w q (beside q r row t) (tested w q r p) ≡ true) (λ u. holds_at w q (merged q a t u) (is_join_param a r p) ≡ holds_at w q (merged q a t u) (is_join a (one r))) (one_row q r)
        (λ row passes. sym (joins_split t holds row ∙ ap (λ (v : Bool). v && holds_at w q (merged q a t (one_row q r row)) (is_join_param a r p)) (param_passes row t passes)))
        (meant_rows w q r p t) (filter-passes (λ row. holds_at w q (beside q r row t) (tested w q r p)) (numbers_of w q r))))
      where
        param_passes : (row : ℕ) (t : Tuple) → holds_at w q (beside q r row t) (tested w q r p) ≡ true → holds_at w q (beside q r row t) (is_param r p) ≡ true
        param_passes row t passes =
            (and_parts (holds_at w q (beside q r row t) (is_base r)) (holds_at w q (beside q r row t) (is_param r p))
            (sym (hold_either (value_at w q (beside q r row t)) (is_base r) (is_param r p) q.classes.clauses) ∙ passes)).1
