-- A plan's run is sorted by the plan's keys.
use Rattle.std.proofs.Common.{◌≡◌, ℕ, Bool, true, false, cond, ◌||◌, List, [], ◌∷◌, ◌++◌, map, flat_map, filter, refl, sym, ap, ap₂, ◌∙◌, subst}
use Rattle.std.specs.Prelude.{Option}
use Rattle.std.specs.List.{AllByRecursion}
use Rattle.std.specs.Ordering.{ordering_then}
use Rattle.std.proofs.lemmas.Bool.{true≢false}
use Rattle.pg_base.specs.declared.numbers.RelNo.{RelNo}
use Rattle.pg_base.specs.declared.numbers.IndexNo.{IndexNo}
use Rattle.pg_base.specs.declared.rel_set.RelSet.{RelSet}
use Rattle.pg_value.specs.declared.value.Value.{Value}
use Rattle.pg_value.specs.ColumnOrder.{column_order}
use Rattle.pg_expr.specs.declared.operand.ColRef.{ColRef}
use Rattle.eq_classes.specs.Clauses.{Set, one}
use Rattle.eq_classes.specs.Parts.{union, is_all}
use Rattle.eq_classes.specs.Listing.{class_at}
use Rattle.eq_classes.proofs.ListLemmas.{found_in, found_passes}
use Rattle.eq_classes.proofs.SoundLemmas.{in_member}
use Rattle.sql_query.specs.Meaning.{all_true}
use Rattle.sql_query.specs.Queries.{Query}
use Rattle.sql_query.specs.Tuples.{Tuple, merged, value_at}
use Rattle.sql_query.specs.WellBound.{IsWellBound}
use Rattle.sql_query.specs.Worlds.{World, IsWorld}
use Rattle.plan_tree.specs.index_match_Numbered.{those, conditions_of}
use Rattle.pathkeys.specs.Keys.{Keys}
use Rattle.pathkeys.specs.Sorted.{class_order, order_at}
use Rattle.plan_tree.specs.Keys.{keys_of, scan_keys}
use Rattle.plan_tree.specs.Plans.{Plan, seq, index, index_only, bitmap, sort, nest, merge, set_of, is_sort, is_empty, joins}
use Rattle.plan_tree.specs.Run.{run, joined_tuples, index_rows, tuples}
use Rattle.plan_tree.specs.work.Sorted.{AreSorted}
use Rattle.plan_tree.specs.Space.{IsBuilt, IsIndexScan, HasKeys}
use Rattle.plan_laws.specs.work.Meant.{HaveSameRows, holds_at, meant}
use Rattle.plan_laws.proofs.ClauseLemmas.{IsOfQuery, agree, merged_left}
use Rattle.plan_laws.proofs.GivingLemmas.{of_query, whole_means}
use Rattle.plan_laws.proofs.JoinLemmas.{each_meant}
use Rattle.plan_laws.proofs.PermLemmas.{Perm}
use Rattle.plan_laws.proofs.IndexKeyLemmas.{scan_keys_are, scan_is_up}
use Rattle.plan_laws.proofs.KeyLemmas.{IsKey, AreKeys, by_keys, find_more, found_any, list_keys, no_keys_up, wider}
use Rattle.plan_laws.proofs.TieLemmas.{members_alike}
use Rattle.plan_laws.proofs.TotalLemmas.{IsUp, keys_total, up_is_in_order, in_order_up, itself, blocks_up}

module _ (w : World) (q : Query) where
  -- a tuple has the rows of another in a set
  abbrev Extends : Set → Tuple → Tuple → Type 0
  Extends a t x = HaveSameRows a x t

  merged_each : (a : Set) → IsOfQuery w q a → (t : Tuple) (test : Tuple → Bool) (us : List Tuple) → AllByRecursion (Extends a t) (filter test (map (merged q a t) us))
  merged_each a of t test [] = tt
  merged_each a of t test (u ∷ us) = elim (test (merged q a t u)) as (λ v. AllByRecursion (Extends a t) (cond v (merged q a t u ∷ filter test (map (merged q a t) us)) (filter test (map (merged q a t) us))))
      [ true ↦ (merged_left w q a t u of, merged_each a of t test us) | false ↦ merged_each a of t test us ]

  module _ (world : IsWorld w) (bound : IsWellBound w.contents q) where
    -- a joined tuple at which the clauses of the union hold
    abbrev Stands : Set → Set → Tuple → Tuple → Type 0
    Stands a b t x = Extends a t x × (holds_at w q x (is_all (union a b)) ≡ true)

    one_alike : (a b : Set) (n : ℕ) → IsKey q.classes a n → (t u x y : Tuple) → Stands a b t x → Stands a b u y
        → class_order (class_at q.classes.classes n) (union a b) (value_at w q x) (value_at w q y) ≡ class_order (class_at q.classes.classes n) a (value_at w q t) (value_at w q u)
    one_alike a b n key t u x y s r =
        let c = class_at q.classes.classes n in
        let inside : a key.member.rel.0 ≡ true = found_passes (λ m. a m.rel.0) c.members key.member key.first in
        let wide = find_more (λ m. a m.rel.0) (λ m. union a b m.rel.0) (λ m is. ap (λ (v : Bool). v || b m.rel.0) is) c.members (found_any (λ m. a m.rel.0) c.members key.member key.first) in
        ap (λ (o : Option ColRef). order_at c o (value_at w q x) (value_at w q y)) wide.1
        ∙ members_alike w q world bound (union a b) c key.class x y s.1 r.1 wide.0 key.member
        (in_member c wide.0 (found_in (λ m. union a b m.rel.0) c.members wide.0 wide.1)) (in_member c key.member (found_in (λ m. a m.rel.0) c.members key.member key.first))
        (found_passes (λ m. union a b m.rel.0) c.members wide.0 wide.1) (ap (λ (v : Bool). v || b key.member.rel.0) inside) c.descending c.nulls_first
        ∙ ap₂ (λ (v v' : Value). column_order c.family c.descending c.nulls_first v v') (agree w q a x t s.0 key.member inside) (agree w q a y u r.0 key.member inside)
        ∙ ap (λ (o : Option ColRef). order_at c o (value_at w q t) (value_at w q u)) (sym key.first)

    keys_alike : (a b : Set) (keys : Keys) → AreKeys q.classes a keys → (t u x y : Tuple) → Stands a b t x → Stands a b u y → by_keys w q (union a b) keys x y ≡ by_keys w q a keys t u
    keys_alike a b [] h t u x y s r = refl
    keys_alike a b (n ∷ ns) h t u x y s r = ap₂ ordering_then (one_alike a b n h.0 t u x y s r) (keys_alike a b ns h.1 t u x y s r)

    -- both facts of each element of the blocks
    two_parts : (a b : Set) (t : Tuple) (xs ys : List Tuple) → AllByRecursion (Extends a t) xs → AllByRecursion (λ x. holds_at w q x (is_all (union a b)) ≡ true) (xs ++ ys) → AllByRecursion (Stands a b t) xs × AllByRecursion (λ x. holds_at w q x (is_all (union a b)) ≡ true) ys
    two_parts a b t [] ys h g = (tt, g)
    two_parts a b t (x ∷ xs) ys h g = let rest = two_parts a b t xs ys h.1 g.1 in (((h.0, g.0), rest.0), rest.1)

    blocks_stand : (a b : Set) (F : Tuple → List Tuple) → ((t : Tuple) → AllByRecursion (Extends a t) (F t)) → (ts : List Tuple) → AllByRecursion (λ x. holds_at w q x (is_all (union a b)) ≡ true) (flat_map F ts) → AllByRecursion (λ t. AllByRecursion (Stands a b t) (F t)) ts
    blocks_stand a b F f [] h = tt
    blocks_stand a b F f (t ∷ ts) h = let parts = two_parts a b t (F t) (flat_map F ts) (f t) h in (parts.0, blocks_stand a b F f ts parts.1)

    -- where a plan is a sort, its list is of keys of its set
    abbrev SortIsKeys : Plan → Type 0
    SortIsKeys (sort keys input) = AreKeys q.classes (set_of input) keys
    SortIsKeys _ = Unit {0}

    plain_sort : (p : Plan) → is_sort p ≡ false → SortIsKeys p
    plain_sort (sort keys input) h = absurd (true≢false h)
    plain_sort (seq r) h = tt
    plain_sort (index r i backward p) h = tt
    plain_sort (index_only r i backward p) h = tt
    plain_sort (bitmap r p bits) h = tt
    plain_sort (nest outer inner) h = tt
    plain_sort (merge keys outer inner) h = tt

    merge_sort : (p : Plan) (keys : Keys) → HasKeys w.contents q p keys → AreKeys q.classes (set_of p) keys → SortIsKeys p
    merge_sort (sort ks input) keys h k = subst (λ (l : Keys). AreKeys q.classes (set_of input) l) (sym h) k
    merge_sort (seq r) keys h k = tt
    merge_sort (index r i backward p) keys h k = tt
    merge_sort (index_only r i backward p) keys h k = tt
    merge_sort (bitmap r p bits) keys h k = tt
    merge_sort (nest outer inner) keys h k = tt
    merge_sort (merge ks outer inner) keys h k = tt

    scan_are_keys : (r : RelNo) (i : IndexNo) (backward : Bool) (p : RelSet) → IsIndexScan w.contents q r i backward p → AreKeys q.classes (one r.0) (scan_keys w.contents q r i backward p)
    scan_are_keys r i backward p is = by (is_empty p) refl
      where
        by : (v : Bool) → is_empty p ≡ v → AreKeys q.classes (one r.0) (scan_keys w.contents q r i backward p)
        by true e = scan_keys_are w q r i backward p e
        by false e = rw e tt

    scan_up : (r : RelNo) (i : IndexNo) (backward : Bool) (p : RelSet) (o : Tuple) → IsIndexScan w.contents q r i backward p → IsUp (by_keys w q (one r.0) (scan_keys w.contents q r i backward p)) (tuples w q r (index_rows w q r i backward p o))
    scan_up r i backward p o is = by (is_empty p) refl
      where
        by : (v : Bool) → is_empty p ≡ v → IsUp (by_keys w q (one r.0) (scan_keys w.contents q r i backward p)) (tuples w q r (index_rows w q r i backward p o))
        by true e = scan_is_up w q world bound r i backward p o is e
        by false e = rw e (no_keys_up w q (one r.0) (tuples w q r (index_rows w q r i backward p o)))

    -- the keys of a plan are classes with members in its set
    are_keys : (p : Plan) → IsBuilt w.contents q p → SortIsKeys p → AreKeys q.classes (set_of p) (keys_of w.contents q p)
    are_keys (seq r) is h = tt
    are_keys (index r i backward p) is h = scan_are_keys r i backward p is
    are_keys (index_only r i backward p) is h = scan_are_keys r i backward p is.scan
    are_keys (bitmap r p bits) is h = tt
    are_keys (sort keys input) is h = h
    are_keys (nest outer inner) is h =
        wider q.classes (set_of outer) (union (set_of outer) (set_of inner)) (λ k in_a. ap (λ (v : Bool). v || set_of inner k) in_a) (keys_of w.contents q outer) (are_keys outer is.0 (plain_sort outer is.2.outer_plain))
    are_keys (merge keys outer inner) is h =
        wider q.classes (set_of outer) (union (set_of outer) (set_of inner)) (λ k in_a. ap (λ (v : Bool). v || set_of inner k) in_a) (keys_of w.contents q outer)
        (are_keys outer is.0 (merge_sort outer keys is.2.outer_keys (list_keys q.classes (set_of outer) (set_of inner) keys is.2.list.joining).0))

    all_hold_in : (p : Plan) → ((o : Tuple) → Perm (run w q p o) (meant w q (set_of p))) → (o : Tuple) → AllByRecursion (λ x. holds_at w q x (is_all (set_of p)) ≡ true) (run w q p o)
    all_hold_in p means o = each_meant w q world bound (set_of p) (run w q p o) (means o)

    join_up : (outer inner : Plan) (o : Tuple) → IsOfQuery w q (set_of outer) → AreKeys q.classes (set_of outer) (keys_of w.contents q outer)
        → AllByRecursion (λ x. holds_at w q x (is_all (union (set_of outer) (set_of inner))) ≡ true) (flat_map (λ t. joined_tuples w q outer inner t (run w q inner t)) (run w q outer o))
        → IsUp (by_keys w q (set_of outer) (keys_of w.contents q outer)) (run w q outer o)
        → IsUp (by_keys w q (union (set_of outer) (set_of inner)) (keys_of w.contents q outer)) (flat_map (λ t. joined_tuples w q outer inner t (run w q inner t)) (run w q outer o))
    join_up outer inner o of keys hold_all up =
        let a = set_of outer in
        let b = set_of inner in
        let ks = keys_of w.contents q outer in
        blocks_up (by_keys w q a ks) (by_keys w q (union a b) ks) (Stands a b) (λ t. joined_tuples w q outer inner t (run w q inner t))
        (itself (by_keys w q a ks) (keys_total (value_at w q) q.classes a ks))
        (λ t u x y s r. keys_alike a b ks keys t u x y s r)
        (run w q outer o) up
        (blocks_stand a b (λ t. joined_tuples w q outer inner t (run w q inner t)) (λ t. merged_each a of t (λ x. all_true w q x (conditions_of (those q.classes (joins a inner)))) (run w q inner t)) (run w q outer o) hold_all)

    pub up_by_keys : (p : Plan) → IsBuilt w.contents q p → (o : Tuple) → IsUp (by_keys w q (set_of p) (keys_of w.contents q p)) (run w q p o)
    up_by_keys (seq r) is o = no_keys_up w q (one r.0) (run w q (seq r) o)
    up_by_keys (index r i backward p) is o = scan_up r i backward p o is
    up_by_keys (index_only r i backward p) is o = scan_up r i backward p o is.scan
    up_by_keys (bitmap r p bits) is o = no_keys_up w q (one r.0) (run w q (bitmap r p bits) o)
    up_by_keys (sort keys input) is o = in_order_up (by_keys w q (set_of input) keys) (keys_total (value_at w q) q.classes (set_of input) keys) (run w q input o)
    up_by_keys (nest outer inner) is o =
        join_up outer inner o (of_query w q outer is.0) (are_keys outer is.0 (plain_sort outer is.2.outer_plain))
        (all_hold_in (nest outer inner) (whole_means w q world bound (nest outer inner) is (λ k. refl)) o)
        (up_by_keys outer is.0 o)
    up_by_keys (merge keys outer inner) is o =
        join_up outer inner o (of_query w q outer is.0) (are_keys outer is.0 (merge_sort outer keys is.2.outer_keys (list_keys q.classes (set_of outer) (set_of inner) keys is.2.list.joining).0))
        (all_hold_in (merge keys outer inner) (whole_means w q world bound (merge keys outer inner) is (λ k. refl)) o)
        (up_by_keys outer is.0 o)

    -- each plan's run is sorted by its keys
    pub sorted_by_keys : (p : Plan) → IsBuilt w.contents q p → (o : Tuple) → AreSorted w q (set_of p) (keys_of w.contents q p) (run w q p o)
    sorted_by_keys p is o = up_is_in_order (by_keys w q (set_of p) (keys_of w.contents q p)) (run w q p o) (up_by_keys p is o)
