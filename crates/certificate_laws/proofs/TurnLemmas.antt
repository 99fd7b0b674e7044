-- In the order of printing each path is a scan, or a join of plans that stand before it.
use Prim.Native.Nat.{suc, zero}
use Rattle.std.proofs.Common.{◌≡◌, ◌<◌, ◌≤◌, ◌⊎◌, inl, inr, ℕ, ◌+◌, Bool, true, false, cond, ◌||◌, List, get_or, length, map, take, refl, sym, ◌∙◌, ap, subst, arith, true≢false, Ordering, Less, Equal, Greater}
use Rattle.std.specs.Prelude.{Contains, Some, find}
use Rattle.std.specs.List.{range_with_len}
use Rattle.std.specs.Option.{option_map}
use Rattle.std.specs.Ordering.{is_gt, nat_cmp, ordering_then}
use Rattle.std.proofs.lemmas.Bool.{cases_lt, eq-eqb, eqb-true}
use Rattle.std.proofs.lemmas.Cmp.{ranked}
use Rattle.std.proofs.lemmas.List.{get_or_default, get_or-take, length-take-le}
use Rattle.std.proofs.lemmas.List.Elements.{All-contains, Contains-get_or}
use Rattle.std.proofs.Math.Bool.{or-true}
use Rattle.pg_base.specs.Sets.{has}
use Rattle.pg_base.specs.declared.numbers.RelNo.{RelNo}
use Rattle.pg_base.specs.declared.rel_set.RelSet.{RelSet}
use Rattle.pg_value.specs.Sorting.{IsInOrder}
use Rattle.catalog.specs.Contents.{Contents}
use Rattle.eq_classes.specs.Clauses.{one}
use Rattle.heap.specs.Tuples.{relation_count}
use Rattle.pathkeys.specs.Keys.{Keys}
use Rattle.sql_query.specs.Queries.{Query, width}
use Rattle.plan_tree.specs.work.Paths.{Path}
use Rattle.plan_tree.specs.Plans.{Plan, seq, index, index_only, bitmap, sort, nest, merge, set_of}
use Rattle.plan_tree.specs.work.Reads.{IsOverTables}
use Rattle.plan_tree.specs.Space.{AreSides, HasKeys, IsBuilt, IsPlanOf, IsSameSet}
use Rattle.plan_tree.proofs.FrontLemmas.{contains-mapped}
use Rattle.plan_tree.proofs.PathLemmas.{built-below}
use Rattle.planner.specs.scan_paths_SpaceLemmas.{no-join, same-param}
use Rattle.plan_tree.proofs.GivenLemmas.{read-below}
use Rattle.planner.specs.join_search_Joins.{IsJoinOfKept, IsJoinPath, IsKept, IsSideKept, IsSingle}
use Rattle.planner.specs.join_search_Tables.{Fronts}
use Rattle.plan_tree.proofs.SetLemmas.{reads-some}
use Rattle.plan_check.specs.Certificates.{relation_in}
use Rattle.certificate_laws.specs.work.Made.{AreMadeInTurn, IsMadeAmong, IsSideAmong, tree_of}
use Rattle.certificate_laws.specs.work.Printing.{path_order}
use Rattle.certificate_laws.specs.work.Searched.{AreOfFronts, IsSearched}
use Rattle.certificate_laws.proofs.FrontsLemmas.{from-front, is-path, kept-some}
use Rattle.certificate_laws.proofs.SizeLemmas.{rank-less}

-- the first of a range at which a test holds is the only one at which it does
find-only : (f : ℕ → Bool) (r : ℕ) → f r ≡ true → ((k : ℕ) → f k ≡ true → k ≡ r) → (n a : ℕ) → a ≤ r → r < a + n → find f (range_with_len a n) ≡ Some r
find-only f r here only zero a le lt = absurd (omega (arith, le, lt))
find-only f r here only (suc n) a le lt = by (f a) refl (λ past. find-only f r here only n (a + 1) past (omega (arith, lt)))
  where
    past-it : f a ≡ false → a + 1 ≤ r
    past-it e = elim (cases_lt a r) [ inl h ↦ omega (arith, h) | inr h ↦ absurd (true≢false (sym here ∙ ap f (let same : r ≡ a = omega (arith, le, h) in same) ∙ e)) ]

    by : (b : Bool) → f a ≡ b → (a + 1 ≤ r → find f (range_with_len (a + 1) n) ≡ Some r) → cond b (Some a) (find f (range_with_len (a + 1) n)) ≡ Some r
    by true e later = ap Some (only a e)
    by false e later = later (past-it e)

-- the relation of a set of one
relation-of : (n : ℕ) (s : RelSet) (r : RelNo) → r.0 < n → IsSameSet (one r.0) (has s.0) → relation_in n s ≡ Some r
relation-of n s r lt same =
    ap (option_map (λ (k : ℕ). let x : RelNo = record { 0 = k } in x))
    (find-only (has s.0) r.0 (sym (same r.0) ∙ eq-eqb r.0 r.0 refl) (λ k is. eqb-true k r.0 (same k ∙ is)) n 0 (omega arith) (omega (arith, lt)))

module _ (d : Path) where
  contains-take : (xs : List Path) (k j : ℕ) (y : Path) → k ≤ length xs → j < k → get_or xs j y ≡ y → Contains (take k xs) y
  contains-take xs k j y le lt e =
      let long = length-take-le k xs le in
      (j, omega (arith, long, le, lt), get_or-take k xs j y lt ∙ e)

-- a number that is not after another, before whatever comes next
not-after : (m n : ℕ) (k o : Ordering) → nat_cmp m n ≡ o → is_gt (ordering_then o k) ≡ false → m ≤ n
not-after m n k Less h e = let lt = ranked m n Less (sym h) in omega (arith, lt)
not-after m n k Equal h e = let same = ranked m n Equal (sym h) in omega (arith, same)
not-after m n k Greater h e = absurd (true≢false e)

size-up : (x y : Path) → is_gt (path_order x y) ≡ false → relation_count x.set ≤ relation_count y.set
size-up x y e = not-after (relation_count x.set) (relation_count y.set) _ (nat_cmp (relation_count x.set) (relation_count y.set)) refl e

other-out : (a b : Bool) → (a ≡ true → b ≡ false) → b ≡ true → a ≡ false
other-out true b h e = absurd (true≢false (sym e ∙ h refl))
other-out false b h e = refl

module _ (c : Contents) (q : Query) (over : IsOverTables c q) (fronts : Fronts) (searched : IsSearched c q fronts) (paths : List Path) (are : AreOfFronts fronts paths) (ordered : IsInOrder path_order paths) where
  -- a path whose set is smaller than that of the path at a place stands before it
  before : (k : ℕ) (d : Path) → k < length paths → (y : Path) → Contains paths y → relation_count y.set < relation_count (get_or paths k d).set → Contains (take k paths) y
  before k d lt y (j, within, e) less = contains-take d paths k j y (omega (arith, lt)) (first (cases_lt j k)) e
    where
      at : get_or paths j d ≡ y
      at = sym (get_or_default paths j y d within) ∙ e

      not-later : k ≤ j → relation_count (get_or paths k d).set ≤ relation_count y.set
      not-later le = elim (cases_lt k j) [
        | inl h ↦ size-up (get_or paths k d) y (subst (λ (z : Path). is_gt (path_order (get_or paths k d) z) ≡ false) at (ordered k j d h within))
        | inr h ↦ let same : k ≡ j = omega (arith, le, h) in let sets : relation_count (get_or paths k d).set ≡ relation_count y.set = ap (λ (n : ℕ). relation_count (get_or paths n d).set) same ∙ ap (λ (z : Path). relation_count z.set) at in omega (arith, sets)
      ]

      first : (j < k) ⊎ (k ≤ j) → j < k
      first (inl h) = h
      first (inr h) = absurd (let le = not-later h in omega (arith, le, less))

  module _ (k : ℕ) (d : Path) (lt : k < length paths) where
    abbrev here : Path
    here = get_or paths k d

    abbrev plans : List Plan
    plans = map tree_of (take k paths)

    -- a kept plan whose relations are some of the path's, but not all, stands before it
    kept-before : (t : Plan) → IsKept fronts t → ((n : ℕ) → set_of t n ≡ true → has here.set.0 n ≡ true) → (m : ℕ) → m < 16 → set_of t m ≡ false → has here.set.0 m ≡ true → Contains plans t
    kept-before t kept within m low out in' =
        let h = kept-some c q fronts searched paths are t kept in
        let y = h.path in
        let set : IsSameSet (set_of t) (has y.set.0) = λ n. ap (λ (u : Plan). set_of u n) (sym h.is_plan) ∙ (is-path c q fronts searched paths are y h.is_there).is_path.plan.set_is n in
        let less : relation_count y.set < relation_count here.set = rank-less (has y.set.0) (has here.set.0) (λ n is. within n (set n ∙ is)) m (sym (set m) ∙ out) in' 16 low in
        subst (Contains plans) h.is_plan (contains-mapped tree_of (take k paths) y (before k d lt y h.is_there less))

    side-before : (keys : Keys) (t : Plan) → IsSideKept fronts t → HasKeys c q t keys → ((n : ℕ) → set_of t n ≡ true → has here.set.0 n ≡ true) → (m : ℕ) → m < 16 → set_of t m ≡ false → has here.set.0 m ≡ true → IsSideAmong plans keys t
    side-before keys (seq r) kept by' within m low out in' = kept-before (seq r) kept within m low out in'
    side-before keys (index r i backward p) kept by' within m low out in' = kept-before (index r i backward p) kept within m low out in'
    side-before keys (index_only r i backward p) kept by' within m low out in' = kept-before (index_only r i backward p) kept within m low out in'
    side-before keys (bitmap r p bits) kept by' within m low out in' = kept-before (bitmap r p bits) kept within m low out in'
    side-before keys (sort ks input) kept by' within m low out in' = (by', kept-before input kept within m low out in')
    side-before keys (nest outer inner) kept by' within m low out in' = kept-before (nest outer inner) kept within m low out in'
    side-before keys (merge ks outer inner) kept by' within m low out in' = kept-before (merge ks outer inner) kept within m low out in'

    is-there : Contains paths here
    is-there = Contains-get_or paths k d lt

    -- what is known of a join: its sides' relations are apart and make up the set, and it is of kept plans
    module _ (o i : Plan) (sides : AreSides o i) (built-o : IsBuilt c q o) (built-i : IsBuilt c q i) (set : (n : ℕ) → set_of o n || set_of i n ≡ has here.set.0 n) where
      some-o : (m : ℕ) × (set_of o m ≡ true)
      some-o = reads-some o

      some-i : (m : ℕ) × (set_of i m ≡ true)
      some-i = reads-some i

      low-o : some-o.0 < 16
      low-o = let lt = read-below (width q) o some-o.0 (built-below c q o built-o) some-o.1 in let few = over.few in omega (arith, lt, few)

      low-i : some-i.0 < 16
      low-i = let lt = read-below (width q) i some-i.0 (built-below c q i built-i) some-i.1 in let few = over.few in omega (arith, lt, few)

      within-o : (n : ℕ) → set_of o n ≡ true → has here.set.0 n ≡ true
      within-o n is = sym (set n) ∙ ap (λ b. b || set_of i n) is

      within-i : (n : ℕ) → set_of i n ≡ true → has here.set.0 n ≡ true
      within-i n is = sym (set n) ∙ ap (λ b. set_of o n || b) is ∙ or-true (set_of o n)

      out-o : set_of o some-i.0 ≡ false
      out-o = other-out (set_of o some-i.0) (set_of i some-i.0) (sides.apart some-i.0) some-i.1

      out-i : set_of i some-o.0 ≡ false
      out-i = sides.apart some-o.0 some-o.1

      not-single : ¬ IsSingle here.set
      not-single (r, same) = no-join o i r sides (λ n. set n ∙ same n)

      of-kept : (t : Plan) → here.tree ≡ t → IsJoinOfKept fronts t
      of-kept t e =
          subst (IsJoinOfKept fronts) e
          (All-contains (IsJoinPath c q fronts here.set here.param) (fronts here.set here.param) here (searched.kept here.set here.param not-single) (from-front c q fronts searched paths are here is-there)).sides

      made-nest : here.tree ≡ nest o i → Contains plans o × Contains plans i
      made-nest e =
          let kept = of-kept (nest o i) e in
          (kept-before o kept.0 within-o some-i.0 low-i out-o (within-i some-i.0 some-i.1), kept-before i kept.1 within-i some-o.0 low-o out-i (within-o some-o.0 some-o.1))

      made-merge : (keys : Keys) → here.tree ≡ merge keys o i → HasKeys c q o keys → HasKeys c q i keys → IsSideAmong plans keys o × IsSideAmong plans keys i
      made-merge keys e keys-o keys-i =
          let kept = of-kept (merge keys o i) e in (
            side-before keys o kept.0 keys-o within-o some-i.0 low-i out-o (within-i some-i.0 some-i.1),
            side-before keys i kept.1 keys-i within-i some-o.0 low-o out-i (within-o some-o.0 some-o.1),
          )

    made : (t : Plan) → here.tree ≡ t → IsPlanOf c q (has here.set.0) (has here.param.0) t → IsMadeAmong (width q) plans here t
    made (seq r) e of = relation-of (width q) here.set r of.built of.set_is
    made (index r i backward p) e of = (relation-of (width q) here.set r of.built.relation of.set_is, sym (same-param r here.param p of.param_is))
    made (index_only r i backward p) e of = (relation-of (width q) here.set r of.built.scan.relation of.set_is, sym (same-param r here.param p of.param_is))
    made (bitmap r p bits) e of = (relation-of (width q) here.set r of.built.relation of.set_is, sym (same-param r here.param p of.param_is))
    made (sort keys input) e of = true≢false of.plain
    made (nest o i) e of = made-nest o i of.built.2.sides of.built.0 of.built.1 of.set_is e
    made (merge keys o i) e of = made-merge o i of.built.2.sides of.built.0 of.built.1 of.set_is keys e of.built.2.outer_keys of.built.2.inner_keys

  pub made-in-turn : AreMadeInTurn (width q) paths
  made-in-turn k d lt =
      made k d lt (get_or paths k d).tree refl (is-path c q fronts searched paths are (get_or paths k d) (Contains-get_or paths k d lt)).is_path.plan
