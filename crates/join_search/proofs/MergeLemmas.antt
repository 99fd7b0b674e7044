-- Merge joins of two sets: in the plan space, with their cost, and dominated by those of the cheapest sides.
use Rattle.std.proofs.Common.{◌≡◌, ◌⊎◌, ◌<◌, ◌≤◌, ℕ, ◌+◌, ◌*◌, ◌-◌, ◌^◌, true, false, not, ◌||◌, ◌&&◌, Bool, cond, List, [], ◌∷◌, length, map, min, inl, inr, refl, sym, ◌∙◌, ap, ap₂, subst, subst₂, le_refl, arith}
use Rattle.std.specs.Prelude.{All, Contains}
use Rattle.std.proofs.Math.Nat.{mul-le-mul}
use Rattle.std.proofs.lemmas.Bool.{cases_lt, true≢false}
use Rattle.std.proofs.lemmas.List.Elements.{All-contains, All-contains_itself, All-map, All-nil, All-weaker}
use Rattle.pg_base.specs.Sets.{has}
use Rattle.pg_base.specs.declared.rel_set.RelSet.{RelSet}
use Rattle.catalog.specs.Contents.{Contents}
use Rattle.cost_rules.specs.Costs.{merge_cost, row_cost, sort_cost}
use Rattle.cost_rules.specs.work.Costs.{IsAtMost, capped, capped_pair}
use Rattle.cost_rules.specs.declared.pair.Pair.{Pair}
use Rattle.cost_rules.specs.declared.parameters.TheConstants.{MOST_COST, OPERATOR}
use Rattle.cost_rules.proofs.CapLemmas.{capped-rises}
use Rattle.eq_classes.specs.Clauses.{Set}
use Rattle.eq_classes.specs.Parts.{is_join}
use Rattle.path_cost.specs.Costs.{operators}
use Rattle.path_cost.specs.Estimates.{conditions_where, is_pair_of, pairs, set_rows}
use Rattle.pathkeys.specs.Keys.{Keys, covers}
use Rattle.pathkeys.proofs.CoveringLemmas.{covers-refl}
use Rattle.sql_query.specs.Queries.{Query}
use Rattle.plan_tree.specs.Costs.{cost, estimate, merge_operators}
use Rattle.plan_tree.specs.work.Costs.{HaveRows}
use Rattle.plan_tree.specs.work.Fronts.{StayDominated}
use Rattle.plan_tree.specs.Keys.{keys_of}
use Rattle.plan_tree.specs.Least.{IsAdmissible, IsStartupAtMost}
use Rattle.plan_tree.specs.Paths.{startup_kept}
use Rattle.plan_tree.specs.work.Paths.{Path, kept_cost}
use Rattle.plan_tree.specs.Plans.{Plan, seq, index, index_only, bitmap, sort, nest, merge, empty, is_sort, param_of, set_of}
use Rattle.plan_tree.specs.Space.{HasKeys, IsBuilt, IsEmpty, IsLike, IsMergeList, IsPlanOf, IsSameSet}
use Rattle.plan_tree.proofs.BoundLemmas.{merge-most, startup-most}
use Rattle.plan_tree.specs.work.Views.{path}
use Rattle.plan_tree.specs.declared.path.Path.{Path as Costed}
use Rattle.plan_tree.proofs.FrontLemmas.{all-sources, contains-mapped}
use Rattle.plan_tree.proofs.JoinLemmas.{merge_costs}
use Rattle.plan_tree.proofs.LikeLemmas.{set-like}
use Rattle.plan_tree.proofs.ReplacingLemmas.{merge-totals, sort-totals}
use Rattle.plan_tree.proofs.WindowLemmas.{kept-least, kept-most, kept-rises, merge-kept, sort-kept, startup-both, startup-from}
use Rattle.join_search.specs.work.Tables.{Fronts, none, paths_at}
use Rattle.join_search.specs.work.Joins.{ArePlaced, IsJoinOfKept, IsKept, IsPathAt, IsPlanIn, IsSideIn, IsSideKept}
use Rattle.join_search.specs.work.Merges.{AreEarlyServed, AreOutersServed, ArePlainEarlyServed, ArePlainServed, IsBestSide, IsCheapestBy, IsMergeWork, IsSideOf, cost_by, merge_with, side_of, side_path}
use Rattle.join_search.specs.work.Offers.{AreMergesServed, IsCheapest}
use Rattle.join_search.specs.work.Splits.{IsOver, IsSplit}
use Rattle.join_search.specs.work.Sufficing.{HasSufficient, IsServed}
use Rattle.join_search.specs.declared.sides.Side.{Side}
use Rattle.join_search.specs.declared.useful.Asked.{Asked}
use Rattle.join_search.specs.declared.merges.MergeWork.{MergeWork}
use Rattle.join_search.specs.declared.splits.Split.{Split}
use Rattle.join_search.proofs.OfferLemmas.{cheapest-of, kept-at-most, served-by, served-later}
use Rattle.join_search.proofs.ItemLemmas.{there-kept, plan-of-none, side-of-none}
use Rattle.join_search.proofs.PlanLemmas.{at-none, at-set, whole-rows}
use Rattle.plan_tree.proofs.SetLemmas.{sets-same}
use Rattle.plan_tree.proofs.BoundLemmas.{some-clamped}

by-true : (keys : Keys) (o : Costed) → covers o.keys keys ≡ true → cost_by keys o ≡ o.cost
by-true keys o e = ap (λ b. cond b o.cost (2 ^ 64 - 1)) e

by-false : (keys : Keys) (o : Costed) → covers o.keys keys ≡ false → cost_by keys o ≡ 2 ^ 64 - 1
by-false keys o e = ap (λ b. cond b o.cost (2 ^ 64 - 1)) e

-- the cheapest of the paths whose keys begin with a list
pub cheapest-by : (paths : List Costed) (p : Costed) (keys : Keys) → Contains paths p → All (λ o. cost_by keys p ≤ cost_by keys o) paths → covers p.keys keys ≡ true → IsCheapestBy keys (map path paths) (path p)
cheapest-by paths p keys is_there least e = record {
  is_there = contains-mapped path paths p is_there;
  begins = e;
  least = All-map (λ (o : Path). covers o.keys keys ≡ true → p.cost ≤ o.cost) path paths (All-weaker (λ (o : Costed). cost_by keys p ≤ cost_by keys o) (λ (o : Costed). covers o.keys keys ≡ true → p.cost ≤ o.cost) one paths least);
}
  where
    one : (o : Costed) → cost_by keys p ≤ cost_by keys o → covers o.keys keys ≡ true → p.cost ≤ o.cost
    one o le f = omega (arith, le, by-true keys p e, by-true keys o f)

pub none-begins : (paths : List Costed) (p : Costed) (keys : Keys) → All (λ o. o.cost < MOST_COST) paths → All (λ o. cost_by keys p ≤ cost_by keys o) paths → covers p.keys keys ≡ false → All (λ o. covers o.keys keys ≡ false) (map path paths)
none-begins paths p keys below least e =
    All-map (λ (o : Path). covers o.keys keys ≡ false) path paths (All-weaker (Contains paths) (λ (o : Costed). covers o.keys keys ≡ false) one paths (All-contains_itself paths))
  where
    one : (o : Costed) → Contains paths o → covers o.keys keys ≡ false
    one o h = by (covers o.keys keys) refl
      where
        by : (b : Bool) → covers o.keys keys ≡ b → covers o.keys keys ≡ false
        by false f = f
        by true f =
            let le = All-contains (λ (x : Costed). cost_by keys p ≤ cost_by keys x) paths o least h in
            let lt = All-contains (λ (x : Costed). x.cost < MOST_COST) paths o below h in
            absurd (omega (arith, le, lt, by-false keys p e, by-true keys o f))

pub none-empty : (paths : List Costed) (keys : Keys) → paths ≡ [] → All (λ o. covers o.keys keys ≡ false) (map path paths)
none-empty paths keys e = subst (All (λ (o : Path). covers o.keys keys ≡ false)) (ap (map path) (sym e)) (All-nil (λ (o : Path). covers o.keys keys ≡ false))

-- a kept plan that is no sort may be a side
plain-kept : (fronts : Fronts) (t : Plan) → is_sort t ≡ false → IsKept fronts t → IsSideKept fronts t
plain-kept fronts (seq r) e k = k
plain-kept fronts (index r i backward p) e k = k
plain-kept fronts (index_only r i backward p) e k = k
plain-kept fronts (bitmap r p bits) e k = k
plain-kept fronts (sort ks input) e k = absurd (true≢false e)
plain-kept fronts (nest o i) e k = k
plain-kept fronts (merge ks o i) e k = k

module _ (c : Contents) (q : Query) where
  side-set : (keys : Keys) (t : Plan) (b : Bool) → set_of (side_of keys t b) ≡ set_of t
  side-set keys t true = refl
  side-set keys t false = refl

  side-param : (keys : Keys) (t : Plan) (b : Bool) → param_of (side_of keys t b) ≡ param_of t
  side-param keys t true = refl
  side-param keys t false = refl

  side-estimate : (keys : Keys) (t : Plan) (b : Bool) → estimate c q (side_of keys t b) ≡ estimate c q t
  side-estimate keys t true = refl
  side-estimate keys t false = refl

  side-built : (keys : Keys) (t : Plan) (b : Bool) → IsBuilt c q t → is_sort t ≡ false → IsBuilt c q (side_of keys t b)
  side-built keys t true built plain = (built, plain)
  side-built keys t false built plain = built

  plain-has : (t : Plan) (keys : Keys) → is_sort t ≡ false → covers (keys_of c q t) keys ≡ true → HasKeys c q t keys
  plain-has (seq r) keys e h = h
  plain-has (index r i backward p) keys e h = h
  plain-has (index_only r i backward p) keys e h = h
  plain-has (bitmap r p bits) keys e h = h
  plain-has (sort ks input) keys e h = absurd (true≢false e)
  plain-has (nest outer inner) keys e h = h
  plain-has (merge ks outer inner) keys e h = h

  side-has : (keys : Keys) (p : Path) (b : Bool) → is_sort p.tree ≡ false → p.keys ≡ keys_of c q p.tree → (b ≡ false → covers p.keys keys ≡ true) → HasKeys c q (side_of keys p.tree b) keys
  side-has keys p true plain same h = refl
  side-has keys p false plain same h = plain-has p.tree keys plain (subst (λ ks. covers ks keys ≡ true) same (h refl))

  pub side-keys : (keys : Keys) (p : Path) (b : Bool) → p.keys ≡ keys_of c q p.tree → cond b keys p.keys ≡ keys_of c q (side_of keys p.tree b)
  side-keys keys p true same = refl
  side-keys keys p false same = same

  side-reads : (keys : Keys) (s : RelSet) (p : Path) (b : Bool) → IsPathAt c q s none p → IsSameSet (has s.0) (set_of (side_of keys p.tree b))
  side-reads keys s p b at k = at-set c q s none p at k ∙ ap (λ (x : Set). x k) (sym (side-set keys p.tree b))

  side-whole : (keys : Keys) (s : RelSet) (p : Path) (b : Bool) → IsPathAt c q s none p → IsEmpty (param_of (side_of keys p.tree b))
  side-whole keys s p b at k = ap (λ (x : Set). x k) (side-param keys p.tree b) ∙ at-none c q s p at k

  -- what a side costs
  pub side-sorted : (s : RelSet) (p : Path) (keys : Keys) (rows : ℕ) (b : Bool) → IsPathAt c q s none p → rows ≡ set_rows c q.range q.classes (has s.0) → b ≡ true →
      kept_cost q.window (capped_pair (sort_cost (capped_pair (kept_cost q.window (cost c q p.tree))) rows)) ≡ capped_pair (kept_cost q.window (cost c q (side_of keys p.tree b)))
  side-sorted s p keys rows true at same e =
      let as-set : has s.0 ≡ set_of p.tree = sets-same (has s.0) (set_of p.tree) (at-set c q s none p at) in
      sort-kept q.window (cost c q p.tree) rows ∙ ap (λ n. capped_pair (kept_cost q.window (sort_cost (cost c q p.tree) n))) (same ∙ ap (set_rows c q.range q.classes) as-set)
  side-sorted s p keys rows false at same e = absurd (true≢false (sym e))

  pub side-plain : (p : Path) (keys : Keys) (b : Bool) → b ≡ false → capped_pair (kept_cost q.window (cost c q p.tree)) ≡ capped_pair (kept_cost q.window (cost c q (side_of keys p.tree b)))
  side-plain p keys false e = refl
  side-plain p keys true e = absurd (true≢false e)

  -- the merge of two sides is a plan of their sets
  pub merge-plan : (j : Split) (keys : Keys) (o i : Path) (bo bi : Bool) → IsSplit c q j → IsMergeList c q (has j.outer.0) (has j.inner.0) keys → IsPathAt c q j.outer none o → IsPathAt c q j.inner none i →
      (bo ≡ false → covers o.keys keys ≡ true) → (bi ≡ false → covers i.keys keys ≡ true) → IsPlanOf c q (has j.set.0) empty (merge keys (side_of keys o.tree bo) (side_of keys i.tree bi))
  merge-plan j keys o i bo bi split list outer inner ho hi =
      let op = outer.is_path.plan in
      let ip = inner.is_path.plan in
      let reads = side-reads keys j.outer o bo outer in
      let reads' = side-reads keys j.inner i bi inner in
      record {
        built = (
          side-built keys o.tree bo op.built op.plain,
          side-built keys i.tree bi ip.built ip.plain,
          record {
            sides = record { apart = λ k is. sym (reads' k) ∙ split.divided.apart k (reads k ∙ is); outer_whole = side-whole keys j.outer o bo outer };
            inner_whole = side-whole keys j.inner i bi inner;
            list = subst₂ (λ a b. IsMergeList c q a b keys) (sets-same (has j.outer.0) _ reads) (sets-same (has j.inner.0) _ reads') list;
            outer_keys = side-has keys o bo op.plain outer.is_path.numbers.keys ho;
            inner_keys = side-has keys i bi ip.plain inner.is_path.numbers.keys hi;
          },
        );
        plain = refl;
        set_is = λ k. ap₂ (λ x y. x || y) (sym (reads k)) (sym (reads' k)) ∙ sym (split.divided.all k);
        param_is = λ k. refl;
      }

  -- a side is a sort by the list of a path's plan, or a path's plan whose keys begin with the list
  side-cases : (paths : List Path) (keys : Keys) (t : Plan) → IsSideIn paths t → HasKeys c q t keys → ((x : Plan) × IsPlanIn paths x × (t ≡ sort keys x)) ⊎ (IsPlanIn paths t × (covers (keys_of c q t) keys ≡ true))
  side-cases paths keys (sort ks input) k h = inl (input, k, ap (λ (l : Keys). sort l input) h)
  side-cases paths keys (seq r) k h = inr (k, h)
  side-cases paths keys (index r i backward p) k h = inr (k, h)
  side-cases paths keys (index_only r i backward p) k h = inr (k, h)
  side-cases paths keys (bitmap r p bits) k h = inr (k, h)
  side-cases paths keys (nest o i) k h = inr (k, h)
  side-cases paths keys (merge ks o i) k h = inr (k, h)

  -- the set and the parameterisation of a plan of some paths
  plan-reads : (s : RelSet) (paths : List Path) (t : Plan) → All (IsPathAt c q s none) paths → IsPlanIn paths t → IsSameSet (has s.0) (set_of t) × IsEmpty (param_of t)
  plan-reads s paths t at k =
      let h = All-contains (IsPathAt c q s none) paths k.path at k.is_there in
      (λ n. at-set c q s none k.path h n ∙ ap (λ (u : Plan). set_of u n) k.is_plan, λ n. sym (ap (λ (u : Plan). param_of u n) k.is_plan) ∙ at-none c q s k.path h n)

  path-like : (keys : Keys) (s : RelSet) (paths : List Path) (p : Path) (b : Bool) (t : Plan) → All (IsPathAt c q s none) paths → IsPathAt c q s none p → IsPlanIn paths t → IsLike (side_of keys p.tree b) t
  path-like keys s paths p b t at is k =
      let r = plan-reads s paths t at k in
      record { set = λ n. sym (side-reads keys s p b is n) ∙ r.0 n; param = λ n. side-whole keys s p b is n ∙ sym (r.1 n) }

  startup-refl : (t : Plan) → IsStartupAtMost q.window (cost c q t).startup (cost c q t).startup
  startup-refl t = startup-from q.window (cost c q t).startup (cost c q t).startup (le_refl (cost c q t).startup)

  -- a sort of the cheapest path costs no more than other sorts, neither before its first row nor in all
  sorts-most : (keys : Keys) (a : RelSet) (paths : List Path) (p : Path) (o : Plan) → All (IsPathAt c q a none) paths → IsCheapest paths p → IsPlanIn paths o → IsAtMost (cost c q (sort keys p.tree)) (cost c q (sort keys o))
  sorts-most keys a paths p o at cheapest k =
      let is = All-contains (IsPathAt c q a none) paths p at cheapest.is_there in
      let is' = All-contains (IsPathAt c q a none) paths k.path at k.is_there in
      let least = All-contains (λ (e : Path). p.cost ≤ e.cost) paths k.path cheapest.least k.is_there in
      let total : (cost c q p.tree).total ≤ (cost c q o).total = subst₂ (λ m n. m ≤ n) is.is_path.numbers.cost (is'.is_path.numbers.cost ∙ ap (λ (t : Plan). (cost c q t).total) k.is_plan) least in
      sort-totals c q keys p.tree o (path-like keys a paths p false o at is k) total

  -- the best of all sides
  module _ (keys : Keys) (b : RelSet) (paths : List Path) (at : All (IsPathAt c q b none) paths) (p : Path) (cheapest : IsCheapest paths p) where
    sorts-least : (x : Plan) → IsPlanIn paths x → (cost c q (sort keys p.tree)).total ≤ (cost c q (sort keys x)).total
    sorts-least x k = (sorts-most keys b paths p x at cheapest k).total

    plain-cost : (t : Plan) (k : IsPlanIn paths t) → k.path.cost ≡ (cost c q t).total
    plain-cost t k = (All-contains (IsPathAt c q b none) paths k.path at k.is_there).is_path.numbers.cost ∙ ap (λ (u : Plan). (cost c q u).total) k.is_plan

    plain-begins : (t : Plan) (k : IsPlanIn paths t) → covers (keys_of c q t) keys ≡ true → covers k.path.keys keys ≡ true
    plain-begins t k h = ap (λ ks. covers ks keys) ((All-contains (IsPathAt c q b none) paths k.path at k.is_there).is_path.numbers.keys ∙ ap (keys_of c q) k.is_plan) ∙ h

    -- no path's keys begin with the list
    pub best-alone : All (λ x. covers x.keys keys ≡ false) paths → IsBestSide c q keys paths p true
    best-alone never = record { side = record { is_there = cheapest.is_there; begins = λ e. absurd (true≢false e) }; least = λ t s built h admissible. by t (side-cases paths keys t s h) }
      where
        by : (t : Plan) → ((x : Plan) × IsPlanIn paths x × (t ≡ sort keys x)) ⊎ (IsPlanIn paths t × (covers (keys_of c q t) keys ≡ true)) → (cost c q (sort keys p.tree)).total ≤ (cost c q t).total
        by t (inl (x, k, e)) = subst (λ u. (cost c q (sort keys p.tree)).total ≤ (cost c q u).total) (sym e) (sorts-least x k)
        by t (inr (k, h)) = absurd (true≢false (sym (plain-begins t k h) ∙ All-contains (λ (x : Path). covers x.keys keys ≡ false) paths k.path never k.is_there))

    module _ (o : Path) (found : IsCheapestBy keys paths o) (n : ℕ) (e : n ≡ capped (cost c q (sort keys p.tree)).total) where
      is-o : IsPathAt c q b none o
      is-o = All-contains (IsPathAt c q b none) paths o at found.is_there

      plain-least : (t : Plan) (k : IsPlanIn paths t) → covers (keys_of c q t) keys ≡ true → o.cost ≤ (cost c q t).total
      plain-least t k h = subst (λ m. o.cost ≤ m) (plain-cost t k) (All-contains (λ (x : Path). covers x.keys keys ≡ true → o.cost ≤ x.cost) paths k.path found.least k.is_there (plain-begins t k h))

      pub best-plain : o.cost ≤ n → IsBestSide c q keys paths o false
      best-plain less = record { side = record { is_there = found.is_there; begins = λ f. found.begins }; least = λ t s built h admissible. by t admissible (side-cases paths keys t s h) }
        where
          own : o.cost ≡ (cost c q o.tree).total
          own = is-o.is_path.numbers.cost

          by : (t : Plan) → IsAdmissible c q t → ((x : Plan) × IsPlanIn paths x × (t ≡ sort keys x)) ⊎ (IsPlanIn paths t × (covers (keys_of c q t) keys ≡ true)) → (cost c q o.tree).total ≤ (cost c q t).total
          by t admissible (inl (x, k, f)) =
              let sorts = subst (λ u. (cost c q (sort keys p.tree)).total ≤ (cost c q u).total) (sym f) (sorts-least x k) in
              omega (arith, own, less, e, sorts, admissible)
          by t admissible (inr (k, h)) = omega (arith, own, plain-least t k h)

      pub best-sorted : n < o.cost → IsBestSide c q keys paths p true
      best-sorted more = record { side = record { is_there = cheapest.is_there; begins = λ f. absurd (true≢false f) }; least = λ t s built h admissible. by t admissible (side-cases paths keys t s h) }
        where
          by : (t : Plan) → IsAdmissible c q t → ((x : Plan) × IsPlanIn paths x × (t ≡ sort keys x)) ⊎ (IsPlanIn paths t × (covers (keys_of c q t) keys ≡ true)) → (cost c q (sort keys p.tree)).total ≤ (cost c q t).total
          by t admissible (inl (x, k, f)) = subst (λ u. (cost c q (sort keys p.tree)).total ≤ (cost c q u).total) (sym f) (sorts-least x k)
          by t admissible (inr (k, h)) = omega (arith, more, e, plain-least t k h, admissible)

  -- the best side, as it is found
  pub best-none : (keys : Keys) (b : RelSet) (paths : List Costed) (p : Costed) → All (IsPathAt c q b none) (map path paths) → Contains paths p → All (λ o. p.cost ≤ o.cost) paths → All (λ o. covers o.keys keys ≡ false) (map path paths) → IsBestSide c q keys (map path paths) (path p) true
  best-none keys b paths p at is_there least never = best-alone keys b (map path paths) at (path p) (cheapest-of paths p is_there least) never

  pub best-either : (keys : Keys) (b : RelSet) (paths : List Costed) (p o r : Costed) (sorted : Bool) (n : ℕ) → All (IsPathAt c q b none) (map path paths) → Contains paths p → All (λ o. p.cost ≤ o.cost) paths →
      IsCheapestBy keys (map path paths) (path o) → n ≡ capped (cost c q (sort keys (path p).tree)).total →
      (o.cost ≤ n → (r ≡ o) × (sorted ≡ false)) → (n < o.cost → (r ≡ p) × (sorted ≡ true)) → IsBestSide c q keys (map path paths) (path r) sorted
  best-either keys b paths p o r sorted n at is_there least found e plain other = by (cases_lt n o.cost)
    where
      cheap : IsCheapest (map path paths) (path p)
      cheap = cheapest-of paths p is_there least

      by : (n < o.cost) ⊎ (o.cost ≤ n) → IsBestSide c q keys (map path paths) (path r) sorted
      by (inl lt) =
          let h = other lt in
          subst₂ (λ (x : Costed) (f : Bool). IsBestSide c q keys (map path paths) (path x) f) (sym h.0) (sym h.1) (best-sorted keys b (map path paths) at (path p) cheap (path o) found n e lt)
      by (inr le) =
          let h = plain le in
          subst₂ (λ (x : Costed) (f : Bool). IsBestSide c q keys (map path paths) (path x) f) (sym h.0) (sym h.1) (best-plain keys b (map path paths) at (path p) cheap (path o) found n e le)

  pub paths-below : (s : RelSet) (paths : List Costed) → All (IsPathAt c q s none) (map path paths) → All (λ o. o.cost < MOST_COST) paths
  paths-below s paths h =
      All-weaker (λ (o : Costed). IsPathAt c q s none (path o)) (λ (o : Costed). o.cost < MOST_COST) (λ o k. let e = k.is_path.numbers.cost in let below = k.admissible in omega (arith, e, below)) paths (all-sources path (IsPathAt c q s none) paths h)

  -- the merge of two sides of a table's fronts
  module _ (fronts : Fronts) (placed : ArePlaced c q fronts) (j : Split) (keys : Keys) (split : IsSplit c q j) (list : IsMergeList c q (has j.outer.0) (has j.inner.0) keys)
      (o i : Path) (bo bi : Bool) (outer : IsSideOf keys (fronts j.outer none) o bo) (inner : IsSideOf keys (fronts j.inner none) i bi) where
    outer-at : IsPathAt c q j.outer none o
    outer-at = All-contains (IsPathAt c q j.outer none) (fronts j.outer none) o (placed.paths j.outer none) outer.is_there

    inner-at : IsPathAt c q j.inner none i
    inner-at = All-contains (IsPathAt c q j.inner none) (fronts j.inner none) i (placed.paths j.inner none) inner.is_there

    pub sides-plan : IsPlanOf c q (has j.set.0) empty (merge keys (side_of keys o.tree bo) (side_of keys i.tree bi))
    sides-plan = merge-plan j keys o i bo bi split list outer-at inner-at outer.begins inner.begins

    kept-side : (s : RelSet) (p : Path) (b : Bool) → Contains (fronts s none) p → is_sort p.tree ≡ false → IsSideKept fronts (side_of keys p.tree b)
    kept-side s p true there plain = there-kept fronts s none p there
    kept-side s p false there plain = plain-kept fronts p.tree plain (there-kept fronts s none p there)

    pub sides-kept : IsJoinOfKept fronts (merge keys (side_of keys o.tree bo) (side_of keys i.tree bi))
    sides-kept = (kept-side j.outer o bo outer.is_there outer-at.is_path.plan.plain, kept-side j.inner i bi inner.is_there inner-at.is_path.plan.plain)

    pub sides-keys : (ks : Keys) → ks ≡ cond bo keys o.keys → ks ≡ keys_of c q (merge keys (side_of keys o.tree bo) (side_of keys i.tree bi))
    sides-keys ks k = k ∙ side-keys keys o bo outer-at.is_path.numbers.keys

module _ (c : Contents) (q : Query) (asked : Asked) where
  -- a join with sides of the same sets that cost no more, and keys that begin with the outer side's, serves another
  pub replaced : (front : List Path) (keys : Keys) (o p i j : Plan) → IsLike p o → IsLike j i → (cost c q p).total ≤ (cost c q o).total → (cost c q j).total ≤ (cost c q i).total →
      IsStartupAtMost q.window (cost c q p).startup (cost c q o).startup → IsStartupAtMost q.window (cost c q j).startup (cost c q i).startup → IsBuilt c q p → IsBuilt c q j →
      HasKeys c q p keys → HasKeys c q j keys → covers (keys_of c q p) (keys_of c q o) ≡ true → IsServed c q asked front (merge keys p j) → IsServed c q asked front (merge keys o i)
  replaced front keys o p i j lp lj tp tj sp sj bp bj hp hj kp served built below =
      let most = merge-totals c q keys p o j i lp lj tp tj in
      let n = built.2 in
      let again : IsBuilt c q (merge keys p j) = (
        bp,
        bj,
        record {
          sides = record { apart = λ k e. lj.set k ∙ n.sides.apart k (sym (lp.set k) ∙ e); outer_whole = λ k. lp.param k ∙ n.sides.outer_whole k };
          inner_whole = λ k. lj.param k ∙ n.inner_whole k;
          list = subst₂ (λ a b. IsMergeList c q a b keys) (sym (set-like p o lp)) (sym (set-like j i lj)) n.list;
          outer_keys = hp;
          inner_keys = hj;
        },
      ) in
      served-by c q asked front (merge keys p j) (merge keys o i) again
      (record {
        like = record { set = λ k. ap₂ (λ x y. x || y) (lp.set k) (lj.set k); param = λ k. refl };
        total = most;
        startup = startup-both q.window (cost c q p).startup (cost c q o).startup (cost c q j).startup (cost c q i).startup sp sj;
        keys = kp;
      }) served built below

  -- where the merges of all outer sides with an inner side are served, so are those with one that costs no less
  inner-replaced : (front outers inners : List Path) (keys : Keys) (b : RelSet) (p : Path) (sorted : Bool) (i : Plan) → All (IsPathAt c q b none) inners → IsSideOf keys inners p sorted → IsSideIn inners i → HasKeys c q i keys →
      (cost c q (side_of keys p.tree sorted)).total ≤ (cost c q i).total → IsStartupAtMost q.window (cost c q (side_of keys p.tree sorted)).startup (cost c q i).startup →
      AreOutersServed c q asked front outers keys (side_of keys p.tree sorted) → AreOutersServed c q asked front outers keys i
  inner-replaced front outers inners keys b p sorted i at side si has total startup served o so built below =
      let is = All-contains (IsPathAt c q b none) inners p at side.is_there in
      let own : IsLike o o = record { set = λ k. refl; param = λ k. refl } in
      replaced front keys o o i (side_of keys p.tree sorted) own (like is i (side-cases c q inners keys i si has)) (le_refl (cost c q o).total) total (startup-refl c q o) startup built.0
      (side-built c q keys p.tree sorted is.is_path.plan.built is.is_path.plan.plain) built.2.outer_keys
      (side-has c q keys p sorted is.is_path.plan.plain is.is_path.numbers.keys side.begins) (covers-refl (keys_of c q o)) (served o so) built below
    where
      like : IsPathAt c q b none p → (i : Plan) → ((x : Plan) × IsPlanIn inners x × (i ≡ sort keys x)) ⊎ (IsPlanIn inners i × (covers (keys_of c q i) keys ≡ true)) → IsLike (side_of keys p.tree sorted) i
      like is i (inl (x, k, e)) = subst (IsLike (side_of keys p.tree sorted)) (sym e) (let l = path-like c q keys b inners p sorted x at is k in record { set = l.set; param = l.param })
      like is i (inr (k, h)) = path-like c q keys b inners p sorted i at is k

  -- where the merges of all outer sides with the best inner one are served, and those with each that starts earlier, those with
  -- any inner side are
  pub merges-served : HaveRows c q → (front outers inners : List Path) (keys : Keys) (b : RelSet) (p : Path) (sorted : Bool) (n : Pair) → All (IsPathAt c q b none) inners → IsBestSide c q keys inners p sorted →
      n ≡ capped_pair (kept_cost q.window (cost c q (side_of keys p.tree sorted))) →
      AreOutersServed c q asked front outers keys (side_of keys p.tree sorted) → AreEarlyServed c q asked front outers inners keys n.startup → AreMergesServed c q asked front outers inners keys
  merges-served some front outers inners keys b p sorted n at best e served early o i so si built below = by (cases_lt (startup_kept q.window (cost c q i).startup) n.startup)
    where
      by : (startup_kept q.window (cost c q i).startup < n.startup) ⊎ (n.startup ≤ startup_kept q.window (cost c q i).startup) → HasSufficient c q asked front (merge keys o i)
      by (inl lt) = early i si built.2.inner_keys lt o so built below
      by (inr le) =
          let sides = merge-most c q keys o i in
          let admissible = below.admissible in
          let most = startup-most c q some i in
          let kept = kept-least q.window (cost c q i).startup in
          let cut = ap (λ (x : Pair). x.startup) e in
          let least = best.least i si built.1 built.2.inner_keys (omega (arith, sides.1, admissible)) in
          inner-replaced front outers inners keys b p sorted i at best.side si built.2.inner_keys least
          (kept-most q.window (cost c q (side_of keys p.tree sorted)).startup (cost c q i).startup (omega (arith, cut, le, kept, most, sides.1, admissible))) served o so built below

  -- the outer sides: paths whose keys begin with the list, and sorts
  pub outers-served : (front outers : List Path) (keys : Keys) (a : RelSet) (i : Plan) → All (IsPathAt c q a none) outers → ArePlainServed c q asked front keys i outers → ((o : Plan) → IsPlanIn outers o → IsServed c q asked front (merge keys (sort keys o) i)) → AreOutersServed c q asked front outers keys i
  outers-served front outers keys a i at plain sorted o so built below = by (side-cases c q outers keys o so built.2.outer_keys) built below
    where
      by : ((x : Plan) × IsPlanIn outers x × (o ≡ sort keys x)) ⊎ (IsPlanIn outers o × (covers (keys_of c q o) keys ≡ true)) → IsServed c q asked front (merge keys o i)
      by (inl (x, k, e)) = subst (λ t. IsServed c q asked front (merge keys t i)) (sym e) (sorted x k)
      by (inr (k, h)) =
          let is = All-contains (IsPathAt c q a none) outers k.path at k.is_there in
          let begins : covers k.path.keys keys ≡ true = ap (λ ks. covers ks keys) (is.is_path.numbers.keys ∙ ap (keys_of c q) k.is_plan) ∙ h in
          let one = All-contains (λ (x : Path). covers x.keys keys ≡ true → IsServed c q asked front (merge keys x.tree i)) outers k.path plain k.is_there begins in
          subst (λ t. IsServed c q asked front (merge keys t i)) k.is_plan one

  -- the cheapest outer path sorted serves the others sorted
  pub sorted-served : (front outers : List Path) (keys : Keys) (a : RelSet) (p : Path) (i : Plan) → All (IsPathAt c q a none) outers → IsCheapest outers p → IsServed c q asked front (merge keys (sort keys p.tree) i) →
      (o : Plan) → IsPlanIn outers o → IsServed c q asked front (merge keys (sort keys o) i)
  sorted-served front outers keys a p i at cheapest served o k built below =
      let is = All-contains (IsPathAt c q a none) outers p at cheapest.is_there in
      let like = path-like c q keys a outers p false o at is k in
      let most = sorts-most c q keys a outers p o at cheapest k in
      let own : IsLike i i = record { set = λ n. refl; param = λ n. refl } in
      replaced front keys (sort keys o) (sort keys p.tree) i i (record { set = like.set; param = like.param }) own most.total (le_refl (cost c q i).total)
      (startup-from q.window (cost c q (sort keys p.tree)).startup (cost c q (sort keys o)).startup most.startup) (startup-refl c q i) (is.is_path.plan.built, is.is_path.plan.plain) built.1
      refl built.2.inner_keys (covers-refl keys) served built below

  -- the inner sides that start before a cost: paths whose keys begin with the list, and sorts, of which that of the cheapest path is first
  pub early-served : (front outers inners : List Path) (keys : Keys) (b : RelSet) (p : Path) (startup : ℕ) → All (IsPathAt c q b none) inners → IsCheapest inners p → ArePlainEarlyServed c q asked front outers keys startup inners →
      (startup_kept q.window (cost c q (sort keys p.tree)).startup < startup → AreOutersServed c q asked front outers keys (sort keys p.tree)) → AreEarlyServed c q asked front outers inners keys startup
  early-served front outers inners keys b p startup at cheapest plain sorted i si has lt = by (side-cases c q inners keys i si has)
    where
      by : ((x : Plan) × IsPlanIn inners x × (i ≡ sort keys x)) ⊎ (IsPlanIn inners i × (covers (keys_of c q i) keys ≡ true)) → AreOutersServed c q asked front outers keys i
      by (inl (x, k, e)) =
          let most = sorts-most c q keys b inners p x at cheapest k in
          let same : cost c q (sort keys x) ≡ cost c q i = ap (cost c q) (sym e) in
          let total = subst (λ (n : Pair). (cost c q (sort keys p.tree)).total ≤ n.total) same most.total in
          let start = subst (λ (n : Pair). (cost c q (sort keys p.tree)).startup ≤ n.startup) same most.startup in
          let rises = kept-rises q.window (cost c q (sort keys p.tree)).startup (cost c q i).startup start in
          inner-replaced front outers inners keys b p true i at (record { is_there = cheapest.is_there; begins = λ f. absurd (true≢false f) }) si has total
          (startup-from q.window (cost c q (sort keys p.tree)).startup (cost c q i).startup start) (sorted (omega (arith, rises, lt)))
      by (inr (k, h)) =
          let is = All-contains (IsPathAt c q b none) inners k.path at k.is_there in
          let begins : covers k.path.keys keys ≡ true = ap (λ ks. covers ks keys) (is.is_path.numbers.keys ∙ ap (keys_of c q) k.is_plan) ∙ h in
          let starts : k.path.startup ≡ startup_kept q.window (cost c q i).startup = is.is_path.numbers.startup ∙ ap (λ (t : Plan). startup_kept q.window (cost c q t).startup) k.is_plan in
          let one = All-contains (λ (x : Path). covers x.keys keys ≡ true → x.startup < startup → AreOutersServed c q asked front outers keys x.tree) inners k.path plain k.is_there begins (omega (arith, starts, lt)) in
          subst (AreOutersServed c q asked front outers keys) k.is_plan one

  pub early-none : (front outers inners : List Path) (keys : Keys) (startup : ℕ) → inners ≡ [] → AreEarlyServed c q asked front outers inners keys startup
  early-none front outers inners keys startup e i si has lt = absurd (side-of-none inners i e si)

  pub outers-later : (old new outers : List Path) (keys : Keys) (i : Plan) → StayDominated c q old new → AreOutersServed c q asked old outers keys i → AreOutersServed c q asked new outers keys i
  outers-later old new outers keys i still h o so = served-later c q asked old new (merge keys o i) still (h o so)

  pub plain-early-later : (old new outers inners : List Path) (keys : Keys) (startup : ℕ) → StayDominated c q old new → ArePlainEarlyServed c q asked old outers keys startup inners → ArePlainEarlyServed c q asked new outers keys startup inners
  plain-early-later old new outers inners keys startup still h =
      All-weaker (λ (i : Path). covers i.keys keys ≡ true → i.startup < startup → AreOutersServed c q asked old outers keys i.tree) (λ (i : Path). covers i.keys keys ≡ true → i.startup < startup → AreOutersServed c q asked new outers keys i.tree)
      (λ i k e lt. outers-later old new outers keys i.tree still (k e lt)) inners h

  pub merges-none : (front outers inners : List Path) (keys : Keys) → inners ≡ [] → AreMergesServed c q asked front outers inners keys
  merges-none front outers inners keys e o i so si = absurd (side-of-none inners i e si)

  pub sorted-none : (front outers : List Path) (keys : Keys) (i : Plan) → outers ≡ [] → (o : Plan) → IsPlanIn outers o → IsServed c q asked front (merge keys (sort keys o) i)
  sorted-none front outers keys i e o k = absurd (plan-of-none outers o e k)

  pub merges-later : (old new outers inners : List Path) (keys : Keys) → StayDominated c q old new → AreMergesServed c q asked old outers inners keys → AreMergesServed c q asked new outers inners keys
  merges-later old new outers inners keys still h o i so si = served-later c q asked old new (merge keys o i) still (h o i so si)

  pub plain-later : (old new outers : List Path) (keys : Keys) (i : Plan) → StayDominated c q old new → ArePlainServed c q asked old keys i outers → ArePlainServed c q asked new keys i outers
  plain-later old new outers keys i still h =
      All-weaker (λ (o : Path). covers o.keys keys ≡ true → IsServed c q asked old (merge keys o.tree i)) (λ (o : Path). covers o.keys keys ≡ true → IsServed c q asked new (merge keys o.tree i)) (λ o k e. served-later c q asked old new (merge keys o.tree i) still (k e)) outers h

  -- a list that is no merge list has no merge of the space
  pub merges-all : (front outers inners : List Path) (a b : RelSet) (lists : List Keys) → All (IsPathAt c q a none) outers → All (IsPathAt c q b none) inners → ((keys : Keys) → IsMergeList c q (has a.0) (has b.0) keys → Contains lists keys) →
      All (AreMergesServed c q asked front outers inners) lists → (keys : Keys) → AreMergesServed c q asked front outers inners keys
  merges-all front outers inners a b lists at at' all h keys o i so si built below =
      let n = built.2 in
      let reads = reads-of a outers o at (side-cases c q outers keys o so n.outer_keys) in
      let reads' = reads-of b inners i at' (side-cases c q inners keys i si n.inner_keys) in
      let list = subst₂ (λ x y. IsMergeList c q x y keys) (sym (sets-same (has a.0) (set_of o) reads)) (sym (sets-same (has b.0) (set_of i) reads')) n.list in
      All-contains (AreMergesServed c q asked front outers inners) lists keys h (all keys list) o i so si built below
    where
      reads-of : (s : RelSet) (paths : List Path) (t : Plan) → All (IsPathAt c q s none) paths → ((x : Plan) × IsPlanIn paths x × (t ≡ sort keys x)) ⊎ (IsPlanIn paths t × (covers (keys_of c q t) keys ≡ true)) → IsSameSet (has s.0) (set_of t)
      reads-of s paths t is (inl (x, k, e)) n = (plan-reads c q s paths x is k).0 n ∙ ap (λ (u : Plan). set_of u n) (sym e)
      reads-of s paths t is (inr (k, h)) n = (plan-reads c q s paths t is k).0 n

-- one pair of rows without operators costs no more than some
work-rises : (a b : Pair) (ro ri k p n : ℕ) → 1 ≤ p → IsAtMost (merge_cost a b ro ri k 1 0) (merge_cost a b ro ri k p n)
work-rises a b ro ri k p n some =
    let ops : row_cost 0 ≤ row_cost n = omega arith in
    let work : 1 * row_cost 0 ≤ p * row_cost n = mul-le-mul {n₁ = 1} {m₁ = row_cost 0} {n₂ = p} {m₂ = row_cost n} some ops in
    record { startup = le_refl (a.startup + b.startup); total = sum (a.total + b.total + (ro + 2 * ri) * (k * OPERATOR)) (1 * row_cost 0) (p * row_cost n) work }
  where
    sum : (x y z : ℕ) → y ≤ z → x + y ≤ x + z
    sum x y z h = omega (arith, h)

-- the pairs of two sides are some
some-pairs : (c : Contents) (q : Query) (a b : Set) (keys : Keys) → 1 ≤ pairs c q.range q.classes a b keys
some-pairs c q a b keys = some-clamped _

-- a side of a split
pub side-at : (j : Split) → IsOver j → (keys : Keys) (s : RelSet) (x : Side) → IsSideOf keys (paths_at j.table.now s none) (side_path x) x.sorted → IsPathAt j.cat.now j.q.now s none (side_path x)
side-at j over keys s x side = All-contains (IsPathAt j.cat.now j.q.now s none) (paths_at j.table.now s none) (side_path x) (over.placed.paths s none) side.is_there

module _ (j : Split) (keys : Keys) (o i : Path) (bo bi : Bool) where
  abbrev c : Contents
  c = j.cat.now

  abbrev q : Query
  q = j.q.now

  abbrev t : Plan
  t = side_of keys o.tree bo

  abbrev u : Plan
  u = side_of keys i.tree bi

  -- what the merge of two sides costs with so many pairs and operators
  pub merge-reckoned : (p m n : ℕ) (x y : Pair) (len : ℕ) (result : Pair) → IsSplit c q j → IsPathAt c q j.outer none o → IsPathAt c q j.inner none i → 1 ≤ p → m ≡ min n (2 ^ 64 - 1) →
      x ≡ capped_pair (kept_cost q.window (cost c q t)) → y ≡ capped_pair (kept_cost q.window (cost c q u)) → len ≡ length keys →
      result ≡ capped_pair (merge_cost x y j.outer_rows j.inner_rows len p m) → result ≡ merge_with j keys t u p n
  merge-reckoned p m n x y len result split outer inner some cut ex ey el e =
      let rows : j.outer_rows ≡ estimate c q t = split.outer_rows ∙ whole-rows c q j.outer t (side-reads c q keys j.outer o bo outer) (side-whole c q keys j.outer o bo outer) in
      let rows' : j.inner_rows ≡ estimate c q u = split.inner_rows ∙ whole-rows c q j.inner u (side-reads c q keys j.inner i bi inner) (side-whole c q keys j.inner i bi inner) in
      let a = cost c q t in
      let b = cost c q u in
      merge_costs result x y j.outer_rows j.inner_rows len p m (estimate c q t) (estimate c q u) (length keys) p n
      e rows rows' el refl cut some (kept_cost q.window a) (kept_cost q.window b) ex ey
      ∙ ap capped_pair (merge-kept q.window a b (estimate c q t) (estimate c q u) (length keys) p n)

  -- with its own it costs what its plan does
  pub merge-exact : (w : MergeWork) (result : Pair) → IsPathAt c q j.outer none o → IsPathAt c q j.inner none i → IsMergeWork c q j keys w → ((n : ℕ) → w.ops ≡ min n (2 ^ 64 - 1) → result ≡ merge_with j keys t u w.pairs n) →
      result ≡ capped_pair (kept_cost q.window (cost c q (merge keys t u)))
  merge-exact w result outer inner work h =
      let as-set : has j.outer.0 ≡ set_of t = sets-same (has j.outer.0) (set_of t) (side-reads c q keys j.outer o bo outer) in
      let as-set' : has j.inner.0 ≡ set_of u = sets-same (has j.inner.0) (set_of u) (side-reads c q keys j.inner i bi inner) in
      let equal : w.pairs ≡ pairs c q.range q.classes (set_of t) (set_of u) keys = work.pairs ∙ (λ z. pairs c q.range q.classes (as-set z) (as-set' z) keys) in
      let ops : w.ops ≡ min (merge_operators q keys t u) (2 ^ 64 - 1) =
      work.ops ∙ (λ z. min (operators (conditions_where (λ k. is_join (as-set z) (as-set' z) k && not (is_pair_of keys k)) q.classes.clauses)) (2 ^ 64 - 1)) in
      h (merge_operators q keys t u) ops ∙ ap (λ p. merge_with j keys t u p (merge_operators q keys t u)) equal

  -- with the least work a merge costs no more than its plan does
  pub merge-least : (result : Pair) → ((n : ℕ) → 0 ≡ min n (2 ^ 64 - 1) → result ≡ merge_with j keys t u 1 n) → IsAtMost result (capped_pair (kept_cost q.window (cost c q (merge keys t u))))
  merge-least result h =
      subst (λ (m : Pair). IsAtMost m (capped_pair (kept_cost q.window (cost c q (merge keys t u))))) (sym (h 0 (omega arith)))
      (capped-rises _ _ (kept-at-most q.window _ _ (work-rises (cost c q t) (cost c q u) (estimate c q t) (estimate c q u) (length keys) (pairs c q.range q.classes (set_of t) (set_of u) keys) (merge_operators q keys t u) (some-pairs c q (set_of t) (set_of u) keys))))
