-- The front of the paths of a set: some of them, that suffice for all.
use Rattle.std.proofs.Common.{◌≡◌, ◌⊎◌, ◌++◌, ◌&&◌, not, List, [], ◌∷◌, map, inl, inr, refl, sym, ◌∙◌, ap, subst, IsPermutation}
use Rattle.std.specs.Prelude.{All, AllPairs, Contains}
use Rattle.std.proofs.lemmas.List.Elements.{All-contains, All-contains_itself, All-map, All-push, All-weaker}
use Rattle.std.proofs.lemmas.List.Sorted.{Contains-permutation, IsPermutation-map, IsPermutation-sym}
use Rattle.pareto.specs.work.Front as pareto
use Rattle.pareto.specs.work.Front.{AreKeptOr, Unrelated}
use Rattle.pg_base.specs.Sets.{has}
use Rattle.pg_base.specs.declared.rel_set.RelSet.{RelSet}
use Rattle.catalog.specs.Contents.{Contents}
use Rattle.cost_rules.specs.work.Costs.{capped_pair}
use Rattle.cost_rules.specs.declared.pair.Pair.{Pair}
use Rattle.pathkeys.specs.Keys.{Keys}
use Rattle.sql_query.specs.Queries.{Query, all_of_query}
use Rattle.plan_tree.specs.Costs.{cost}
use Rattle.plan_tree.specs.work.Fronts.{StayDominated}
use Rattle.plan_tree.specs.work.Paths.{Path, IsPathOf, kept_cost}
use Rattle.plan_tree.specs.Plans.{empty}
use Rattle.plan_tree.specs.Space.{IsPlanOf, IsSameSet}
use Rattle.plan_tree.specs.work.Views.{is_path_at_most, path}
use Rattle.plan_tree.specs.declared.path.Path.{Path as Costed}
use Rattle.plan_tree.proofs.FrontLemmas.{contains-mapped, contains-source, made-dominated, still-dominated}
use Rattle.kept_paths.specs.work.Bounds.{IsBeaten}
use Rattle.kept_paths.proofs.PlaceLemmas.{covers-there}
use Rattle.plan_laws.specs.work.Useful.{Suffices, outside}
use Rattle.join_search.specs.work.Tables.{none}
use Rattle.join_search.specs.work.Joins.{AreUndominated, IsPathAt}
use Rattle.join_search.specs.work.Sufficing.{HasSufficient, IsPartOfUse, StaySufficient}
use Rattle.join_search.specs.declared.useful.Asked.{Asked}
use Rattle.join_search.proofs.OfferLemmas.{beaten-sufficient, dominating-serves, paths-there, stay-sufficient, sufficient-from}
use Rattle.join_search.proofs.PlanLemmas.{at-none, at-set}
use Rattle.join_search.proofs.SearchLemmas.{front-paths, front-still, undominated-of}

-- the relations outside of a set
pub outside-is : (q : Query) (set all out : RelSet) → IsSameSet (has all.0) (all_of_query q) → IsSameSet (has out.0) (λ k. has all.0 k && not (has set.0 k)) → IsSameSet (has out.0) (outside q (has set.0))
outside-is q set all out h k n = k n ∙ ap (λ b. b && not (has set.0 n)) (h n)

pub contained : (items kept : List Path) (P : Path → Type 0) → All (Contains items) kept → All P items → All P kept
contained items kept P some h = All-weaker (Contains items) P (λ x at. All-contains P items x h at) kept some

module _ (c : Contents) (q : Query) (asked : Asked) (set : RelSet) where
  at-plan : (x : Path) → IsPathAt c q set none x → IsPlanOf c q (has set.0) empty x.tree
  at-plan x h = record { built = h.is_path.plan.built; plain = h.is_path.plan.plain; set_is = λ k. sym (at-set c q set none x h k); param_is = λ k. at-none c q set x h k }

  -- a path that is beaten has a sufficient one
  pub made-beaten : (front : List Path) (x : Path) (n : Pair) (part : Keys) → All (IsPathAt c q set none) front → IsPathAt c q set none x → n ≡ capped_pair (kept_cost q.window (cost c q x.tree)) → IsPartOfUse q asked (has set.0) x.keys part →
      IsBeaten front n part → HasSufficient c q asked front x.tree
  made-beaten front x n part paths h e of_use beaten =
      beaten-sufficient c q asked set front x.tree n part paths (at-plan x h) e (subst (λ (ks : Keys). IsPartOfUse q asked (has set.0) ks part) h.is_path.numbers.keys of_use) beaten

  module _ (old new : List Costed) (made : Costed) (kept : AreKeptOr old made new) (before : All (IsPathAt c q set none) (map path old)) (stands : IsPathAt c q set none (path made)) where
    pub offered-still : All (pareto.IsCovered is_path_at_most new) old → StayDominated c q (map path old) (map path new)
    offered-still covered = still-dominated c q old new made kept (paths-there c q set (map path old) before) stands.is_path covered

    pub offered-enough : Contains new made → HasSufficient c q asked (map path new) (path made).tree
    offered-enough there = dominating-serves c q asked (map path new) (path made).tree (made-dominated c q old new made kept (paths-there c q set (map path old) before) stands.is_path (path made).tree refl (covers-there new made there))

  -- what is kept of the paths so far
  module _ (items : List Costed) (paths : All (IsPathAt c q set none) (map path items)) where
    pub some-at : (kept : List Costed) → All (Contains (map path items)) (map path kept) → All (IsPathAt c q set none) (map path kept)
    some-at kept some = contained (map path items) (map path kept) (IsPathAt c q set none) some paths

    pub item-at : (x : Costed) → Contains items x → IsPathAt c q set none (path x)
    item-at x there = All-contains (IsPathAt c q set none) (map path items) (path x) paths (contains-mapped path items x there)

    pub some-more : (old new : List Costed) (made : Costed) → AreKeptOr old made new → All (Contains (map path items)) (map path old) → Contains items made → All (Contains (map path items)) (map path new)
    some-more old new made kept some there = All-map (Contains (map path items)) path new (All-weaker (λ x. Contains old x ⊎ (x ≡ made)) (λ x. Contains (map path items) (path x)) one new kept)
      where
        one : (x : Costed) → Contains old x ⊎ (x ≡ made) → Contains (map path items) (path x)
        one x (inl h) = All-contains (Contains (map path items)) (map path old) (path x) some (contains-mapped path old x h)
        one x (inr e) = subst (λ (y : Costed). Contains (map path items) (path y)) (sym e) (contains-mapped path items made there)

    pub enough-more : (drawn old new : List Costed) (made : Costed) → StayDominated c q (map path old) (map path new) → All (λ x. HasSufficient c q asked (map path old) (path x).tree) drawn → HasSufficient c q asked (map path new) (path made).tree →
        All (λ x. HasSufficient c q asked (map path new) (path x).tree) (drawn ++ made ∷ [])
    enough-more drawn old new made still before one =
        All-push (λ (x : Costed). HasSufficient c q asked (map path new) (path x).tree) drawn made
        (All-weaker (λ (x : Costed). HasSufficient c q asked (map path old) (path x).tree) (λ (x : Costed). HasSufficient c q asked (map path new) (path x).tree)
        (λ x h. stay-sufficient c q asked (map path old) (map path new) still (path x).tree h) drawn before) one

    -- the front of them
    module _ (kept front : List Costed) (some : All (Contains (map path items)) (map path kept)) (enough : All (λ x. HasSufficient c q asked (map path kept) (path x).tree) items) (of : All (Contains kept) front) (covered : All (pareto.IsCovered is_path_at_most front) kept) where
      pub among-some : All (Contains (map path items)) (map path front)
      among-some = contained (map path kept) (map path front) (Contains (map path items)) (front-paths c q set kept front of covered (some-at kept some)) some

      pub among-enough : StaySufficient c q asked (map path items) (map path front)
      among-enough t h =
          let found = contains-source path items h.path h.is_there in
          let x = found.0 in
          let one = All-contains (λ (y : Costed). HasSufficient c q asked (map path kept) (path y).tree) items x enough found.1 in
          let two = stay-sufficient c q asked (map path kept) (map path front) (front-still c q set kept front of covered (some-at kept some)) (path x).tree one in
          sufficient-from c q asked (map path front) (path x).tree t (subst (λ (y : Path). Suffices c q asked.every_key y.tree t) (sym found.2) h.suffices) two

      pub among-undominated : AllPairs (Unrelated is_path_at_most) front → AreUndominated c q (map path front)
      among-undominated pairs = undominated-of c q front pairs (All-weaker (IsPathAt c q set none) (IsPathOf c q) (λ x h. h.is_path) (map path front) (contained (map path items) (map path front) (IsPathAt c q set none) among-some paths))

  -- a front over the paths in another order
  module _ (first items : List Costed) (shuffled : IsPermutation first items) where
    there : (x : Path) → Contains (map path first) x → Contains (map path items) x
    there x h = Contains-permutation (map path first) (map path items) x (IsPermutation-map path first items shuffled) h

    back : (x : Path) → Contains (map path items) x → Contains (map path first) x
    back x h = Contains-permutation (map path items) (map path first) x (IsPermutation-sym (map path first) (map path items) (IsPermutation-map path first items shuffled)) h

    pub shuffled-at : All (IsPathAt c q set none) (map path first) → All (IsPathAt c q set none) (map path items)
    shuffled-at paths = All-weaker (Contains (map path items)) (IsPathAt c q set none) (λ x at. All-contains (IsPathAt c q set none) (map path first) x paths (back x at)) (map path items) (All-contains_itself (map path items))

    pub shuffled-some : (front : List Path) → All (Contains (map path items)) front → All (Contains (map path first)) front
    shuffled-some front some = All-weaker (Contains (map path items)) (Contains (map path first)) back front some

    pub shuffled-enough : (front : List Path) → StaySufficient c q asked (map path items) front → StaySufficient c q asked (map path first) front
    shuffled-enough front still t h = still t (record { path = h.path; is_there = there h.path h.is_there; suffices = h.suffices })
