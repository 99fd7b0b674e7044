-- The paths of the fronts of a search dominate each admissible scan and each admissible join of their plans.
use Rattle.std.proofs.Common.{◌≡◌, true, false, List, get_or, sym, ◌∙◌, arith, true≢false}
use Rattle.std.specs.Prelude.{Contains}
use Rattle.std.proofs.lemmas.List.Elements.{All-contains, All-contains_itself, All-weaker}
use Rattle.catalog.specs.Contents.{Contents}
use Rattle.cost_rules.specs.declared.parameters.TheConstants.{MOST_COST}
use Rattle.pg_base.specs.declared.rel_set.RelSet.{RelSet}
use Rattle.sql_query.specs.Queries.{Query}
use Rattle.plan_tree.specs.work.Costs.{HaveRows}
use Rattle.plan_tree.specs.Least.{Dominates, IsAdmissible}
use Rattle.plan_tree.specs.work.Paths.{Path, is_at_most}
use Rattle.plan_tree.specs.Plans.{Plan}
use Rattle.plan_tree.proofs.AtMostLemmas.{dominates-at-most}
use Rattle.plan_laws.specs.Closed.{IsUndercut}
use Rattle.plan_laws.specs.work.Useful.{HasEnough, IsBelow}
use Rattle.plan_laws.proofs.UsefulLemmas.{price-total, suffices-dominates}
use Rattle.planner.specs.join_search_Joins.{AreUndominated, IsKept, IsPathAt}
use Rattle.planner.specs.join_search_Tables.{Fronts}
use Rattle.planner.proofs.SearchLemmas.{closed}
use Rattle.certificate_laws.specs.work.Kept.{AreKept, IsKeptPath, IsPlanOfSome}
use Rattle.certificate_laws.proofs.KeptLemmas.{sides-wider}
use Rattle.certificate_laws.specs.work.Searched.{AreOfFronts, IsSearched, all_asked}

module _ (c : Contents) (q : Query) (fronts : Fronts) (searched : IsSearched c q fronts) where
  pub at-place : (s p : RelSet) (x : Path) → Contains (fronts s p) x → IsPathAt c q s p x
  at-place s p x h = All-contains (IsPathAt c q s p) (fronts s p) x (searched.placed.paths s p) h

  module _ (paths : List Path) (are : AreOfFronts fronts paths) where
    abbrev pub IsFrom : Path → Type 0
    IsFrom x = Contains (fronts x.set x.param) x

    pub from-front : (x : Path) → Contains paths x → IsFrom x
    from-front x h = All-contains IsFrom paths x are.from h

    pub is-path : (x : Path) → Contains paths x → IsPathAt c q x.set x.param x
    is-path x h = at-place x.set x.param x (from-front x h)

    kept-path : (x : Path) → Contains paths x → IsKeptPath c q x
    kept-path x h = let at = is-path x h in record { is_path = at.is_path; admissible = at.admissible }

    -- a plan of the list is one of a front, and one of a front stands in the list
    some-kept : (t : Plan) → IsPlanOfSome paths t → IsKept fronts t
    some-kept t h = record {
      set = h.path.set;
      param = h.path.param;
      plan = record { path = h.path; is_there = from-front h.path h.is_there; is_plan = h.is_plan };
    }

    pub kept-some : (t : Plan) → IsKept fronts t → IsPlanOfSome paths t
    kept-some t k = record {
      path = k.plan.path;
      is_there = All-contains (Contains paths) (fronts k.set k.param) k.plan.path (are.all k.set k.param) k.plan.is_there;
      is_plan = k.plan.is_plan;
    }

    undercut : (t : Plan) → HasEnough c q true (IsKept fronts) MOST_COST t → IsUndercut c q (IsPlanOfSome paths) t
    undercut t h = record {
      by' = h.by';
      is_kept = kept-some h.by' h.is_kept;
      dominates = suffices-dominates c q h.by' t h.suffices;
    }

    no-at-most : (x y : Path) → Contains paths x → Contains paths y → is_at_most x y ≡ false → ¬ Dominates c q x.tree y.tree
    no-at-most x y hx hy e d =
        true≢false (sym (dominates-at-most c q x y (is-path x hx).is_path.numbers (is-path y hy).is_path.numbers d) ∙ e)

    none-dominated : AreUndominated c q paths
    none-dominated i j d lt within =
        let x = get_or paths i d in
        let y = get_or paths j d in
        let hx : Contains paths x = All-contains_itself paths i d (omega (arith, lt, within)) in
        let hy : Contains paths y = All-contains_itself paths j d within in
        let u = are.apart i j d lt within in
        (no-at-most x y hx hy u.0, no-at-most y x hy hx u.1)

    module _ (some : HaveRows c q) where
      below : (t : Plan) → IsAdmissible c q t → IsBelow c q MOST_COST t
      below t a = record { admissible = a; floor = let most = price-total c q some q.window t in omega (arith, most, a) }

      pub paths-kept : AreKept c q paths
      paths-kept =
          let whole = closed c q fronts searched.placed all_asked searched.covered searched.scans in
          record {
            paths_are = All-weaker (Contains paths) (IsKeptPath c q) kept-path paths (All-contains_itself paths);
            apart = none-dominated;
            scans = λ t e built a. undercut t (whole.scans t e built (below t a));
            joins = λ t sides built a. undercut t (whole.joins t (sides-wider c q (IsPlanOfSome paths) (IsKept fronts) some-kept t sides) built (below t a));
          }
