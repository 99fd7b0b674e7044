-- Right entries as sides of joins.
use Rattle.std.proofs.Common.{◌≡◌, ◌≤◌, ◌<◌, ℕ, Bool, true, false, sym, ap, subst, ◌∙◌, arith}
use Rattle.std.specs.Prelude.{Option, Some, None}
use Rattle.pg_base.specs.Sets.{has}
use Rattle.pg_base.specs.declared.rel_set.RelSet.{RelSet}
use Rattle.catalog.specs.Contents.{Contents}
use Rattle.cost_rules.specs.Costs.{pair}
use Rattle.cost_rules.specs.work.Costs.{IsEstimate, capped_pair}
use Rattle.cost_rules.specs.declared.pair.Pair.{Pair}
use Rattle.cost_rules.specs.declared.parameters.TheConstants.{MOST_COST}
use Rattle.sql_query.specs.Queries.{Query, width}
use Rattle.sql_query.specs.declared.window.Window.{Window}
use Rattle.path_cost.specs.Estimates.{set_rows}
use Rattle.pathkeys.specs.Keys.{Keys}
use Rattle.plan_tree.specs.Costs.{cost, estimate}
use Rattle.plan_tree.specs.work.Costs.{HaveRows}
use Rattle.plan_tree.specs.Least.{IsAdmissible}
use Rattle.plan_tree.specs.Paths.{startup_kept}
use Rattle.plan_tree.specs.work.Paths.{kept_cost}
use Rattle.plan_tree.specs.Plans.{Plan, param_of, set_of, sort}
use Rattle.plan_tree.specs.Space.{IsEmpty, IsSameSet}
use Rattle.plan_tree.proofs.BoundLemmas.{startup-most}
use Rattle.plan_tree.proofs.PathLemmas.{built-below}
use Rattle.plan_tree.proofs.WindowLemmas.{path-cost, uncut-kept}
use Rattle.plan_tree.proofs.GivenLemmas.{read-below}
use Rattle.entry_check.specs.work.Parts.{IsPart, IsReckoned}
use Rattle.entry_check.specs.declared.work_parts.Part.{Part}
use Rattle.plan_check.specs.Certificates.{Entry, sorted_if}
use Rattle.plan_check.specs.Tables.{IsStartup}
use Rattle.plan_check.specs.work.Beating.{IsRight}
use Rattle.plan_check.proofs.BeatingLemmas.{as_path, path-numbers}
use Rattle.entry_check.specs.work.Owning.{AreNumbersOf}
use Rattle.entry_check.specs.declared.numbers.Own.{Own}
use Rattle.plan_tree.proofs.RowsLemmas.{plan-estimate}

-- a startup that is kept is the startup, where it counts
pub kept-start : (w : Option Window) (a b : ℕ) → a ≡ startup_kept w b → IsStartup w a b
kept-start None a b e = tt
kept-start (Some w) a b e = e

module _ (c : Contents) (q : Query) where
  module _ (e : Entry) (p : Plan) (r : IsRight c q e p) where
    -- the relations of a right entry are the query's
    pub relation-below : (k : ℕ) → has e.set.0 k ≡ true → k < width q
    relation-below k is = read-below (width q) p k (built-below c q p r.has.plan.built) (r.has.plan.set_is k ∙ is)

    -- what the cost of a side is computed from
    pub entry-part : (startup : ℕ) → HaveRows c q → startup ≡ startup_kept q.window e.startup → IsPart c q (record { set = e.set; param = e.param; cost = pair startup e.cost; rows = e.rows }) p
    entry-part startup some f =
        let x = path-cost c q (as_path q e p) some (path-numbers c q e p r) r.has.admissible in
        record {
          set = r.has.plan.set_is;
          param = r.has.plan.param_is;
          cost_is = ap (λ n. pair n e.cost) f ∙ x.0;
          rows_are = r.numbers.rows;
        }

    pub entry-reckoned : (startup : ℕ) → HaveRows c q → startup ≡ startup_kept q.window e.startup → IsReckoned (record { set = e.set; param = e.param; cost = pair startup e.cost; rows = e.rows })
    entry-reckoned startup some f =
        let x = path-cost c q (as_path q e p) some (path-numbers c q e p r) r.has.admissible in
        let most = x.1 in
        let total = r.numbers.total in
        let below = r.has.admissible in
        record { cost = record { startup = omega (arith, f, most); most = omega (arith, total, below) }; rows = subst IsEstimate (sym r.numbers.rows) (plan-estimate c q p) }

    whole : IsEmpty (has e.param.0) → IsEmpty (param_of p)
    whole none k = r.has.plan.param_is k ∙ none k

    -- a side that is sorted
    pub side-sorted : (keys : Keys) (s : Bool) (x y : Part) → s ≡ true → IsEmpty (has e.param.0) → IsPart c q x p → (IsPart c q x p → IsEmpty (param_of p) → IsPart c q y (sort keys p)) → IsPart c q y (sorted_if s keys p)
    side-sorted keys true x y is none h f = f h (whole none)
    side-sorted keys false x y is none h f = cc

    pub side-plain : (keys : Keys) (s : Bool) (x : Part) → s ≡ false → IsPart c q x p → IsPart c q x (sorted_if s keys p)
    side-plain keys true x is h = cc
    side-plain keys false x is h = h

  -- the numbers of a plan from its cost, which is cut
  pub numbers-are : (p : Plan) (x : Pair) (rows : ℕ) (own : Own) → HaveRows c q → x ≡ capped_pair (kept_cost q.window (cost c q p)) → x.total < MOST_COST → rows ≡ estimate c q p →
      own.startup ≡ x.startup → own.cost ≡ x.total → own.rows ≡ rows → AreNumbersOf c q p own
  numbers-are p x rows own some e below f s t u =
      let whole : x ≡ kept_cost q.window (cost c q p) = uncut-kept q.window (cost c q p) x (startup-most c q some p) e below in
      let total : x.total ≡ (cost c q p).total = ap (λ (y : Pair). y.total) whole in
      record {
        admissible = omega (arith, total, below);
        startup = kept-start q.window own.startup (cost c q p).startup (s ∙ ap (λ (y : Pair). y.startup) whole);
        total = t ∙ total;
        rows = u ∙ f;
      }

  pub not-admissible : (p : Plan) (x : Pair) → x ≡ capped_pair (kept_cost q.window (cost c q p)) → MOST_COST ≤ x.total → ¬ IsAdmissible c q p
  not-admissible p x e most below = let total = ap (λ (y : Pair). y.total) e in omega (arith, total, most, below)

  -- the rows of a plan that is given none, by its set
  pub set-estimate : (set : RelSet) (p : Plan) (n : ℕ) → IsSameSet (set_of p) (has set.0) → estimate c q p ≡ set_rows c q.range q.classes (set_of p) → n ≡ set_rows c q.range q.classes (has set.0) → n ≡ estimate c q p
  set-estimate set p n same whole e =
      let as-set : has set.0 ≡ set_of p = λ i k. sym (same k) i in
      e ∙ ap (set_rows c q.range q.classes) as-set ∙ sym whole
