-- Rows of all relations, and what a sort of a path of them costs.
use Rattle.std.proofs.Common.{◌≡◌, ◌<◌, ◌≤◌, Bool, true, false, ◌||◌, ◌∷◌, refl, sym, ◌∙◌, ap, subst, arith}
use Rattle.std.specs.Prelude.{None}
use Rattle.catalog.specs.Contents.{Contents}
use Rattle.cost_rules.specs.Costs.{sort_cost}
use Rattle.cost_rules.specs.work.Costs.{IsEstimate, capped_pair}
use Rattle.cost_rules.specs.declared.pair.Pair.{Pair}
use Rattle.cost_rules.specs.declared.parameters.TheConstants.{MOST_COST}
use Rattle.path_cost.specs.Estimates.{set_rows}
use Rattle.pathkeys.specs.Keys.{Keys}
use Rattle.sql_query.specs.Queries.{Query, all_of_query}
use Rattle.plan_tree.specs.Costs.{cost, query_rows, rows_given}
use Rattle.plan_tree.specs.work.Costs.{HaveRows}
use Rattle.plan_tree.specs.work.Paths.{Path, HasItsNumbers, kept_cost}
use Rattle.plan_tree.specs.Least.{IsAdmissible}
use Rattle.plan_tree.specs.Plans.{Plan, given_scan, nest, param_of, set_of, sort}
use Rattle.plan_tree.specs.Space.{IsEmpty}
use Rattle.plan_tree.proofs.BoundLemmas.{startup-most}
use Rattle.plan_tree.proofs.LikeLemmas.{given-like}
use Rattle.plan_tree.proofs.RowsLemmas.{plan-estimate}
use Rattle.plan_tree.proofs.WindowLemmas.{sort-kept, uncut-kept}
use Rattle.planner.specs.work.Finishing.{IsWhole, finished}

module _ (c : Contents) (q : Query) where
  or-self : (b : Bool) → b ≡ b || b
  or-self true = refl
  or-self false = refl

  -- a plan that is given no rows is no scan that is
  given-none : (t : Plan) → IsEmpty (param_of t) → given_scan t ≡ None
  given-none t none = given-like t (nest t t) (record { set = λ k. or-self (set_of t k); param = λ k. none k })

  -- the rows of a path of all relations are those of their set
  pub whole-rows : (p : Path) → IsWhole c q p → p.rows ≡ set_rows c q.range q.classes (set_of p.tree)
  whole-rows p h = h.numbers.rows ∙ ap (rows_given c q (set_of p.tree)) (given-none p.tree h.plan.param_is)

  pub whole-estimate : (p : Path) → IsWhole c q p → IsEstimate p.rows
  whole-estimate p h = subst IsEstimate (sym h.numbers.rows) (plan-estimate c q p.tree)

  -- the rows of a path of all relations are those of the query
  pub whole-query : (p : Path) → IsWhole c q p → p.rows ≡ query_rows c q
  whole-query p h = let same : set_of p.tree ≡ all_of_query q = λ i k. h.plan.set_is k i in whole-rows p h ∙ ap (set_rows c q.range q.classes) same

  -- what a sort of a path costs
  pub whole-sorted : (p : Path) (by' : Keys) (x : Pair) → IsWhole c q p → x ≡ capped_pair (kept_cost q.window (cost c q p.tree)) →
      kept_cost q.window (capped_pair (sort_cost x p.rows)) ≡ capped_pair (kept_cost q.window (cost c q (sort by' p.tree)))
  whole-sorted p by' x h e =
      ap (λ (y : Pair). kept_cost q.window (capped_pair (sort_cost y p.rows))) e ∙ sort-kept q.window (cost c q p.tree) p.rows
      ∙ ap (λ n. capped_pair (kept_cost q.window (sort_cost (cost c q p.tree) n))) (whole-rows p h)

  -- what a plan in the order asked for costs, where it is admissible
  pub uncut-finished : HaveRows c q → (p : Path) (x : Pair) → x ≡ capped_pair (kept_cost q.window (cost c q (finished c q p.tree))) → x.total < MOST_COST → (x ≡ kept_cost q.window (cost c q (finished c q p.tree))) × IsAdmissible c q (finished c q p.tree)
  uncut-finished some p x e below =
      let total = ap (λ (y : Pair). y.total) e in
      (uncut-kept q.window (cost c q (finished c q p.tree)) x (startup-most c q some (finished c q p.tree)) e below, omega (arith, total, below))

  pub cut-finished : (p : Path) (x : Pair) → x ≡ capped_pair (kept_cost q.window (cost c q (finished c q p.tree))) → MOST_COST ≤ x.total → ¬ IsAdmissible c q (finished c q p.tree)
  cut-finished p x e past a = let total = ap (λ (y : Pair). y.total) e in omega (arith, total, past, a)

  -- the path of a sort of a path has the numbers of its plan
  pub same-numbers : HaveRows c q → (p : Path) (order keys : Keys) (x : Pair) (t : Plan) → IsWhole c q p → t ≡ p.tree → keys ≡ order → x ≡ capped_pair (kept_cost q.window (cost c q (sort order p.tree))) → IsAdmissible c q (sort order p.tree) →
      HasItsNumbers c q (record { tree = sort order t; set = p.set; param = p.param; startup = x.startup; cost = x.total; rows = p.rows; keys = keys })
  same-numbers some p order keys x t h same equal cut below =
      let total = ap (λ (y : Pair). y.total) cut in
      let exact = uncut-kept q.window (cost c q (sort order p.tree)) x (startup-most c q some (sort order p.tree)) cut (omega (arith, total, below)) in
      subst (λ (u : Plan). HasItsNumbers c q (record { tree = sort order u; set = p.set; param = p.param; startup = x.startup; cost = x.total; rows = p.rows; keys = keys })) (sym same)
      (record {
        set = h.numbers.set;
        param = h.numbers.param;
        startup = ap (λ (y : Pair). y.startup) exact;
        cost = ap (λ (y : Pair). y.total) exact;
        rows = h.numbers.rows;
        keys = equal;
      })
