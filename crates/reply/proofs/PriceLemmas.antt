-- The rows and the price of a finished path.
use Rattle.std.proofs.Common.{◌≡◌, ℕ, sym, ◌∙◌, ap, ap₂, subst, arith, Option, Some, None}
use Rattle.std.proofs.Math.Bool.{or_self}
use Rattle.catalog.specs.Contents.{Contents}
use Rattle.cost_rules.specs.work.Costs.{IsEstimate, capped_pair}
use Rattle.cost_rules.specs.declared.pair.Pair.{Pair}
use Rattle.path_cost.specs.Estimates.{set_rows}
use Rattle.sql_query.specs.Queries.{Query, all_of_query}
use Rattle.sql_query.specs.declared.window.Window.{Window}
use Rattle.explain.specs.Texts.{rows_limit_text, line_by, window_line}
use Rattle.plan_tree.specs.Costs.{asked, cost, price, query_rows, rows_given}
use Rattle.plan_tree.specs.work.Costs.{HaveRows}
use Rattle.plan_tree.specs.Least.{IsAdmissible}
use Rattle.plan_tree.specs.work.Paths.{IsFinishedPath, Path, kept_cost}
use Rattle.plan_tree.specs.Plans.{given_scan, nest, set_of}
use Rattle.plan_tree.proofs.BoundLemmas.{startup-most}
use Rattle.plan_tree.proofs.LikeLemmas.{given-like}
use Rattle.plan_tree.proofs.RowsLemmas.{plan-estimate}
use Rattle.plan_tree.proofs.WindowLemmas.{uncut-kept}

module _ (c : Contents) (q : Query) (p : Path) (h : IsFinishedPath c q p) where
  -- a finished path is no scan that is given rows
  given-none : given_scan p.tree ≡ None
  given-none = given-like p.tree (nest p.tree p.tree) (record { set = λ k. sym (or_self (set_of p.tree k)); param = λ k. h.finished.param_is k })

  -- its rows are those of the query
  pub rows-are : p.rows ≡ query_rows c q
  rows-are =
      let same : set_of p.tree ≡ all_of_query q = λ i k. h.finished.set_is k i in
      h.numbers.rows ∙ ap (rows_given c q (set_of p.tree)) given-none ∙ ap (set_rows c q.range q.classes) same

  pub rows-estimate : IsEstimate p.rows
  rows-estimate = subst IsEstimate (sym h.numbers.rows) (plan-estimate c q p.tree)

  -- what it keeps of its cost is not cut
  pub kept-whole : HaveRows c q → (x : Pair) → IsAdmissible c q p.tree → x ≡ capped_pair (kept_cost q.window (cost c q p.tree)) → x ≡ kept_cost q.window (cost c q p.tree)
  kept-whole some x admissible e =
      let total = ap (λ (y : Pair). y.total) e in
      uncut-kept q.window (cost c q p.tree) x (startup-most c q some p.tree) e (omega (arith, total, admissible))

  -- the line of LIMIT and OFFSET, by its price and the rows asked for
  pub line-is : (w : Window) → q.window ≡ Some w → (n m : ℕ) → n ≡ price c q p.tree → m ≡ asked w p.rows → rows_limit_text w n m ≡ window_line c q p.tree
  line-is w is n m priced wanted = ap₂ (rows_limit_text w) priced (wanted ∙ ap (asked w) rows-are) ∙ ap (λ (o : Option Window). line_by c q o p.tree) (sym is)
