-- The price of a finished path.
use Rattle.std.proofs.Common.{◌≡◌, ℕ, All, sym, ◌∙◌, ap, subst, arith}
use Rattle.pg_base.specs.Sets.{has}
use Rattle.catalog.specs.Contents.{Contents}
use Rattle.catalog.specs.Range.{Range}
use Rattle.cost_rules.specs.work.Costs.{capped_pair}
use Rattle.cost_rules.specs.declared.pair.Pair.{Pair}
use Rattle.eq_classes.specs.Clauses.{Clause, ClassTable}
use Rattle.path_cost.specs.work.Columns.{IsOver}
use Rattle.path_cost.specs.Estimates.{set_rows}
use Rattle.sql_query.specs.Queries.{Query, all_of_query}
use Rattle.sql_query.specs.WellBound.{IsWellBound}
use Rattle.plan_laws.proofs.OverLemmas.{clauses_over}
use Rattle.plan_tree.specs.Costs.{cost, query_rows}
use Rattle.plan_tree.specs.work.Costs.{HaveRows}
use Rattle.plan_tree.specs.Least.{IsAdmissible}
use Rattle.plan_tree.specs.work.Paths.{IsFinishedPath, Path, kept_cost}
use Rattle.plan_tree.proofs.BoundLemmas.{startup-most}
use Rattle.plan_tree.proofs.WindowLemmas.{uncut-kept}

module _ (c : Contents) (q : Query) (p : Path) (h : IsFinishedPath c q p) where
  -- the rows of its set are those of the query
  pub rows-are : (n : ℕ) → n ≡ set_rows c q.range q.classes (has p.set.0) → n ≡ query_rows c q
  rows-are n e = let same : has p.set.0 ≡ all_of_query q = λ i k. (h.numbers.set k ∙ h.finished.set_is k) i in e ∙ ap (set_rows c q.range q.classes) same

  -- what it keeps of its cost is not cut
  pub kept-whole : HaveRows c q → (x : Pair) → IsAdmissible c q p.tree → x ≡ capped_pair (kept_cost q.window (cost c q p.tree)) → x ≡ kept_cost q.window (cost c q p.tree)
  kept-whole some x admissible e =
      let total = ap (λ (y : Pair). y.total) e in
      uncut-kept q.window (cost c q p.tree) x (startup-most c q some p.tree) e (omega (arith, total, admissible))

-- the clauses of a well bound query are over its relations, which are lent
pub over-lent : (c : Contents) (q : Query) (range : Range) (t : ClassTable) → IsWellBound c q → range ≡ q.range → t ≡ q.classes → All (λ (k : Clause). IsOver c range k.cond) t.clauses
over-lent c q range t h e f =
    subst (λ (r : Range). All (λ (k : Clause). IsOver c r k.cond) t.clauses) (sym e)
    (subst (λ (u : ClassTable). All (λ (k : Clause). IsOver c q.range k.cond) u.clauses) (sym f) (clauses_over c q h))
