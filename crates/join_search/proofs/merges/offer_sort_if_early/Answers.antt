use Rattle.std.proofs.Common.{ap, arith}
use Rattle.std.proofs.lemmas.Bool.{true≢false}
use Rattle.std.proofs.lemmas.Result.{on_ok_weaker}
use Rattle.cost_rules.specs.declared.pair.Pair.{Pair}
use Rattle.plan_tree.specs.work.Views.{path}
use Rattle.join_search.specs.work.Tables.{none, paths_at}
use Rattle.join_search.proofs.ItemLemmas.{there-at}
use Rattle.join_search.proofs.merges.offer_sort_if_early.Goals as goal

pub side_cost-cost-requires-clause-at : goal.side_cost-cost-requires-clause-at
side_cost-cost-requires-clause-at c = there-at c.args.j.now.cat.now c.args.j.now.q.now (paths_at c.args.j.now.table.now) c.args.j.now.inner none (path c.args.inner.now) c.requires.over.placed c.requires.inner

pub returns-then-cost-startup-clause-served : goal.returns-then-cost-startup-clause-served
returns-then-cost-startup-clause-served c = λ lt.
    let cut = ap (λ (n : Pair). n.startup) (c.side_cost-cost.ensures.kept c.args.by.now) in
    absurd (omega (arith, lt, cut, c.if-cost-startup.true))

pub offer_side-requires-clause-inner : goal.offer_side-requires-clause-inner
offer_side-requires-clause-inner c = record { is_there = c.requires.inner; begins = λ e. absurd (true≢false e) }

pub returns-clause-served : goal.returns-clause-served
returns-clause-served c = on_ok_weaker c.offer_side.result (λ served lt. served) c.offer_side.ensures.served
