use Rattle.plan_tree.proofs.BoundLemmas.{lawful-rows}
use Rattle.plan_check.specs.work.Views.{entry}
use Rattle.certificate_check.proofs.CostLemmas.{cost-most, kept-under, plain-kept, sorted-kept, start-most}
use Rattle.certificate_check.proofs.sides.finished_cost.Goals as goal

pub sort_total-sorted-requires-clause-input : goal.sort_total-sorted-requires-clause-input
sort_total-sorted-requires-clause-input c = cost-most c.args.cat.now c.args.q.now (entry c.args.e.now) c.args.sort c.requires.side

pub returns-then-sort-clause-kept : goal.returns-then-sort-clause-kept
returns-then-sort-clause-kept c = λ p right finished.
    sorted-kept c.args.cat.now c.args.q.now (entry c.args.e.now) c.args.sort p c.counted.result c.args.rows c.sort_total-sorted.result c.if-sort.true right finished c.requires.rows c.sort_total-sorted.ensures.rule c.counted.ensures

pub returns-then-sort-clause-startup : goal.returns-then-sort-clause-startup
returns-then-sort-clause-startup c = kept-under c.args.q.now.window c.counted.result c.sort_total-sorted.result.startup c.sort_total-sorted.result.total c.counted.ensures c.sort_total-sorted.ensures.startup

pub returns-clause-kept : goal.returns-clause-kept
returns-clause-kept c = λ p right finished. plain-kept c.args.cat.now c.args.q.now (entry c.args.e.now) c.args.sort p c.counted-2.result c.if-sort.false right c.counted-2.ensures

pub returns-clause-startup : goal.returns-clause-startup
returns-clause-startup c = start-most c.args.cat.now c.args.q.now (entry c.args.e.now) c.args.sort c.counted-2.result (lawful-rows c.args.cat.now c.args.q.now c.lawful.ensures) c.requires.side c.counted-2.ensures
