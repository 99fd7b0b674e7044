use Rattle.std.proofs.Common.{List, length, refl, subst, sym}
use Rattle.plan_tree.proofs.BoundLemmas.{lawful-rows}
use Rattle.plan_check.specs.work.Ranking.{AreRanked}
use Rattle.plan_check.specs.work.Views.{certificate}
use Rattle.plan_check.specs.declared.entry.Entry.{Entry as Entered}
use Rattle.certificate_check.proofs.CheckLemmas.{placed-there, valid-best, valid-dominated, valid-sorted}
use Rattle.certificate_check.proofs.checking.check.Goals as goal

pub returns-clause-dominated : goal.returns-clause-dominated
returns-clause-dominated c = valid-dominated c.args.cat.now c.args.q.now (certificate c.args.t.now) (lawful-rows c.args.cat.now c.args.q.now c.lawful.ensures) c.judge_all.result c.judge_all.ensures

pub returns-clause-best : goal.returns-clause-best
returns-clause-best c = valid-best c.args.cat.now c.args.q.now (certificate c.args.t.now) (lawful-rows c.args.cat.now c.args.q.now c.lawful.ensures) c.judge_all.result c.judge_all.ensures

pub returns-clause-sorted : goal.returns-clause-sorted
returns-clause-sorted c = valid-sorted c.args.cat.now c.args.q.now (certificate c.args.t.now) (λ w p o world bound built. c.plans_are_sorted.ensures w c.args.q.now p o world bound built) c.judge_all.result c.judge_all.ensures

pub judge_all-requires-clause-placed : goal.judge_all-requires-clause-placed
judge_all-requires-clause-placed c = placed-there (certificate c.args.t.now) c.args.t.now.entries c.items.result.now c.of-places.result refl c.items.ensures.list c.of-places.ensures

pub of-places-requires-clause-ranked : goal.of-places-requires-clause-ranked
of-places-requires-clause-ranked c = subst (λ (xs : List Entered). AreRanked c.order.result.now (length xs)) (sym c.items.ensures.list) c.order.ensures
