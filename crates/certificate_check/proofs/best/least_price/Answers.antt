use Rattle.std.proofs.Common.{arith, refl}
use Rattle.plan_check.specs.work.Views.{certificate}
use Rattle.entry_check.proofs.BestLemmas.{read-count}
use Rattle.certificate_check.proofs.LeastLemmas.{least-all, least-first, least-next}
use Rattle.certificate_check.proofs.best.least_price.Goals as goal

pub loop-n-init : goal.loop-n-init
loop-n-init c = least-first c.args.cat.now c.args.q.now (certificate c.args.t.now) c.args.best c.requires.best

pub better_side-plain-requires-clause-least : goal.better_side-plain-requires-clause-least
better_side-plain-requires-clause-least c = c.loop-n.invariant.some

pub loop-n-preserved : goal.loop-n-preserved
loop-n-preserved c =
    let a = c.better_side-plain.ensures in
    let b = c.better_side-least.ensures in
    least-next c.args.cat.now c.args.q.now (certificate c.args.t.now) c.loop-n.n c.loop-n.least c.better_side-plain.result c.better_side-least.result c.loop-n.invariant a.first a.this b.some b.first b.this

pub returns-clause-some : goal.returns-clause-some
returns-clause-some c = c.loop-n.invariant.some

pub returns-clause-least : goal.returns-clause-least
returns-clause-least c =
    let count = read-count (certificate c.args.t.now) c.args.t.now.entries c.items-n-end.result.now refl c.items-n-end.ensures.list in
    least-all c.args.cat.now c.args.q.now (certificate c.args.t.now) c.loop-n.n c.loop-n.least (omega (arith, count, c.loop-n-test.false)) c.loop-n.invariant
