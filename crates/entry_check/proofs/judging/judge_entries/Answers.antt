use Rattle.std.proofs.Common.{arith, refl}
use Rattle.plan_check.specs.work.Views.{certificate}
use Rattle.entry_check.proofs.BestLemmas.{read-count}
use Rattle.entry_check.proofs.JudgeLemmas.{all-right, none-right}
use Rattle.entry_check.proofs.judging.judge_entries.Goals as goal

pub loop-n-init : goal.loop-n-init
loop-n-init c = none-right c.args.cat.now c.args.q.now (certificate c.args.t.now)

pub returns-in-Some : goal.returns-in-Some
returns-in-Some c = record { place = c.loop-n.n; fault = c.in-Some.ensures.fault }

pub returns : goal.returns
returns c =
    let count = read-count (certificate c.args.t.now) c.args.t.now.entries c.items-n-end.result.now refl c.items-n-end.ensures.list in
    all-right c.args.cat.now c.args.q.now (certificate c.args.t.now) c.loop-n.n (omega (arith, count, c.loop-n-test.false)) c.loop-n.invariant
