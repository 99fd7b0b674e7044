use Rattle.std.proofs.Common.{arith, refl}
use Rattle.plan_check.specs.work.Views.{certificate}
use Rattle.entry_check.proofs.PlaceLemmas.{none-first, none-past, plan-read}
use Rattle.entry_check.proofs.entries.entry_before.Goals as goal

pub returns-then-number-lt1-clause-none : goal.returns-then-number-lt1-clause-none
returns-then-number-lt1-clause-none c = none-first c.args.q.now (certificate c.args.t.now) c.args.n c.args.number c.if-number-lt1.true

pub returns-then-number-n-clause-none : goal.returns-then-number-n-clause-none
returns-then-number-n-clause-none c = none-past c.args.q.now (certificate c.args.t.now) c.args.n c.args.number c.if-number-n.true

pub returns-clause-some : goal.returns-clause-some
returns-clause-some c =
    plan-read c.args.q.now (certificate c.args.t.now) c.args.cat.now c.args.t.now.entries c.items.result.now c.args.n c.args.number c.index-items-number.result refl c.items.ensures.list c.requires.within c.requires.right (omega (arith, c.if-number-lt1.false)) (omega (arith, c.if-number-n.false)) c.index-items-number.is
