use Rattle.std.proofs.Common.{subst, sym}
use Rattle.entry_check.specs.work.Working.{AreNestOperators}
use Rattle.entry_check.proofs.nests.operators_given.Goals as goal

pub returns-then-p-eq0 : goal.returns-then-p-eq0
returns-then-p-eq0 c = subst (λ p. AreNestOperators c.args.q.now c.args.work.now.outer.0 c.args.work.now.inner.0 p c.args.work.now.ops) (sym c.if-p-eq0.true) c.requires.tested

pub returns-in-Some : goal.returns-in-Some
returns-in-Some c = c.requires.given c.args.p.0 c.in-Some.ops c.in-Some.ensures
