use Rattle.std.proofs.Common.{arith}
use Rattle.plan_check.specs.work.Views.{certificate}
use Rattle.join_cover.specs.work.Serving.{AreJoinsOf}
use Rattle.pg_base.proofs.NumberLemmas.{each-below as below-next}
use Rattle.join_cover.proofs.joins.open_side.Goals as goal

pub loop-bits-preserved : goal.loop-bits-preserved
loop-bits-preserved c = below-next (λ y. AreJoinsOf c.args.j.now.cat.now c.args.j.now.q.now (certificate c.args.j.now.t.now) c.args.outer.0 y) c.loop-bits.bits c.loop-bits.invariant c.in_default.ensures

pub returns : goal.returns
returns c = λ y le. c.loop-bits.invariant y (omega (arith, le, c.loop-bits-test.false))

pub returns-in-Some : goal.returns-in-Some
returns-in-Some c = (c.args.outer, record { 0 = c.loop-bits.bits }, c.in-Some.ensures)
