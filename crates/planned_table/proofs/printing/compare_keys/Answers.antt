use Rattle.std.proofs.Common.{arith, sym, ◌∙◌}
use Rattle.planned_table.proofs.OrderLemmas.{first-longer, first-shorter}
use Rattle.planned_table.proofs.printing.compare_keys.Goals as goal

pub returns-then-n-b : goal.returns-then-n-b
returns-then-n-b c =
    sym (first-longer c.args.a.now c.args.b.now c.loop-n.n c.loop-n-test.true (omega (arith, c.if-n-b.true))) ∙ c.loop-n.invariant.same

pub returns-then-a-b : goal.returns-then-a-b
returns-then-a-b c =
    sym (first-shorter c.args.a.now c.args.b.now c.loop-n.n (omega (arith, c.loop-n-test.false)) (omega (arith, c.loop-n.auto.n-end, c.if-a-b.true))) ∙ c.loop-n.invariant.same
