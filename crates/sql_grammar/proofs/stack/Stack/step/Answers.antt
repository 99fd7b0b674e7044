use Rattle.std.proofs.Common.{arith}
use Rattle.sql_grammar.proofs.Room.{room-for, took, too-deep}
use Rattle.sql_grammar.proofs.stack.Stack.step.Goals as goal

pub push_all-requires : goal.push_all-requires
push_all-requires c = room-for c.in-Some.item c.args.class _ _ c.loop-item.self c.in-Some.ensures c.in-Some-takes.ensures c.loop-item.invariant.fits c.loop-item.invariant.shallow

pub returns-then-levels-gt-MOST_LEVELS : goal.returns-then-levels-gt-MOST_LEVELS
returns-then-levels-gt-MOST_LEVELS c =
    too-deep c.args.class c.args.self.now c.loop-item.self c.in-Some.item _ _ _ c.loop-item.invariant.same c.in-Some.ensures c.in-Some-takes.ensures c.push_all.ensures
    c.loop-item.invariant.fits c.loop-item.invariant.shallow (omega arith)

pub returns-else-levels-gt-MOST_LEVELS : goal.returns-else-levels-gt-MOST_LEVELS
returns-else-levels-gt-MOST_LEVELS c =
    took c.args.class c.args.self.now c.loop-item.self c.in-Some.item _ _ _ c.loop-item.invariant.same c.in-Some.ensures c.in-Some-takes.ensures c.push_all.ensures
    c.loop-item.invariant.fits c.loop-item.invariant.shallow (omega arith)
