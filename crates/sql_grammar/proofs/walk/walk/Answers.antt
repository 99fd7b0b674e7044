use Rattle.std.proofs.Common.{arith, sym, subst}
use Rattle.sql_grammar.proofs.Room.{room-length}
use Rattle.sql_grammar.proofs.Walked.{Walking, begins, stops, ended, done, goes-on}
use Rattle.sql_grammar.proofs.walk.walk.Goals as goal

pub new-stack-requires : goal.new-stack-requires
new-stack-requires c = omega (arith, c.requires.flat, room-length 16 c.args.start.now c.requires.fits)

pub loop-stack-init : goal.loop-stack-init
loop-stack-init c =
    subst (Walking c.args.text.now c.args.tokens.now c.args.first c.args.start.now c.args.first) (sym c.new-stack.ensures)
    (begins c.args.text.now c.args.tokens.now c.args.first c.args.start.now c.requires.first c.requires.fits c.requires.flat)

pub returns-in-Ended : goal.returns-in-Ended
returns-in-Ended c = ended _ _ _ _ _ _ _ c.requires.tokens c.loop-stack.invariant c.in-Ended.ensures

pub returns-in-Stops : goal.returns-in-Stops
returns-in-Stops c = stops _ _ _ _ _ _ _ c.requires.tokens c.loop-stack.invariant _ _ c.in-Stops.ensures c.fault_at.ensures

pub returns-then-is_empty : goal.returns-then-is_empty
returns-then-is_empty c = done _ _ _ _ _ _ _ c.requires.tokens c.loop-stack.invariant _ c.in-On.ensures (sym c.if-is_empty.ensures)

pub loop-stack-preserved : goal.loop-stack-preserved
loop-stack-preserved c = goes-on _ _ _ _ _ _ _ c.requires.tokens c.loop-stack.invariant _ c.in-On.ensures (sym c.if-is_empty.ensures) c.requires.closed
