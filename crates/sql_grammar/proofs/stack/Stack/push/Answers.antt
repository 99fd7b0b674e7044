use Rattle.std.proofs.Common.{arith, ap, ◌∙◌}
use Rattle.sql_grammar.specs.work.Machine.{depth_of}
use Rattle.sql_grammar.proofs.Room.{depth-length}
use Rattle.sql_grammar.proofs.stack.Stack.push.Goals as goal

pub overflow_add-self-2 : goal.overflow_add-self-2
overflow_add-self-2 c = omega (arith, c.self.invariant.1 ∙ ap depth_of c.self.view_is, depth-length c.args.self.now, c.level.ensures.one)
