use Rattle.std.specs.Io.KnownBytes.{Keeps}
use Rattle.pgplan_main.proofs.retried.RetriedWrite.write.Given as goal

-- no byte was put
abbrev pub invariant-loop : goal.invariant-loop
invariant-loop g l = Keeps (g.W.Write.contents l.fn.self.inner) (g.W.Write.contents l.self.inner)
