use Rattle.std.specs.Io.KnownBytes.{Keeps}
use Rattle.pgplan_main.proofs.retried.RetriedRead.read.Given as goal

-- no byte was taken
abbrev pub invariant-loop : goal.invariant-loop
invariant-loop g l = Keeps (g.R.Read.remaining l.fn.self.inner) (g.R.Read.remaining l.self.inner)
