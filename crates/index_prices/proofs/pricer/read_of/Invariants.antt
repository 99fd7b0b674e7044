use Rattle.std.proofs.Common.{◌≡◌, drop}
use Rattle.index_prices.specs.work.Prices.{read_by}
use Rattle.index_prices.proofs.pricer.read_of.Given as goal

abbrev pub invariant-loop-j : goal.invariant-loop-j
invariant-loop-j l = l.set ≡ read_by l.q (drop l.j l.candidates)
