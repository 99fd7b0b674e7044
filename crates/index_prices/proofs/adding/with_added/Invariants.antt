use Rattle.std.proofs.Common.{◌≡◌}
use Rattle.pg_base.specs.Sets.{has}
use Rattle.index_prices.proofs.AddingLemmas.{so_far}
use Rattle.index_prices.proofs.adding.with_added.Given as goal

abbrev pub invariant-loop-j : goal.invariant-loop-j
invariant-loop-j l = l.made ≡ so_far l.cat l.candidates (has l.set) l.j
