use Rattle.std.proofs.Common.{◌≡◌, take}
use Rattle.catalog.specs.work.Keys.{key_names}
use Rattle.catalog.proofs.names.Names.copy.Given as goal

abbrev pub invariant-loop-n : goal.invariant-loop-n
invariant-loop-n l = key_names l.set.keys ≡ take l.n l.self
