use Rattle.std.proofs.Common.{◌≡◌, take}
use Rattle.catalog.specs.work.Keys.{key_names}
use Rattle.catalog.proofs.names.Names.copy_of.Given as goal

abbrev pub invariant-loop-name : goal.invariant-loop-name
invariant-loop-name l = key_names l.set.keys ≡ take l.name-index l.names
