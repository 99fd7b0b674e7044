use Rattle.std.proofs.Common.{◌≡◌, ◌++◌, map}
use Rattle.std.specs.List.{flat_map}
use Rattle.std.specs.Vec.Iter.{into_iter_items}
use Rattle.ddl_reader.specs.work.AsMeant.{common_seen, starts_seen}
use Rattle.ddl_reader.proofs.statistics.common_values.Given as goal

abbrev pub invariant-loop-one : goal.invariant-loop-one
invariant-loop-one l =
    (l.values.items ≡ map common_seen l.yielded) × (l.at.items ≡ l.fn.at.items ++ flat_map starts_seen l.yielded) × (l.fn.read.items ≡ l.yielded ++ into_iter_items l.one-iterator)
