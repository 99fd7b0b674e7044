use Rattle.std.proofs.Common.{◌≡◌, ◌++◌, map}
use Rattle.std.specs.Vec.Iter.{into_iter_items}
use Rattle.ddl_reader.specs.work.AsMeant.{value_seen, start_seen}
use Rattle.ddl_reader.proofs.statistics.bound_values.Given as goal

abbrev pub invariant-loop-one : goal.invariant-loop-one
invariant-loop-one l =
    (l.values.items ≡ map value_seen l.yielded) × (l.at.items ≡ l.fn.at.items ++ map start_seen l.yielded) × (l.fn.read.items ≡ l.yielded ++ into_iter_items l.one-iterator)
