use Rattle.std.proofs.Common.{◌≡◌, ◌∷◌, ◌++◌, map}
use Rattle.std.specs.Vec.Iter.{into_iter_items}
use Rattle.ddl_reader.proofs.Made.{name_of, column_of, place_of}
use Rattle.ddl_reader.proofs.table.made.Given as goal

abbrev pub invariant-loop-def : goal.invariant-loop-def
invariant-loop-def l =
    (l.names.items ≡ map name_of l.yielded) × (l.columns.items ≡ map column_of l.yielded) × (l.at.items ≡ l.fn.name.token.start ∷ map place_of l.yielded)
    × (l.fn.defs.items ≡ l.yielded ++ into_iter_items l.def-iterator)
