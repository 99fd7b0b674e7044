use Rattle.std.proofs.Common.{◌≡◌, map, take}
use Rattle.catalog.specs.Range.{type_in}
use Rattle.reply.proofs.types.types_of.Given as goal

abbrev pub invariant-loop-column : goal.invariant-loop-column
invariant-loop-column l = l.types.items ≡ map (type_in l.cat l.range) (take l.column-index l.columns)
