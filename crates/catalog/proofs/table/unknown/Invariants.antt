use Rattle.std.proofs.Common.{◌≡◌, map, take}
use Rattle.std.specs.Option.{option_map}
use Rattle.catalog.specs.Contents.{unknown as all_unknown}
use Rattle.catalog.specs.work.Entries.{statistics}
use Rattle.catalog.proofs.table.unknown.Given as goal

abbrev pub invariant-loop : goal.invariant-loop
invariant-loop l = map (option_map statistics) l.stats.items ≡ all_unknown (take l.index l.columns)
