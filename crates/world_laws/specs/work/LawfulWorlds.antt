-- Working words beside those of `LawfulWorlds`.
use Rattle.std.specs.Prelude.{◌≡◌, ℕ, List, true, Ok}
use Rattle.catalog.specs.Contents.{IsIndexOf, IsLawfulTable, IsTable, new_table, table_at}
use Rattle.catalog.specs.Indexes.{type_at}
use Rattle.catalog.specs.Statistics.{IsLawfulStatistics, is_count}
use Rattle.catalog.specs.Tables.{IsAcceptable, IsAcceptableIndex}
use Rattle.heap.specs.Loading.{loaded}
use Rattle.sql_query.specs.Worlds.{World, stored_at}
use Rattle.store.specs.Actions.{Action, idle, make, build, size, describe, fill, gather, answer, explain, certify, advise, verify, follow, answer_groups, explain_groups}

-- what may be done in a world: a lawful table is made under an unused name where there is room, and a lawful index of a table
-- there; sizes and statistics that are given are lawful; and what comes to be stored of a table is what its rows are with those
-- of a block of data behind them
abbrev pub MayBeDone : World → Action → Type 0
MayBeDone w idle = Unit {0}
MayBeDone w (make name names columns) = IsAcceptable w.contents name names × IsLawfulTable (new_table name names columns)
MayBeDone w (build name x) = IsAcceptableIndex w.contents name x × IsIndexOf w.contents (record { name = name; index = x })
MayBeDone w (size t rows pages) = IsTable w.contents t × (is_count rows ≡ true) × (is_count pages ≡ true)
MayBeDone w (describe t column s) = IsTable w.contents t × IsLawfulStatistics (type_at (table_at w.contents t).columns column) s
MayBeDone w (fill t s) = IsTable w.contents t × ((records : List (List (List ℕ))) × (loaded (stored_at w t) records ≡ Ok s))
MayBeDone w (gather t) = IsTable w.contents t
MayBeDone w (answer q) = Unit {0}
MayBeDone w (explain q) = Unit {0}
MayBeDone w (certify q) = Unit {0}
MayBeDone w (advise most candidates queries) = Unit {0}
MayBeDone w (verify q block) = Unit {0}
MayBeDone w (follow q block) = Unit {0}
MayBeDone w (answer_groups g) = Unit {0}
MayBeDone w (explain_groups g) = Unit {0}
