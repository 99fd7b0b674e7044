-- What may be done by a definition that is read. Own.
use Rattle.std.specs.Prelude.{◌≡◌, ℕ, List, true, Ok}
use Rattle.catalog.specs.Statistics.{AreAllowed, is_count}
use Rattle.catalog.specs.Tables.{IsAcceptable}
use Rattle.ddl_reader.specs.Tables.{Definition, table, sizes_for, statistics_for, data_for, analysis_of}
use Rattle.heap.specs.Loading.{loaded}
use Rattle.heap.specs.Stored.{Stored}
use Rattle.sql_query.specs.Worlds.{World, stored_at}
use Rattle.store.specs.Actions.{Action, make, size, describe, fill, gather}

-- a definition that the world takes comes to this action: the catalogue accepts the table, the sizes or the statistics, and the
-- records are loaded
abbrev pub Comes : World → Definition → Action → Type 0
Comes w (table name names columns) action = IsAcceptable w.contents name names × (action ≡ make name names columns)
Comes w (sizes_for t rows pages) action = (is_count rows ≡ true) × (is_count pages ≡ true) × (action ≡ size t rows pages)
Comes w (statistics_for t column s) action = AreAllowed s × (action ≡ describe t column s)
Comes w (data_for t start) action = (s : Stored) × (records : List (List (List ℕ))) × (loaded (stored_at w t) records ≡ Ok s) × (action ≡ fill t s)
Comes w (analysis_of t) action = action ≡ gather t
