-- Working words beside those of `Actions`.
use Rattle.std.specs.Prelude.{◌≡◌}
use Rattle.catalog.specs.Contents.{Contents}
use Rattle.sql_query.specs.Worlds.{world}
use Rattle.store.specs.work.Kept.{Kept}
use Rattle.store.specs.Actions.{Action, after}

-- an action turns a catalogue and what is kept of it, the first two, into the others
abbrev pub IsWorldAfter : Action → Contents → Kept → Contents → Kept → Type 0
IsWorldAfter action c k d m = world d m.stored ≡ after (world c k.stored) action
