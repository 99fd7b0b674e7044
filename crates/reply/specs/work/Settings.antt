-- A query over a store of its catalogue, whose reply is written. Own.
use Rattle.std.specs.Prelude.{ℕ, List, length}
use Rattle.pg_value.specs.declared.value.SqlType.{SqlType}
use Rattle.reply_text.specs.Texts.{row_line}
use Rattle.sql_query.specs.Meaning.{shown, up_to, windowed}
use Rattle.sql_query.specs.Tuples.{Tuple}
use Rattle.sql_query.specs.WellBound.{IsWellBound}
use Rattle.sql_query.specs.Worlds.{World, world}
use Rattle.executor.specs.work.Reading.{Reading}
use Rattle.executor.specs.store_work_Kept.{IsStoreOf}
use Rattle.reply.specs.Answers.{result_text, shown_types, tuples_text}
use Rattle.reply.specs.Effort.{Rise, fetched_by, last_in, limit_in, looked_by}
use Rattle.reply.specs.declared.setting.Setting.{Setting}

-- what it stands for
abbrev pub world_of : {C F L : Type 0} → Setting C F L → World
world_of at = world at.cat.now at.store.now.stored

pub record IsSetting {C F L : Type 0} (at : Setting C F L) : Type 0 where
  pub bound : IsWellBound at.cat.now at.q.now
  pub store : IsStoreOf at.cat.now at.store.now

module _ {C F L : Type 0} (at : Setting C F L) where
  -- the tuples that OFFSET and LIMIT let through
  abbrev pub let_through : List Tuple → List Tuple
  let_through ts = windowed at.q.now.window ts

  -- the tuples that LIMIT lets through, with none passed over
  abbrev pub up_to_limit : List Tuple → List Tuple
  up_to_limit ts = up_to (limit_in at.q.now.window) ts

  -- the types of the columns that are shown
  abbrev pub types_shown : List SqlType
  types_shown = shown_types at.cat.now at.q.now

  -- the line of a tuple, of the values that it shows
  abbrev pub line_shown : Tuple → List ℕ
  line_shown t = row_line types_shown (shown (world_of at) at.q.now t)

  -- the lines of tuples
  abbrev pub lines_shown : List Tuple → List ℕ
  lines_shown ts = tuples_text (world_of at) at.q.now ts

  -- the lines of the tuples that OFFSET and LIMIT let through, and that of their number
  abbrev pub result_shown : List Tuple → List ℕ
  result_shown ts = result_text (world_of at) at.q.now (windowed at.q.now.window ts)

  -- what is fetched from a state of the reading on for the tuples that are let through
  abbrev pub window_fetches : Reading → Rise
  window_fetches r = fetched_by (last_in at.q.now.window) (length r.left) r.owed r.opening r.one r.coming

  -- the most looks from there on for these tuples
  abbrev pub window_looks : Reading → ℕ
  window_looks r = looked_by (last_in at.q.now.window) r.allowed (length (windowed at.q.now.window r.left))
