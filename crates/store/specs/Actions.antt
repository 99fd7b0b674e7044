-- What a statement does to what is stored. Own.
use Rattle.std.specs.Prelude.{ℕ, List, [], ◌∷◌, ◌++◌, length, slice_set}
use Rattle.pg_base.specs.declared.numbers.ColNo.{ColNo}
use Rattle.pg_base.specs.declared.numbers.TableNo.{TableNo}
use Rattle.pg_value.specs.declared.columns.Column.{Column}
use Rattle.analyze.specs.Analysis.{table_statistics}
use Rattle.catalog.specs.Analysed.{with_analysis}
use Rattle.catalog.specs.Contents.{NamedIndex, new_table, with_index, with_table, with_loaded, with_sizes, with_stats}
use Rattle.catalog.specs.Indexes.{Index}
use Rattle.catalog.specs.Statistics.{Statistics}
use Rattle.heap.specs.Stored.{Stored}
use Rattle.sql_query.specs.Grouped.{GroupedQuery}
use Rattle.sql_query.specs.Queries.{Query}
use Rattle.sql_query.specs.Worlds.{World, stored_at, world}

-- what a statement comes to once it is read and bound: a change of the catalogue or of a table's rows, or an answer
pub data Action : Type 0 where
  -- an empty statement
  idle : Action
  -- CREATE TABLE: a table of this name, with these names for its columns, and the columns
  make : List ℕ → List (List ℕ) → List Column → Action
  -- CREATE INDEX: an index of this name
  build : List ℕ → Index → Action
  -- STATISTICS of a table: its rows and its pages
  size : TableNo → ℕ → ℕ → Action
  -- STATISTICS of a column of a table: what is known of it
  describe : TableNo → ColNo → Statistics → Action
  -- COPY: this is stored of the table from then on
  fill : TableNo → Stored → Action
  -- ANALYZE: the statistics of a table are those of its rows
  gather : TableNo → Action
  -- SELECT
  answer : Query → Action
  -- EXPLAIN of a SELECT
  explain : Query → Action
  -- EXPLAIN (TABLE) of a SELECT
  certify : Query → Action
  -- ADVISE: at most so many of these indexes, for these queries
  advise : ℕ → List NamedIndex → List Query → Action
  -- CHECK of a SELECT: whether these bytes are a certificate of it
  verify : Query → List ℕ → Action
  -- USE PLAN of a SELECT: by the plan that these bytes write out
  follow : Query → List ℕ → Action
  -- a SELECT that groups
  answer_groups : GroupedQuery → Action
  -- EXPLAIN of a SELECT that groups
  explain_groups : GroupedQuery → Action

-- the world after an accepted statement: one more table, one more index or other statistics beside the same rows, given or
-- found, other rows of a table, or the same
abbrev pub after : World → Action → World
after w idle = w
after w (make name names columns) = record {
  contents = with_table w.contents (new_table name names columns);
  stored = w.stored ++ record { columns = columns; rows = [] } ∷ [];
}
after w (build name x) = world (with_index w.contents name x) w.stored
after w (size t rows pages) = world (with_sizes w.contents t rows pages) w.stored
after w (describe t column s) = world (with_stats w.contents t column s) w.stored
after w (fill t s) = record { contents = with_loaded w.contents t (length s.rows); stored = slice_set w.stored t.0 s }
after w (gather t) = world (with_analysis w.contents t (table_statistics (stored_at w t))) w.stored
after w (answer q) = w
after w (explain q) = w
after w (certify q) = w
after w (advise most candidates queries) = w
after w (verify q block) = w
after w (follow q block) = w
after w (answer_groups g) = w
after w (explain_groups g) = w
