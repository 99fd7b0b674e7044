-- What is known of the columns of a query. The values without statistics are own.
use Rattle.std.specs.Prelude.{ℕ, [], min, Option, Some, None}
use Rattle.pg_expr.specs.declared.operand.ColRef.{ColRef}
use Rattle.catalog.specs.Contents.{Contents, stats_at}
use Rattle.catalog.specs.Range.{Range, table_of}
use Rattle.catalog.specs.Statistics.{Statistics}
use Rattle.catalog.specs.Tables.{rows_of}
use Rattle.path_cost.specs.declared.shares.TheConstants.{UNKNOWN_DISTINCT}

-- what is known of a column; without statistics it has at most 200 different values, and no NULLs
abbrev pub known_statistics : Contents → Range → ColRef → Option Statistics
known_statistics c range x = stats_at c (table_of range x) x.col

-- statistics, or what is taken in their place in a table of so many rows: 200 different values (DEFAULT_NUM_DISTINCT), or
-- one for each row where there are fewer, and no NULLs
abbrev pub stats_or : ℕ → Option Statistics → Statistics
stats_or rows None = record { distinct = min UNKNOWN_DISTINCT rows; nulls = 0; common = []; histogram = [] }
stats_or rows (Some s) = s

-- what is taken to be known of a column of the query, by the statistics and the rows of its table
abbrev pub stats_of : Contents → Range → ColRef → Statistics
stats_of c range x = stats_or (rows_of c (table_of range x)) (known_statistics c range x)
