-- What is known of a column, as its statistics.
use Rattle.catalog.specs.declared.statistics.ColumnStats.{ColumnStats}
use Rattle.catalog.specs.Statistics.{Statistics}

-- the statistics that a `ColumnStats` stands for
abbrev pub statistics : ColumnStats → Statistics
statistics s = record { distinct = s.distinct; nulls = s.nulls; common = s.common.items; histogram = s.histogram.items }
