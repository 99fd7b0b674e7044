-- What is known of a column, as its statistics.
use Rattle.pg_value.specs.declared.value.Value.{Value}
use Rattle.pg_value.specs.Truths.{IsSameKind}
use Rattle.pg_expr.specs.Typed.{some_value}
use Rattle.catalog.specs.Statistics.{Statistics, IsLawfulStatistics}
use Rattle.path_cost.specs.declared.known.Known.{Known}

-- the statistics that stand for what is lent
abbrev pub statistics_of : Known → Statistics
statistics_of k = record { distinct = k.distinct; nulls = k.nulls; common = k.common.now; histogram = k.histogram.now }

-- lawful statistics of the column's type
abbrev pub IsLawfulKnown : Known → Type 0
IsLawfulKnown k = IsLawfulStatistics k.typed (statistics_of k)

-- a value of the column's kind, or NULL
abbrev pub SuitsColumn : Known → Value → Type 0
SuitsColumn k v = IsSameKind (some_value k.typed) v
