-- Working words beside those of `Wanted`.
use Rattle.std.specs.Prelude.{ℕ}
use Rattle.query_reader.specs.declared.wanted.Wanted.{Wanted}
use Rattle.query_reader.specs.declared.wanted.Wanted.TheVariants.{Rows, Plan, Table}

-- how many words ask so
abbrev pub words_by : Wanted → ℕ
words_by Rows = 0
words_by Plan = 1
words_by Table = 4
