-- Working words beside those of `Rows`.
use Rattle.std.specs.Prelude.{ℕ, ◌^◌}

-- the rows of a product of so many tables are at most so many: a table has fewer than 2^32
abbrev pub most_of : ℕ → ℕ
most_of tables = (2 ^ 32) ^ tables
