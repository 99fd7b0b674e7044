-- Working words beside those of `AdviseCandidates`.
use Rattle.std.specs.Prelude.{ℕ, List, take, Contains, slice_index_or}
use Rattle.pg_base.specs.declared.numbers.ColNo.{ColNo}

-- the column at a place stands before it too
abbrev pub StandsBefore : List ColNo → ℕ → Type 0
StandsBefore columns place = Contains (take place columns) (slice_index_or columns place (record { 0 = 0 }))
