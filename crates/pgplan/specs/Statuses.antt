-- The statuses of a run, their numbers and their lines on the errors sink. Own.
use Rattle.std.specs.Prelude.{ℕ, ◌≡◌, ◌⊎◌, List, [], ◌∷◌, codes, slice_index_or}
use Rattle.std.specs.declared.option.Option.{Option}
use Rattle.std.specs.Io.KnownBytes.{Appends}
use Rattle.pg_base.specs.Causes.{Rose}
use Rattle.pg_base.specs.Writing.{AppendsPrefix}

-- the number of a status of a run whose text was read
abbrev pub IsWorkStatus : ℕ → Type 0
IsWorkStatus status = (status ≡ 0) ⊎ ((status ≡ 3) ⊎ ((status ≡ 4) ⊎ (status ≡ 5)))

-- the line that each status writes, by its number: none for 0, and for 3 that of the fault
abbrev pub line_of : ℕ → List ℕ
line_of status = slice_index_or ([] ∷ codes "usage: pgplan run | pgplan sample N\n" ∷ codes "ERROR read failed\n" ∷ [] ∷ codes "ERROR write failed\n" ∷ codes "ERROR 53200 out of memory\n" ∷ codes "ERROR 54000 script longer than 16777216 bytes\n" ∷ []) status []

-- a sink gained some first bytes of a line, and all of it where its count of faults did not rise
pub record IsTold (old new : Option (List ℕ)) (before now : ℕ) (line : List ℕ) : Type 0 where
  pub some : AppendsPrefix old new line
  pub whole : (Rose before now → ⊥) → Appends old new line
