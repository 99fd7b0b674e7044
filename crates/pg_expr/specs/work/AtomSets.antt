-- Words of 64 bits as a set of numbers. Own.
use Rattle.std.specs.Prelude.{ℕ, ◌/◌, ◌%◌, Bool, List, slice_index}
use Rattle.pg_base.specs.Sets.{has}

-- whether the number is in the set: its bit in its word
unfoldable pub contains : List ℕ → ℕ → Bool
contains words k = has (slice_index words (k / 64)) (k % 64)
