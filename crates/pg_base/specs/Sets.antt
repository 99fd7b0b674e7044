-- A number as a set of relations: the places of its bits. Own, in the manner of PostgreSQL's Relids.
use Rattle.std.specs.Prelude.{ℕ, Bool, nat_eq}
use Rattle.std.specs.Int.{bit_at}

unfoldable pub has : ℕ → ℕ → Bool
has set k = nat_eq (bit_at set k) 1
