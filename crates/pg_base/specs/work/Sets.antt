-- Working words beside those of `Sets`.
use Rattle.std.specs.Prelude.{ℕ, IsTrue}
use Rattle.pg_base.specs.Sets.{has}

-- some relation is a member of both
abbrev pub Meets : ℕ → ℕ → Type 0
Meets a b = (k : ℕ) × IsTrue (has a k) × IsTrue (has b k)
