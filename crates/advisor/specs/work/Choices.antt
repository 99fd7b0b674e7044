-- Working words beside those of `Choices`.
use Rattle.std.specs.Prelude.{◌≡◌, ◌<◌, ℕ, IsTrue, Option, None}
use Rattle.pg_base.specs.Sets.{has}
use Rattle.advisor.specs.Choices.{Prices}

-- each candidate of a set is one of another
abbrev pub IsPart : ℕ → ℕ → Type 0
IsPart a b = (k : ℕ) → IsTrue (has a k) → IsTrue (has b k)

-- one of the first queries has no plan with a set
abbrev pub HasNoSum : Prices → ℕ → ℕ → Type 0
HasNoSum priced queries set = (q : ℕ) × (q < queries) × priced q set None

-- no query has two costs with one set
abbrev pub AreUnique : Prices → Type 0
AreUnique priced = (q set : ℕ) (a b : Option ℕ) → priced q set a → priced q set b → a ≡ b
