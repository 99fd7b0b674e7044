-- Where the columns of a list stand. Own.
use Rattle.std.specs.Prelude.{◌≡◌, ◌<◌, ◌+◌, ◌*◌, ◌&&◌, ℕ, Bool, nat_eq, cond, List, get_or, position, Option, Some, None}
use Rattle.pg_expr.specs.declared.operand.ColRef.{ColRef}
use Rattle.pg_base.specs.declared.limits.TheConstants.{MOST_COLUMNS, MOST_RELATIONS}

-- whether two columns are one
abbrev pub is_it : ColRef → ColRef → Bool
is_it x y = nat_eq x.rel.0 y.rel.0 && nat_eq x.col.0 y.col.0

-- the place at which a column stands first
abbrev pub first_place : List ColRef → ColRef → Option ℕ
first_place xs x = position (is_it x) xs

-- a column of one of as many relations, and of as many columns of each, as a query may have
abbrev pub IsNumbered : ColRef → Type 0
IsNumbered x = (x.rel.0 < MOST_RELATIONS) × (x.col.0 < MOST_COLUMNS)

-- its number among these
abbrev pub number_of : ColRef → ℕ
number_of x = x.rel.0 * MOST_COLUMNS + x.col.0

-- the first places of a list's columns, by number
abbrev pub AreFirst : List ColRef → List (Option ℕ) → Type 0
AreFirst xs first = (x : ColRef) → IsNumbered x → get_or first (number_of x) None ≡ first_place xs x

-- the earlier of two places, where the first stands before the second
abbrev pub earlier : Option ℕ → Option ℕ → Option ℕ
earlier (Some n) later = Some n
earlier None later = later

-- places by number take in one more
abbrev pub HasPut : List (Option ℕ) → List (Option ℕ) → ℕ → ℕ → Type 0
HasPut old new k n = (j : ℕ) → get_or new j None ≡ earlier (get_or old j None) (cond (nat_eq j k) (Some n) None)

-- places take in one more column, which stands behind all others
abbrev pub HasNoted : List (Option ℕ) → List (Option ℕ) → ColRef → ℕ → Type 0
HasNoted old new x n = (y : ColRef) → IsNumbered y → get_or new (number_of y) None ≡ earlier (get_or old (number_of y) None) (cond (is_it y x) (Some n) None)
