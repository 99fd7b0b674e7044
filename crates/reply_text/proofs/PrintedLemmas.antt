-- Values of a type can be printed as such.
use Rattle.std.proofs.Common.{◌≡◌, ℕ, ◌≤◌, ◌^◌, true, ◌&&◌, List, [], ◌∷◌, map, arith, ℤ, unsigned_abs}
use Rattle.std.specs.Prelude.{nat_le, nat_lt}
use Rattle.std.proofs.lemmas.Bool.{and_parts, leb-true}
use Rattle.civil.specs.Numerics.{is_numeric_number, is_size}
use Rattle.civil.proofs.NumericLemmas.{most-digits}
use Rattle.pg_value.specs.Types.{IsOfType}
use Rattle.pg_value.specs.declared.value.SqlType.{SqlType}
use Rattle.pg_value.specs.declared.value.SqlType.TheVariants.{Date as DateType, Timestamp as TimestampType, TimestampTz as TimestampTzType, Numeric as NumericType}
use Rattle.pg_value.specs.declared.value.Value.{Value}
use Rattle.pg_value.specs.declared.value.Value.TheVariants.{Null, Int, Bool as Flag, Text as String}
use Rattle.reply_text.specs.work.Printed.{ArePrintable, IsPrintable}

-- a numeric type has at most 18 digits behind the point
scale-small : (digits scale : ℕ) (n : ℤ) → is_numeric_number digits scale n ≡ true → scale ≤ 18
scale-small digits scale n range =
    let sized = (and_parts (is_size digits scale) (nat_lt (unsigned_abs n) (10 ^ digits)) range).0 in
    let few : scale ≤ digits = leb-true scale digits (and_parts (nat_le 1 digits && nat_le digits 18) (nat_le scale digits) sized).1 in
    omega (arith, few, most-digits digits scale sized)

pub typed-printable : (t : SqlType) (v : Value) → IsOfType t v → IsPrintable t v
typed-printable t Null is = tt
typed-printable t (Flag b) is = tt
typed-printable t (String bs) is = tt
typed-printable DateType (Int n) is = is
typed-printable TimestampType (Int n) is = is
typed-printable TimestampTzType (Int n) is = is
typed-printable (NumericType digits scale) (Int n) is = scale-small digits scale n is
typed-printable t (Int n) is = tt

-- the values of columns, each of its column's type
pub fits-printable : {X : Type 0} (type_of : X → SqlType) (value_at : X → Value) → ((x : X) → IsOfType (type_of x) (value_at x)) → (xs : List X) → ArePrintable (map type_of xs) (map value_at xs)
fits-printable type_of value_at fits [] = tt
fits-printable type_of value_at fits (x ∷ xs) = (typed-printable (type_of x) (value_at x) (fits x), fits-printable type_of value_at fits xs)
