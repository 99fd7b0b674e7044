-- The numbers that digits write.
use Rattle.std.proofs.Common.{◌≡◌, ℕ, zero, suc, ◌<◌, ◌≤◌, ◌-◌, ◌+◌, ◌*◌, ◌^◌, Bool, true, false, cond, List, min, refl, arith, sym, ap, ◌∙◌, Some, None, Result, Ok, Err}
use Rattle.std.specs.Prelude.{ℤ, pos, neg_ℤ}
use Rattle.std.proofs.lemmas.Bool.Decides.{nat_tests}
use Rattle.std.specs.Char.{is_ascii_digit, digit_value}
use Rattle.std.specs.Str.Parse.{digits_value, starts_with_minus, without_leading_sign, signed_digits_value}
use Rattle.pg_value.specs.declared.fields.FieldFault.{FieldFault}
use Rattle.pg_value.specs.declared.fields.FieldFault.TheVariants.{Range, Invalid}
use Rattle.pg_value.specs.declared.value.Value.{Value}
use Rattle.pg_value.specs.declared.value.SqlType.{SqlType}
use Rattle.pg_value.specs.declared.value.SqlType.TheVariants.{Int2, Int4, Int8, Text as TextType, Bool as BoolType, Uuid as UuidType, Date as DateType, Timestamp as TimestampType, TimestampTz as TimestampTzType, Numeric as NumericType}
use Rattle.pg_value.specs.declared.value.Value.TheVariants.{Int}
use Rattle.pg_value.specs.Types.{limit, in_range, is_within, takes_whole}
use Rattle.pg_value.specs.Fields.{is_numeral, number_of, ranged, signed}

pub digit_is : (c : ℕ) → is_ascii_digit c ≡ true → digit_value c ≡ c - 48
digit_is c h = grind (arith, nat_tests)

pub sum_more : (v d number : ℕ) → number ≡ min v (2 ^ 64 - 1) → min (min (number * 10) (2 ^ 64 - 1) + d) (2 ^ 64 - 1) ≡ min (v * 10 + d) (2 ^ 64 - 1)
sum_more v d number h = omega arith

numeral_from : (b : Bool) (m x : ℕ) → Some m ≡ cond b (Some x) None → (b ≡ true) × (m ≡ x)
numeral_from true m x h = (refl, cc)
numeral_from false m x h = cc

-- the values of an integer type
integer-range : (t : SqlType) (n : ℤ) → 0 < limit t → in_range t n ≡ is_within (limit t) n
integer-range Int2 n some = refl
integer-range Int4 n some = refl
integer-range Int8 n some = refl
integer-range TextType n some = refl
integer-range BoolType n some = refl
integer-range UuidType n some = refl
integer-range DateType n some = absurd (omega (arith, some))
integer-range TimestampType n some = absurd (omega (arith, some))
integer-range TimestampTzType n some = absurd (omega (arith, some))
integer-range (NumericType digits scale) n some = absurd (omega (arith, some))

-- a type that takes whole numbers and is no numeric one is an integer type
pub integer-limit : (t : SqlType) → takes_whole t ≡ true → ((digits scale : ℕ) → t ≡ NumericType digits scale → ⊥) → 0 < limit t
integer-limit Int2 takes other = omega arith
integer-limit Int4 takes other = omega arith
integer-limit Int8 takes other = omega arith
integer-limit TextType takes other = absurd (cc (takes))
integer-limit BoolType takes other = absurd (cc (takes))
integer-limit UuidType takes other = absurd (cc (takes))
integer-limit DateType takes other = absurd (cc (takes))
integer-limit TimestampType takes other = absurd (cc (takes))
integer-limit TimestampTzType takes other = absurd (cc (takes))
integer-limit (NumericType digits scale) takes other = absurd (other digits scale refl)

below_zero : (most m : ℕ) → 0 < most → m ≤ most → is_within most (neg_ℤ (pos m)) ≡ true
below_zero most zero some h = grind (arith, nat_tests)
below_zero most (suc m) some h = grind (arith, nat_tests)

pub limit_fits : (t : SqlType) → limit t ≤ 2 ^ 63
limit_fits Int2 = omega arith
limit_fits Int4 = omega arith
limit_fits Int8 = omega arith
limit_fits TextType = omega arith
limit_fits BoolType = omega arith
limit_fits UuidType = omega arith
limit_fits DateType = omega arith
limit_fits TimestampType = omega arith
limit_fits TimestampTzType = omega arith
limit_fits (NumericType digits scale) = omega arith

kept : (t : SqlType) (z n : ℤ) → in_range t n ≡ true → z ≡ n → Ok (Int z) ≡ ranged t (Some n)
kept t z n fits is = sym (ap (λ (b : Bool). cond b (Ok (Int n)) (Err Range)) fits ∙ ap (λ (m : ℤ). Ok (Int m)) (sym is))

left-out : (t : SqlType) (n : ℤ) → in_range t n ≡ false → Err Range ≡ ranged t (Some n)
left-out t n over = sym (ap (λ (b : Bool). cond b (Ok (Int n)) (Err Range)) over)

past-zero : (most m : ℕ) → most < m → is_within most (neg_ℤ (pos m)) ≡ false
past-zero most zero over = absurd (omega (arith, over))
past-zero most (suc m) over = grind (arith, nat_tests)

pub negative-kept : (t : SqlType) (negative : Bool) (n m : ℕ) (z : ℤ) → negative ≡ true → 0 < limit t → m ≡ min n (2 ^ 64 - 1) → m ≤ limit t → z ≡ neg_ℤ (pos m) → Ok (Int z) ≡ ranged t (Some (signed negative n))
negative-kept t true n m z sign some is le value =
    let same : n ≡ m = omega (arith, limit_fits t) in
    kept t z (neg_ℤ (pos n)) (integer-range t (neg_ℤ (pos n)) some ∙ ap (λ (k : ℕ). is_within (limit t) (neg_ℤ (pos k))) same ∙ below_zero (limit t) m some le) (value ∙ ap (λ (k : ℕ). neg_ℤ (pos k)) (sym same))
negative-kept t false n m z sign some is le value = absurd (cc (sign))

pub positive-kept : (t : SqlType) (negative : Bool) (n m : ℕ) (z : ℤ) → negative ≡ false → m ≡ min n (2 ^ 64 - 1) → m < limit t → z ≡ pos m → Ok (Int z) ≡ ranged t (Some (signed negative n))
positive-kept t true n m z sign is lt value = absurd (cc (sign))
positive-kept t false n m z sign is lt value =
    let same : n ≡ m = omega (arith, limit_fits t) in
    let some : 0 < limit t = omega (arith, lt) in
    let fits : is_within (limit t) (pos n) ≡ true = grind (arith, nat_tests) in
    kept t z (pos n) (integer-range t (pos n) some ∙ fits) (value ∙ ap (λ (k : ℕ). pos k) (sym same))

pub negative-over : (t : SqlType) (negative : Bool) (n m : ℕ) → negative ≡ true → 0 < limit t → m ≡ min n (2 ^ 64 - 1) → limit t < m → Err Range ≡ ranged t (Some (signed negative n))
negative-over t true n m sign some is over = left-out t (neg_ℤ (pos n)) (integer-range t (neg_ℤ (pos n)) some ∙ past-zero (limit t) n (omega (arith, is, over)))
negative-over t false n m sign some is over = absurd (cc (sign))

pub positive-over : (t : SqlType) (negative : Bool) (n m : ℕ) → negative ≡ false → 0 < limit t → m ≡ min n (2 ^ 64 - 1) → limit t ≤ m → Err Range ≡ ranged t (Some (signed negative n))
positive-over t true n m sign some is over = absurd (cc (sign))
positive-over t false n m sign some is over =
    let most : limit t ≤ n = omega (arith, is, over) in
    let past : is_within (limit t) (pos n) ≡ false = grind (arith, nat_tests) in
    left-out t (pos n) (integer-range t (pos n) some ∙ past)

-- the number that a word with its sign spells
pub numeral-value : (t : SqlType) (word : List ℕ) (negative : Bool) (m : ℕ) (r : Result Value FieldFault) → negative ≡ starts_with_minus word →
    Some m ≡ cond (is_numeral (without_leading_sign word)) (Some (min (digits_value 10 (without_leading_sign word)) (2 ^ 64 - 1))) None →
    ((n : ℕ) → m ≡ min n (2 ^ 64 - 1) → r ≡ ranged t (Some (signed negative n))) → r ≡ ranged t (number_of word)
unfolding number_of
numeral-value t word negative m r sign was so =
    let parts = numeral_from (is_numeral (without_leading_sign word)) m (min (digits_value 10 (without_leading_sign word)) (2 ^ 64 - 1)) was in
    so (digits_value 10 (without_leading_sign word)) parts.1
    ∙ (ap (λ (b : Bool). ranged t (Some (signed b (digits_value 10 (without_leading_sign word))))) sign
    ∙ sym (ap (λ (b : Bool). ranged t (cond b (Some (signed_digits_value 10 word)) None)) parts.0))

numeral-none : (b : Bool) (m : ℕ) → None ≡ cond b (Some m) None → b ≡ false
numeral-none true m is = absurd (cc (is))
numeral-none false m is = refl

pub no-numeral : (t : SqlType) (word : List ℕ) → None ≡ cond (is_numeral (without_leading_sign word)) (Some (min (digits_value 10 (without_leading_sign word)) (2 ^ 64 - 1))) None →
    Err Invalid ≡ ranged t (number_of word)
unfolding number_of
no-numeral t word was =
    sym (ap (λ (b : Bool). ranged t (cond b (Some (signed_digits_value 10 word)) None)) (numeral-none (is_numeral (without_leading_sign word)) _ was))
