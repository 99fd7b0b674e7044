-- The digits of a number, which are bytes of names too, and the number that they write.
use Prim.Native.Nat.{suc, zero}
use Rattle.std.proofs.Common.{◌≡◌, ◌<◌, ◌^◌, ◌-◌, ℕ, ◌+◌, ◌/◌, ◌%◌, ◌==◌, Bool, true, false, cond, ◌||◌, ◌&&◌, nat_lt, min, List, [], ◌∷◌, length, get_or, refl, sym, ◌∙◌, ap, subst, arith}
use Rattle.std.specs.Prelude.{if◌then◌else◌, Some, None, option_and_then}
use Rattle.std.specs.Int.{IsInRange}
use Rattle.std.specs.Char.{is_ascii_digit, is_ascii_lowercase}
use Rattle.std.specs.Fmt.{decimal, digit_glyph, digits, digits_onto}
use Rattle.std.specs.List.{list_all}
use Rattle.std.specs.Str.Parse.{digits_value}
use Rattle.std.proofs.lemmas.Bool.{and_from, and_parts, true≢false, lt-ltb}
use Rattle.std.proofs.lemmas.Bool.Decides.{nat_tests}
use Rattle.std.proofs.lemmas.Fmt.{decimal-digits_value, decimal_digit, decimal_is_IsNumeral, first_decimal}
use Rattle.std.proofs.lemmas.Str.Parse.{IsDigitsTest, numerals_by_value}
use Rattle.std.proofs.lemmas.Option.{same_Some, none-some}
use Rattle.pg_base.proofs.NameLemmas.{decimal-digits}
use Rattle.pg_value.specs.Fields.{is_numeral}
use Rattle.certificate_text.specs.work.Words.{below_end, has_leading_zero, number_written}

-- a byte is a digit
digit-range : (c : ℕ) → is_ascii_digit c ≡ true → IsInRange 48 57 c
digit-range c h = (grind (arith, nat_tests, h), grind (arith, nat_tests, h))

range-digit : (c : ℕ) → IsInRange 48 57 c → is_ascii_digit c ≡ true
range-digit c h = let low = h.0 in let high = h.1 in grind (arith, nat_tests, low, high)

abbrev AreDigits : List ℕ → Type 0
AreDigits ds = list_all is_ascii_digit ds ≡ true

digits-test : IsDigitsTest AreDigits
digits-test = record {
  empty = refl;
  parts = λ c cs h. let p = and_parts (is_ascii_digit c) (list_all is_ascii_digit cs) h in (digit-range c p.0, p.1);
  more = λ c cs d h. and_from (is_ascii_digit c) (list_all is_ascii_digit cs) (range-digit c d) h;
}

some-length : (n : ℕ) → nat_lt 0 n ≡ true → 0 < n
some-length n h = grind (arith, nat_tests, h)

least : (n : ℕ) → n < 10 ^ 19 → min n (2 ^ 64 - 1) ≡ n
least n lt = grind (arith, nat_tests, lt)

-- what is below 10^19 is itself
below-is : (n m : ℕ) → below_end (min m (2 ^ 64 - 1)) ≡ Some n → (n < 10 ^ 19) × (m ≡ n)
below-is n m h = by (nat_lt (min m (2 ^ 64 - 1)) (10 ^ 19)) refl h
  where
    by : (b : Bool) → nat_lt (min m (2 ^ 64 - 1)) (10 ^ 19) ≡ b → cond b (Some (min m (2 ^ 64 - 1))) None ≡ Some n → (n < 10 ^ 19) × (m ≡ n)
    by true e k =
        let same : min m (2 ^ 64 - 1) ≡ n = same_Some (min m (2 ^ 64 - 1)) n k in
        let low : min m (2 ^ 64 - 1) < 10 ^ 19 = grind (arith, nat_tests, e) in
        let whole : m ≡ min m (2 ^ 64 - 1) = omega (arith, low) in
        (subst (λ (x : ℕ). x < 10 ^ 19) same low, whole ∙ same)
    by false e k = absurd (none-some n k)

-- a text that is written as numbers are is the digits of its number
pub written-is : (ds : List ℕ) (n : ℕ) → number_written ds ≡ Some n → (n < 10 ^ 19) × (ds ≡ decimal n)
written-is ds n h = by (has_leading_zero ds) (is_numeral ds) refl refl h
  where
    canonical : (n : ℕ) → has_leading_zero ds ≡ false → 0 < n → n ≡ length ds → get_or ds 0 0 ≡ 48 → length ds ≡ 1
    canonical n z some e first = grind (arith, nat_tests, z, some, e, first)

    by : (z b : Bool) → has_leading_zero ds ≡ z → is_numeral ds ≡ b → cond z None (option_and_then below_end (cond b (Some (min (digits_value 10 ds) (2 ^ 64 - 1))) None)) ≡ Some n → (n < 10 ^ 19) × (ds ≡ decimal n)
    by true b z e k = absurd (none-some n k)
    by false false z e k = absurd (none-some n k)
    by false true z e k =
        let p = and_parts (nat_lt 0 (length ds)) (list_all is_ascii_digit ds) e in
        let some = some-length (length ds) p.0 in
        let r = below-is n (digits_value 10 ds) k in
        let low = r.0 in
        let same = r.1 in
        let back = decimal-digits_value (numerals_by_value AreDigits digits-test) ds p.1 some (canonical (length ds) z some refl) (omega (arith, low, same)) in
        (r.0, sym back ∙ ap decimal r.1)

no-zero-first : (n : ℕ) → n < 10 ^ 19 → has_leading_zero (decimal n) ≡ false
no-zero-first zero lt = ap has_leading_zero (decimal_digit 0 (omega arith))
no-zero-first (suc n) lt = let first = first_decimal (suc n) (omega arith) (omega (arith, lt)) in by (length (decimal (suc n))) (get_or (decimal (suc n)) 0 0) first
  where
    by : (l d : ℕ) → 48 < d → (nat_lt 1 l && (d == 48)) ≡ false
    by l d h = grind (arith, nat_tests, h)

-- the number that its digits write
pub read-back : (n : ℕ) → n < 10 ^ 19 → number_written (decimal n) ≡ Some n
read-back n lt =
    let is = decimal_is_IsNumeral n (omega (arith, lt)) in
    let numeral = and_from (nat_lt 0 (length (decimal n))) (list_all is_ascii_digit (decimal n)) (lt-ltb 0 (length (decimal n)) is.0.0) (decimal-digits n) in
    let low : nat_lt n (10 ^ 19) ≡ true = grind (arith, nat_tests, lt) in
    ap (λ (b : Bool). cond b None (option_and_then below_end (cond (is_numeral (decimal n)) (Some (min (digits_value 10 (decimal n)) (2 ^ 64 - 1))) None))) (no-zero-first n lt)
    ∙ ap (λ (b : Bool). option_and_then below_end (cond b (Some (min (digits_value 10 (decimal n)) (2 ^ 64 - 1))) None)) numeral
    ∙ ap (λ (m : ℕ). below_end (min m (2 ^ 64 - 1))) is.1
    ∙ ap below_end (least n lt)
    ∙ ap (λ (b : Bool). cond b (Some n) None) low
