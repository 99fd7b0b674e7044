-- The text of a numeric is read back.
use Rattle.std.proofs.Common.{◌≡◌, ℕ, zero, suc, ◌+◌, ◌-◌, ◌*◌, ◌/◌, ◌%◌, ◌^◌, ◌<◌, Bool, true, false, cond, ◌&&◌, List, [], ◌∷◌, ◌++◌, length, take, drop, refl, sym, ap, ap₂, subst, ◌∙◌, arith, ℤ, pos, negsuc, take_all, drop_of_length-le, Ok}
use Rattle.std.specs.Prelude.{codes, nat_eq, nat_lt}
use Rattle.std.specs.Char.{is_ascii_digit, digit_value}
use Rattle.std.specs.Fmt.{decimal}
use Rattle.std.specs.List.{list_all, prefix_len}
use Rattle.std.specs.Str.Parse.{AllDigits, digits_value, starts_with_minus, without_leading_sign}
use Rattle.std.proofs.lemmas.Bool.{and_from, and_parts, lt-ltb, ltb-true}
use Rattle.std.proofs.lemmas.Bool.Decides.{nat_tests}
use Rattle.std.proofs.lemmas.Fmt.{decimal_is_IsNumeral}
use Rattle.std.proofs.lemmas.Nat.{div-add-mod'}
use Rattle.std.proofs.Math.Nat.{div-le_self}
use Rattle.std.proofs.Math.Seq.{drop-append_seam, take-append_seam}
use Rattle.civil.specs.Forms.{fraction, signed}
use Rattle.civil.specs.Numerics.{behind_whole, fraction_digits, is_decimal, is_fraction, is_in, is_nought, is_numeral, is_numeric_number, is_size, numeric_value, scaled, whole_part}
use Rattle.civil.specs.Shown.{figures, numeric_text_of, size_text}
use Rattle.civil.specs.Times.{formed, ranged}
use Rattle.civil.proofs.FigureLemmas.{figures-digits, figures-value}
use Rattle.civil.proofs.FormLemmas.{ten-fits}
use Rattle.civil.proofs.NumericLemmas.{most-digits}
use Rattle.civil.proofs.WrittenLemmas.{length-figures}

-- digits, and behind them nothing, or a point and digits
digit-of : (c : ℕ) → digit_value c < 10 → is_ascii_digit c ≡ true
digit-of c h = grind (arith, nat_tests)

all-digits-of : (ds : List ℕ) → AllDigits 10 ds → list_all is_ascii_digit ds ≡ true
all-digits-of [] h = refl
all-digits-of (c ∷ cs) h = and_from (is_ascii_digit c) (list_all is_ascii_digit cs) (digit-of c h.0) (all-digits-of cs h.1)

-- the text of a fraction: what stands behind the digits of the whole
abbrev point_text : ℕ → ℕ → List ℕ
point_text scale n = cond (nat_eq scale 0) [] (codes "." ++ figures scale n)

-- no digit, or nothing at all
abbrev stops : List ℕ → Bool
stops [] = true
stops (c ∷ cs) = cond (is_ascii_digit c) false true

digits-end : (xs rest : List ℕ) → list_all is_ascii_digit xs ≡ true → stops rest ≡ true → prefix_len is_ascii_digit (xs ++ rest) ≡ length xs
digits-end [] [] h s = refl
digits-end [] (c ∷ cs) h s = by (is_ascii_digit c) s
  where
    by : (b : Bool) → cond b false true ≡ true → cond b (1 + prefix_len is_ascii_digit cs) 0 ≡ 0
    by true e = absurd (cc (e))
    by false e = refl
digits-end (x ∷ xs) rest h s =
    let parts = and_parts (is_ascii_digit x) (list_all is_ascii_digit xs) h in
    ap (λ (b : Bool). cond b (1 + prefix_len is_ascii_digit (xs ++ rest)) 0) parts.0 ∙ omega (arith, digits-end xs rest parts.1 s)

-- what is known of the text of a fraction, with its point
record IsPoint (scale n : ℕ) (text : List ℕ) : Type 0 where
  stop : stops text ≡ true
  form : is_fraction text ≡ true
  past : drop scale (drop 1 text) ≡ []
  value : fraction scale (drop 1 text) ≡ n % 10 ^ scale

point-some : (k n : ℕ) → IsPoint (suc k) n (codes "." ++ figures (suc k) n)
point-some k n =
    let long = length-figures (suc k) n in
    let whole : take (suc k) (figures (suc k) n) ≡ figures (suc k) n = take_all (suc k) (figures (suc k) n) (omega (arith, long)) in
    let none : suc k - suc k ≡ 0 = omega arith in
    record {
      stop = refl;
      form = and_from (nat_lt 0 (length (figures (suc k) n))) (list_all is_ascii_digit (figures (suc k) n)) (lt-ltb 0 (length (figures (suc k) n)) (omega (arith, long))) (figures-digits (suc k) n);
      past = drop_of_length-le (figures (suc k) n) {i = suc k} (omega (arith, long));
      value = ap (λ (ds : List ℕ). digits_value 10 ds * 10 ^ (suc k - length ds)) whole ∙ (ap₂ (λ (v j : ℕ). v * 10 ^ (suc k - j)) (figures-value (suc k) n) long
          ∙ (ap (λ (j : ℕ). n % 10 ^ suc k * 10 ^ j) none ∙ omega arith));
    }

point-none : (n : ℕ) → IsPoint 0 n []
point-none n = record { stop = refl; form = refl; past = refl; value = omega arith }

point-is : (scale n : ℕ) → IsPoint scale n (point_text scale n)
point-is zero n = point-none n
point-is (suc k) n = subst (λ (b : Bool). IsPoint (suc k) n (cond b [] (codes "." ++ figures (suc k) n))) (sym (apart k)) (point-some k n)
  where
    apart : (j : ℕ) → nat_eq (suc j) 0 ≡ false
    apart j = grind (arith, nat_tests)

-- the number that digits and a fraction write
record IsRead (scale n : ℕ) (text : List ℕ) : Type 0 where
  form : is_decimal text ≡ true
  past : list_all is_nought (drop scale (fraction_digits text)) ≡ true
  value : scaled scale text ≡ n

number-reads : (scale n : ℕ) (ds rest : List ℕ) → 0 < length ds → list_all is_ascii_digit ds ≡ true → digits_value 10 ds ≡ n / 10 ^ scale → IsPoint scale n rest → IsRead scale n (ds ++ rest)
number-reads scale n ds rest some all value point =
    let place : prefix_len is_ascii_digit (ds ++ rest) ≡ length ds = digits-end ds rest all point.stop in
    let whole : whole_part (ds ++ rest) ≡ ds = ap (λ (j : ℕ). take j (ds ++ rest)) place ∙ take-append_seam ds rest in
    let behind : behind_whole (ds ++ rest) ≡ rest = ap (λ (j : ℕ). drop j (ds ++ rest)) place ∙ drop-append_seam ds rest in
    record {
      form = ap₂ (λ (w b : List ℕ). is_numeral w && is_fraction b) whole behind
          ∙ and_from (is_numeral ds) (is_fraction rest) (and_from (nat_lt 0 (length ds)) (list_all is_ascii_digit ds) (lt-ltb 0 (length ds) some) all) point.form;
      past = ap (λ (b : List ℕ). list_all is_nought (drop scale (drop 1 b))) behind ∙ ap (list_all is_nought) point.past;
      value = ap₂ (λ (w b : List ℕ). digits_value 10 w * 10 ^ scale + fraction scale (drop 1 b)) whole behind
          ∙ (ap₂ (λ (v f : ℕ). v * 10 ^ scale + f) value point.value ∙ div-add-mod' n (10 ^ scale));
    }

-- the text of a size is read as the size
size-reads : (scale n : ℕ) → n < 2 ^ 64 → IsRead scale n (size_text scale n)
size-reads scale n fits =
    let small : n / 10 ^ scale < 2 ^ 64 = omega (arith, div-le_self n (10 ^ scale), fits) in
    let numeral = decimal_is_IsNumeral (n / 10 ^ scale) small in
    number-reads scale n (decimal (n / 10 ^ scale)) (point_text scale n) numeral.0.0 (all-digits-of (decimal (n / 10 ^ scale)) numeral.0.1) numeral.1 (point-is scale n)

-- a text that begins with a digit has no sign
record HasNoSign (text : List ℕ) : Type 0 where
  plain : starts_with_minus text ≡ false
  whole : without_leading_sign text ≡ text

digit-first : (c : ℕ) (cs : List ℕ) → is_ascii_digit c ≡ true → HasNoSign (c ∷ cs)
digit-first c cs h =
    let minus : nat_eq c 45 ≡ false = grind (arith, nat_tests) in
    let plus : nat_eq c 43 ≡ false = grind (arith, nat_tests) in
    record {
      plain = minus;
      whole = ap₂ (λ (a b : Bool). cond a (drop 1 (c ∷ cs)) (drop (cond b 1 0) (c ∷ cs))) minus plus;
    }

size-plain : (scale n : ℕ) → n < 2 ^ 64 → HasNoSign (size_text scale n)
size-plain scale n fits =
    let small : n / 10 ^ scale < 2 ^ 64 = omega (arith, div-le_self n (10 ^ scale), fits) in
    let numeral = decimal_is_IsNumeral (n / 10 ^ scale) small in
    by (decimal (n / 10 ^ scale)) numeral.0.0 (all-digits-of (decimal (n / 10 ^ scale)) numeral.0.1)
  where
    by : (ds : List ℕ) → 0 < length ds → list_all is_ascii_digit ds ≡ true → HasNoSign (ds ++ point_text scale n)
    by [] some all = absurd (omega (arith, some))
    by (c ∷ cs) some all = digit-first c (cs ++ point_text scale n) (and_parts (is_ascii_digit c) (list_all is_ascii_digit cs) all).0

-- the text of a numeric of the type spells it
value-of : (digits scale : ℕ) (text size : List ℕ) (minus : Bool) (k : ℕ) (n : ℤ) → starts_with_minus text ≡ minus → without_leading_sign text ≡ size → IsRead scale k size →
    is_size digits scale ≡ true → nat_lt k (10 ^ digits) ≡ true → signed minus k ≡ n → numeric_value digits scale text ≡ Ok n
value-of digits scale text size minus k n sign rest read sized below is =
    let inside : is_in digits scale size ≡ true = and_from (is_size digits scale) _ sized (and_from (list_all is_nought (drop scale (fraction_digits size))) (nat_lt (scaled scale size) (10 ^ digits)) read.past (ap (λ (j : ℕ). nat_lt j (10 ^ digits)) read.value ∙ below)) in
    ap₂ (λ (m : Bool) (t : List ℕ). formed (is_decimal t) (ranged (is_in digits scale t) (signed m (scaled scale t)))) sign rest
    ∙ (ap₂ (λ (f r : Bool). formed f (ranged r (signed minus (scaled scale size)))) read.form inside ∙ ap Ok (ap (signed minus) read.value ∙ is))

below-64 : (digits scale k : ℕ) → is_size digits scale ≡ true → nat_lt k (10 ^ digits) ≡ true → k < 2 ^ 64
below-64 digits scale k sized below =
    let most = ten-fits digits (most-digits digits scale sized) in
    omega (arith, ltb-true k (10 ^ digits) below, most)

pub numeric-back : (digits scale : ℕ) (n : ℤ) → is_numeric_number digits scale n ≡ true → numeric_value digits scale (numeric_text_of scale n) ≡ Ok n
numeric-back digits scale (pos k) range =
    let parts = and_parts (is_size digits scale) (nat_lt k (10 ^ digits)) range in
    let fits = below-64 digits scale k parts.0 parts.1 in
    let plain = size-plain scale k fits in
    value-of digits scale (size_text scale k) (size_text scale k) false k (pos k) plain.plain plain.whole (size-reads scale k fits) parts.0 parts.1 refl
numeric-back digits scale (negsuc k) range =
    let parts = and_parts (is_size digits scale) (nat_lt (suc k) (10 ^ digits)) range in
    let fits = below-64 digits scale (suc k) parts.0 parts.1 in
    value-of digits scale (45 ∷ size_text scale (suc k)) (size_text scale (suc k)) true (suc k) (negsuc k) refl refl (size-reads scale (suc k) fits) parts.0 parts.1 refl
