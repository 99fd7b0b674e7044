-- The number that figures write is the one they are of.
use Rattle.std.proofs.Common.{◌≡◌, ℕ, zero, suc, ◌+◌, ◌*◌, ◌/◌, ◌%◌, ◌^◌, ◌<◌, true, ◌&&◌, List, [], ◌∷◌, ◌++◌, refl, sym, ap, ◌∙◌, arith}
use Rattle.std.specs.Char.{is_ascii_digit, digit_value}
use Rattle.std.specs.List.{list_all}
use Rattle.std.specs.Str.Parse.{digits_value, digits_value_after}
use Rattle.std.proofs.lemmas.Bool.{and_from}
use Rattle.std.proofs.lemmas.Bool.Decides.{nat_tests}
use Rattle.std.proofs.lemmas.List.Folds.{list_all-append}
use Rattle.std.proofs.lemmas.Nat.{div-add-mod', mod-mul-add}
use Rattle.std.proofs.Math.Nat.{mod-eq_of_lt, mod-lt, pow-suc}
use Rattle.civil.specs.Shown.{figures}
use Rattle.civil.proofs.FormLemmas.{digit-is, ten-above}

-- a figure is a digit
pub figure-digit : (n : ℕ) → is_ascii_digit (48 + n % 10) ≡ true
figure-digit n = grind (arith, nat_tests)

figure-value : (n : ℕ) → digit_value (48 + n % 10) ≡ n % 10
figure-value n = omega (arith, digit-is (48 + n % 10) (figure-digit n))

pub figures-digits : (count n : ℕ) → list_all is_ascii_digit (figures count n) ≡ true
unfolding figures
figures-digits zero n = refl
figures-digits (suc k) n =
    list_all-append is_ascii_digit (figures k (n / 10)) ((48 + n % 10) ∷ [])
    ∙ and_from (list_all is_ascii_digit (figures k (n / 10))) (is_ascii_digit (48 + n % 10) && true) (figures-digits k (n / 10)) (and_from (is_ascii_digit (48 + n % 10)) true (figure-digit n) refl)

value-more : (n : ℕ) (xs : List ℕ) (c : ℕ) → digits_value_after 10 n (xs ++ c ∷ []) ≡ digits_value_after 10 n xs * 10 + digit_value c
value-more n [] c = refl
value-more n (x ∷ xs) c = value-more (n * 10 + digit_value x) xs c

-- the last digits of a number, and those of its tenth
mod-ten : (n m : ℕ) → 0 < m → (n / 10 % m) * 10 + n % 10 ≡ n % (m * 10)
mod-ten n m some =
    let split : n / 10 / m * m + n / 10 % m ≡ n / 10 = div-add-mod' (n / 10) m in
    let below : n / 10 % m < m = mod-lt (n / 10) some in
    let whole : n / 10 / m * (m * 10) + ((n / 10 % m) * 10 + n % 10) ≡ n = omega (arith, split) in
    let small : (n / 10 % m) * 10 + n % 10 < m * 10 = omega (arith, below) in
    sym (mod-mul-add (n / 10 / m) (m * 10) ((n / 10 % m) * 10 + n % 10) small) ∙ ap (λ (k : ℕ). k % (m * 10)) whole

pub figures-value : (count n : ℕ) → digits_value 10 (figures count n) ≡ n % 10 ^ count
unfolding figures
figures-value zero n = omega arith
figures-value (suc k) n =
    let more = value-more 0 (figures k (n / 10)) (48 + n % 10) in
    let rest = figures-value k (n / 10) in
    let last = figure-value n in
    let ten = mod-ten n (10 ^ k) (ten-above k) in
    let power : 10 ^ suc k ≡ 10 ^ k * 10 = pow-suc 10 k in
    more ∙ (omega (arith, rest, last, ten) ∙ ap (λ (m : ℕ). n % m) (sym power))

pub figures-of : (count n : ℕ) → n < 10 ^ count → digits_value 10 (figures count n) ≡ n
figures-of count n below = figures-value count n ∙ mod-eq_of_lt below
