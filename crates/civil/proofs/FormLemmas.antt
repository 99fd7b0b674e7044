-- What a text of a form has at its places, and the numbers that few digits write.
use Rattle.std.proofs.Common.{◌≡◌, ℕ, zero, suc, ◌<◌, ◌≤◌, ◌-◌, ◌+◌, ◌*◌, ◌^◌, Bool, true, false, true≢false, cond, ◌&&◌, List, [], ◌∷◌, length, take, drop, min, refl, sym, ap, ap₂, subst, ◌∙◌, arith, get_or, length-take, drop-cons, drop_of_length-le}
use Rattle.std.specs.Prelude.{nat_eq}
use Rattle.std.proofs.lemmas.Bool.{and_parts, and_from, and_left, and_right, true_from_ne_false}
use Rattle.std.proofs.lemmas.Bool.Decides.{nat_tests}
use Rattle.std.proofs.lemmas.Int.Digits.{digits_value-lt}
use Rattle.std.proofs.lemmas.List.Folds.{list_all_at}
use Rattle.std.proofs.lemmas.Nat.{pow-add}
use Rattle.std.proofs.Math.Nat.{mul-lt-mul_of_pos_right}
use native.Mathlib.Nat.{pow-le-pow_right}
use Rattle.std.specs.Char.{is_ascii_digit, is_ascii_hexdigit, digit_value}
use Rattle.std.specs.List.{list_all}
use Rattle.std.specs.Str.Parse.{digits_value, AllDigits}
use Rattle.civil.specs.Forms.{fraction, has_form, number_at, stands_for}

pub form-length : (form text : List ℕ) → has_form form text ≡ true → length form ≡ length text
unfolding has_form
form-length [] [] h = refl
form-length (f ∷ fs) (c ∷ cs) h = ap suc (form-length fs cs (and_parts (stands_for f c) (has_form fs cs) h).1)
form-length [] (c ∷ cs) h = absurd (true≢false (sym h))
form-length (f ∷ fs) [] h = absurd (true≢false (sym h))

-- texts of two lengths have no form in common
pub apart : (form text : List ℕ) → ¬ (length form ≡ length text) → has_form form text ≡ false
unfolding has_form
apart [] [] h = absurd (h refl)
apart (f ∷ fs) (c ∷ cs) h = and_right (stands_for f c) (has_form fs cs) (apart fs cs (λ e. h (ap suc e)))
apart [] (c ∷ cs) h = refl
apart (f ∷ fs) [] h = refl

pub form-drop : (n : ℕ) (form text : List ℕ) → has_form form text ≡ true → has_form (drop n form) (drop n text) ≡ true
unfolding has_form
form-drop zero form text h = h
form-drop (suc n) [] [] h = refl
form-drop (suc n) (f ∷ fs) (c ∷ cs) h = form-drop n fs cs (and_parts (stands_for f c) (has_form fs cs) h).1
form-drop (suc n) [] (c ∷ cs) h = absurd (true≢false (sym h))
form-drop (suc n) (f ∷ fs) [] h = absurd (true≢false (sym h))

pub form-take : (n : ℕ) (form text : List ℕ) → has_form form text ≡ true → has_form (take n form) (take n text) ≡ true
unfolding has_form
form-take zero form text h = refl
form-take (suc n) [] [] h = refl
form-take (suc n) (f ∷ fs) (c ∷ cs) h =
    and_from (stands_for f c) (has_form (take n fs) (take n cs)) (and_parts (stands_for f c) (has_form fs cs) h).0 (form-take n fs cs (and_parts (stands_for f c) (has_form fs cs) h).1)
form-take (suc n) [] (c ∷ cs) h = absurd (true≢false (sym h))
form-take (suc n) (f ∷ fs) [] h = absurd (true≢false (sym h))

-- a form's character is D
abbrev pub is_for_digit : ℕ → Bool
is_for_digit f = nat_eq f 68

digit-there : (f c : ℕ) → is_for_digit f ≡ true → stands_for f c ≡ true → is_ascii_digit c ≡ true
digit-there f c d h = sym (ap (λ (b : Bool). cond b (is_ascii_digit c) (cond (nat_eq f 72) (is_ascii_hexdigit c) (nat_eq f c))) d) ∙ h

all-digits : (form text : List ℕ) → list_all is_for_digit form ≡ true → has_form form text ≡ true → list_all is_ascii_digit text ≡ true
unfolding has_form
all-digits [] [] d h = refl
all-digits (f ∷ fs) (c ∷ cs) d h =
    let here = and_parts (is_for_digit f) (list_all is_for_digit fs) d in
    let there = and_parts (stands_for f c) (has_form fs cs) h in
    and_from (is_ascii_digit c) (list_all is_ascii_digit cs) (digit-there f c here.0 there.0) (all-digits fs cs here.1 there.1)
all-digits [] (c ∷ cs) d h = absurd (true≢false (sym h))
all-digits (f ∷ fs) [] d h = absurd (true≢false (sym h))

-- where a form has D alone, its texts have digits alone
pub digits-at : (place count : ℕ) (form text : List ℕ) → has_form form text ≡ true → list_all is_for_digit (take count (drop place form)) ≡ true → list_all is_ascii_digit (take count (drop place text)) ≡ true
digits-at place count form text h d = all-digits (take count (drop place form)) (take count (drop place text)) d (form-take count (drop place form) (drop place text) (form-drop place form text h))

pub digits-behind : (place : ℕ) (form text : List ℕ) → has_form form text ≡ true → list_all is_for_digit (drop place form) ≡ true → list_all is_ascii_digit (drop place text) ≡ true
digits-behind place form text h d = all-digits (drop place form) (drop place text) d (form-drop place form text h)

pub digit-is : (c : ℕ) → is_ascii_digit c ≡ true → digit_value c ≡ c - 48
digit-is c h = grind (arith, nat_tests)

digit-below : (c : ℕ) → is_ascii_digit c ≡ true → digit_value c < 10
digit-below c h = grind (arith, nat_tests)

pub are-digits : (ds : List ℕ) → list_all is_ascii_digit ds ≡ true → AllDigits 10 ds
are-digits [] h = tt
are-digits (c ∷ cs) h =
    let parts = and_parts (is_ascii_digit c) (list_all is_ascii_digit cs) h in
    (digit-below c parts.0, are-digits cs parts.1)

-- a number of few digits is below a power of ten
pub below-power : (count : ℕ) (ds : List ℕ) → list_all is_ascii_digit ds ≡ true → length ds ≤ count → digits_value 10 ds < 10 ^ count
below-power count ds h short = omega (arith, digits_value-lt 10 ds (are-digits ds h), pow-le-pow_right {n = 10} (omega arith) short)

pub all-at : (p : ℕ → Bool) (xs : List ℕ) (i d : ℕ) → list_all p xs ≡ true → i < length xs → p (get_or xs i d) ≡ true
all-at p xs i d h lt = true_from_ne_false (p (get_or xs i d)) (λ e. true≢false (sym h ∙ list_all_at p xs i d lt e))

pub sum-more : (v d number : ℕ) → number ≡ min v (2 ^ 64 - 1) → min (min (number * 10) (2 ^ 64 - 1) + d) (2 ^ 64 - 1) ≡ min (v * 10 + d) (2 ^ 64 - 1)
sum-more v d number h = omega arith

pub ten-above : (n : ℕ) → 0 < 10 ^ n
ten-above n =
    let least : 0 ≤ n = omega arith in
    let one : 1 ≤ 10 ^ n = pow-le-pow_right {n = 10} (omega arith) least in
    omega (arith, one)

pub ten-fits : (n : ℕ) → n ≤ 18 → 10 ^ n ≤ 1_000_000_000_000_000_000
ten-fits n le = pow-le-pow_right {n = 10} (omega arith) le

-- a number that is read of few digits is exact
pub exact : (count : ℕ) (ds : List ℕ) (n : ℕ) → count ≤ 18 → list_all is_ascii_digit ds ≡ true → length ds ≤ count → n ≡ min (digits_value 10 ds) (2 ^ 64 - 1) →
    (n ≡ digits_value 10 ds) × (n < 10 ^ count)
exact count ds n few digits short is =
    let below = below-power count ds digits short in
    let most = ten-fits count few in
    (omega (arith, is, below, most), omega (arith, is, below, most))

all-take : (p : ℕ → Bool) (n : ℕ) (xs : List ℕ) → list_all p xs ≡ true → list_all p (take n xs) ≡ true
all-take p zero xs h = refl
all-take p (suc n) [] h = refl
all-take p (suc n) (x ∷ xs) h = and_from (p x) (list_all p (take n xs)) (and_parts (p x) (list_all p xs) h).0 (all-take p n xs (and_parts (p x) (list_all p xs) h).1)

pub taken-digits : (places : ℕ) (digits : List ℕ) → list_all is_ascii_digit digits ≡ true → list_all is_ascii_digit (take places digits) ≡ true
taken-digits places digits = all-take is_ascii_digit places digits

-- a fraction is below one
pub below-one : (places : ℕ) (digits : List ℕ) → list_all is_ascii_digit digits ≡ true → fraction places digits < 10 ^ places
below-one places digits h =
    let part = take places digits in
    let short : length part ≤ places = omega (arith, length-take places digits) in
    let split = pow-add 10 (length part) (places - length part) in
    let whole : 10 ^ (length part + (places - length part)) ≡ 10 ^ places = ap (λ (k : ℕ). 10 ^ k) (omega arith) in
    let less = mul-lt-mul_of_pos_right {k = 10 ^ (places - length part)} (digits_value-lt 10 part (are-digits part (taken-digits places digits h))) (ten-above (places - length part)) in
    omega (arith, whole, split, less)

-- one more character of a form and a text
form-step : (form text : List ℕ) (n : ℕ) → n < length form → length form ≡ length text →
    has_form (drop n form) (drop n text) ≡ (stands_for (get_or form n 0) (get_or text n 0) && has_form (drop (suc n) form) (drop (suc n) text))
unfolding has_form
form-step form text n lt same = ap₂ has_form (drop-cons form n 0 lt) (drop-cons text n 0 (omega (arith, lt, same)))

pub refused : (form text : List ℕ) (n : ℕ) → n < length form → length form ≡ length text → has_form (drop n form) (drop n text) ≡ has_form form text →
    stands_for (get_or form n 0) (get_or text n 0) ≡ false → false ≡ has_form form text
refused form text n lt same so other =
    sym (sym so ∙ (form-step form text n lt same ∙ and_left (stands_for (get_or form n 0) (get_or text n 0)) (has_form (drop (suc n) form) (drop (suc n) text)) other))

pub taken : (form text : List ℕ) (n : ℕ) → n < length form → length form ≡ length text → has_form (drop n form) (drop n text) ≡ has_form form text →
    stands_for (get_or form n 0) (get_or text n 0) ≡ true → has_form (drop (n + 1) form) (drop (n + 1) text) ≡ has_form form text
taken form text n lt same so fits =
    let next : suc n ≡ n + 1 = omega arith in
    subst (λ (k : ℕ). has_form (drop k form) (drop k text) ≡ has_form form text) next
    (sym (ap (λ (b : Bool). b && has_form (drop (suc n) form) (drop (suc n) text)) fits) ∙ (sym (form-step form text n lt same) ∙ so))

pub ended : (form text : List ℕ) (n : ℕ) → length form ≤ n → length form ≡ length text → has_form (drop n form) (drop n text) ≡ has_form form text → true ≡ has_form form text
unfolding has_form
ended form text n past same so =
    sym (ap₂ has_form (drop_of_length-le form past) (drop_of_length-le text (omega (arith, past, same)))) ∙ so

-- the number of some places of a text
pub number-read : (place count n : ℕ) (text rest part : List ℕ) → rest ≡ drop place text → part ≡ take count rest → n ≡ min (digits_value 10 part) (2 ^ 64 - 1) →
    count ≤ 18 → list_all is_ascii_digit (take count (drop place text)) ≡ true → (n ≡ number_at place count text) × (n < 10 ^ count)
number-read place count n text rest part is-rest is-part is few digits =
    let whole : part ≡ take count (drop place text) = is-part ∙ ap (take count) is-rest in
    let short : length (take count (drop place text)) ≤ count = omega (arith, length-take count (drop place text)) in
    exact count (take count (drop place text)) n few digits short (is ∙ ap (λ (ds : List ℕ). min (digits_value 10 ds) (2 ^ 64 - 1)) whole)

-- the number of a fraction's places
pub fraction-read : (places n t : ℕ) (digits part : List ℕ) → part ≡ take places digits → n ≡ min (digits_value 10 part) (2 ^ 64 - 1) → t ≡ 10 ^ (places - length part) →
    places ≤ 18 → list_all is_ascii_digit digits ≡ true → (n * t ≡ fraction places digits) × (n * t < 10 ^ places) × (n * t < 2 ^ 64)
fraction-read places n t digits part is-part is-n is-t few all =
    let short : length (take places digits) ≤ places = omega (arith, length-take places digits) in
    let number : n ≡ digits_value 10 (take places digits) = (exact places (take places digits) n few (taken-digits places digits all) short (is-n ∙ ap (λ (ds : List ℕ). min (digits_value 10 ds) (2 ^ 64 - 1)) is-part)).0 in
    let power : t ≡ 10 ^ (places - length (take places digits)) = is-t ∙ ap (λ (ds : List ℕ). 10 ^ (places - length ds)) is-part in
    let same : n * t ≡ fraction places digits = ap₂ ◌*◌ number power in
    let below = below-one places digits all in
    let most = ten-fits places few in
    (same, omega (arith, same, below), omega (arith, same, below, most))
