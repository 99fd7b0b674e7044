-- Names, and numbers in decimals, are made of bytes of names.
use Prim.Native.Nat.{suc, zero}
use Rattle.std.proofs.Common.{◌≡◌, ◌<◌, ℕ, ◌+◌, ◌/◌, ◌%◌, ◌==◌, Bool, true, false, ◌||◌, nat_lt, List, [], ◌∷◌, refl, sym, ◌∙◌, ap, arith}
use Rattle.std.specs.Prelude.{if◌then◌else◌}
use Rattle.std.specs.Char.{is_ascii_digit, is_ascii_lowercase}
use Rattle.std.specs.Fmt.{decimal, digit_glyph, digits, digits_onto}
use Rattle.std.specs.List.{list_all}
use Rattle.std.proofs.lemmas.Bool.{and_from, and_parts, true≢false}
use Rattle.std.proofs.lemmas.Bool.Decides.{nat_tests}
use Rattle.pg_base.specs.Names.{IsName, is_in_name}

digit-in : (n : ℕ) → is_ascii_digit (digit_glyph false (n % 10)) ≡ true
digit-in n = let low : n % 10 < 10 = omega arith in here (n % 10) low
  where
    glyph : (d : ℕ) → d < 10 → digit_glyph false d ≡ 48 + d
    glyph d lt = let t : nat_lt d 10 ≡ true = grind (arith, nat_tests, lt) in ap (λ (b : Bool). if b then 48 + d else 87 + d) t

    is-digit : (d : ℕ) → d < 10 → is_ascii_digit (48 + d) ≡ true
    is-digit d lt = grind (arith, nat_tests, lt)

    here : (d : ℕ) → d < 10 → is_ascii_digit (digit_glyph false d) ≡ true
    here d lt = ap is_ascii_digit (glyph d lt) ∙ is-digit d lt

onto-digits : (k n : ℕ) (acc : List ℕ) → list_all is_ascii_digit acc ≡ true → list_all is_ascii_digit (digits_onto k 10 false n acc) ≡ true
onto-digits zero n acc h = h
onto-digits (suc k) n acc h =
    let more = and_from (is_ascii_digit (digit_glyph false (n % 10))) (list_all is_ascii_digit acc) (digit-in n) h in
    by (n / 10 == 0) (digit_glyph false (n % 10) ∷ acc) (digits_onto k 10 false (n / 10) (digit_glyph false (n % 10) ∷ acc)) more (onto-digits k (n / 10) (digit_glyph false (n % 10) ∷ acc) more)
  where
    by : (b : Bool) (x y : List ℕ) → list_all is_ascii_digit x ≡ true → list_all is_ascii_digit y ≡ true → list_all is_ascii_digit (if b then x else y) ≡ true
    by true x y hx hy = hx
    by false x y hx hy = hy

-- a number in decimals is of digits
pub decimal-digits : (n : ℕ) → list_all is_ascii_digit (decimal n) ≡ true
unfolding digits
decimal-digits n = onto-digits 64 n [] refl

in-name : (L D U S : Bool) → D ≡ true → ((L || D) || U) || S ≡ true
in-name true D U S h = refl
in-name false true U S h = refl
in-name false false U S h = absurd (true≢false (sym h))

digits-word : (ds : List ℕ) → list_all is_ascii_digit ds ≡ true → list_all is_in_name ds ≡ true
digits-word [] h = refl
digits-word (d ∷ ds) h =
    let p = and_parts (is_ascii_digit d) (list_all is_ascii_digit ds) h in
    and_from (is_in_name d) (list_all is_in_name ds) (in-name (is_ascii_lowercase d) (is_ascii_digit d) (d == 95) (d == 36) p.0) (digits-word ds p.1)

-- a number in decimals is of bytes of names
pub decimal-word : (n : ℕ) → list_all is_in_name (decimal n) ≡ true
decimal-word n = digits-word (decimal n) (decimal-digits n)

begins-in : (L D U S : Bool) → L || U ≡ true → ((L || D) || U) || S ≡ true
begins-in true D U S h = refl
begins-in false true U S h = refl
begins-in false false true S h = refl
begins-in false false false S h = absurd (true≢false (sym h))

-- the first byte of a name may stand further in one
pub first-in : (b : ℕ) (bs : List ℕ) → IsName (b ∷ bs) → is_in_name b ≡ true
first-in b bs h = begins-in (is_ascii_lowercase b) (is_ascii_digit b) (b == 95) (b == 36) h.0

-- each byte of a name may
pub name-word : (w : List ℕ) → IsName w → list_all is_in_name w ≡ true
name-word [] h = refl
name-word (b ∷ bs) h = and_from (is_in_name b) (list_all is_in_name bs) (first-in b bs h) h.1
