-- The parts of a decimal number, and what they make.
use Rattle.std.proofs.Common.{◌≡◌, ℕ, ◌<◌, ◌≤◌, ◌^◌, true, ◌&&◌, ap, ◌∙◌, arith}
use Rattle.std.specs.Prelude.{nat_le}
use Rattle.std.proofs.lemmas.Bool.{and_parts, leb-true}
use Rattle.civil.specs.Numerics.{is_size}
use Rattle.civil.proofs.FormLemmas.{ten-fits}

-- a type has at most 18 digits
pub most-digits : (digits scale : ℕ) → is_size digits scale ≡ true → digits ≤ 18
most-digits digits scale h = leb-true digits 18 (and_parts (nat_le 1 digits) (nat_le digits 18) (and_parts (nat_le 1 digits && nat_le digits 18) (nat_le scale digits) h).0).1

-- a number below the end of a type is below 10^18
pub below-all : (digits scale size end place : ℕ) → is_size digits scale ≡ true → size < end → end ≡ 10 ^ place → place ≡ digits → size < 1_000_000_000_000_000_000
below-all digits scale size end place sized below is-end is-place =
    let most = ten-fits digits (most-digits digits scale sized) in
    let same : end ≡ 10 ^ digits = is-end ∙ ap (λ (k : ℕ). 10 ^ k) is-place in
    omega (arith, below, same, most)
