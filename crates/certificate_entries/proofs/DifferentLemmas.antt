-- Lists without repeats.
use Rattle.std.proofs.Common.{◌≡◌, ◌≢◌, ◌<◌, ◌≤◌, ◌+◌, ℕ, ◌⊎◌, inl, inr, List, length, get_or, sym, ◌∙◌, subst, arith}
use Rattle.std.proofs.lemmas.Bool.{cases_lt}
use Rattle.std.proofs.lemmas.List.{get_or-map, get_or_default, length-map}
use Rattle.eq_classes.specs.declared.classes.ClassNo.{ClassNo}
use Rattle.pathkeys.specs.work.Finding.{class_numbers}
use Rattle.pathkeys.specs.Keys.{AreDifferent}

-- a place none before which has its number
pub one-more : (ks : List ℕ) (n i : ℕ) → ((j : ℕ) → j < i → get_or ks j 0 ≢ get_or ks n 0) → (get_or ks i 0 ≢ get_or ks n 0) → (j : ℕ) → j < i + 1 → get_or ks j 0 ≢ get_or ks n 0
one-more ks n i before other j lt = by (cases_lt j i) where
  by : (j < i) ⊎ (i ≤ j) → get_or ks j 0 ≢ get_or ks n 0
  by (inl low) = before j low
  by (inr more) = let same : i ≡ j = omega (arith, lt, more) in subst (λ (m : ℕ). get_or ks m 0 ≢ get_or ks n 0) same other

-- different up to a place, and up to the next
pub more-different : (ks : List ℕ) (n : ℕ) → ((i j : ℕ) → i < j → j < n → get_or ks i 0 ≢ get_or ks j 0) → ((i : ℕ) → i < n → get_or ks i 0 ≢ get_or ks n 0) → (i j : ℕ) → i < j → j < n + 1 → get_or ks i 0 ≢ get_or ks j 0
more-different ks n before other i j low lt = by (cases_lt j n) where
  by : (j < n) ⊎ (n ≤ j) → get_or ks i 0 ≢ get_or ks j 0
  by (inl less) = before i j low less
  by (inr more) = let same : n ≡ j = omega (arith, lt, more) in subst (λ (m : ℕ). get_or ks i 0 ≢ get_or ks m 0) same (other i (omega (arith, low, same)))

pub all-different : (keys : List ClassNo) (n : ℕ) → length keys ≤ n → ((i j : ℕ) → i < j → j < n → get_or (class_numbers keys) i 0 ≢ get_or (class_numbers keys) j 0) → AreDifferent (class_numbers keys)
all-different keys n all h i j d lt within same =
    let ks = class_numbers keys in
    let long = length-map keys (λ (c : ClassNo). c.0) in
    h i j lt (omega (arith, all, long, within)) (get_or_default ks i 0 d (omega (arith, lt, within)) ∙ (same ∙ sym (get_or_default ks j 0 d within)))

pub twice : (keys : List ClassNo) (i n : ℕ) → i < n → n < length keys → get_or (class_numbers keys) i 0 ≡ get_or (class_numbers keys) n 0 → ¬ AreDifferent (class_numbers keys)
twice keys i n lt within same different = let long = length-map keys (λ (c : ClassNo). c.0) in different i n 0 lt (omega (arith, long, within)) same
