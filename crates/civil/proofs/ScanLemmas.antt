-- Loops over the bytes of a text: how many pass a test at its beginning, and whether all do.
use Rattle.std.proofs.Common.{◌≡◌, ℕ, suc, ◌<◌, ◌≤◌, ◌+◌, Bool, true, false, ◌&&◌, List, length, get_or, drop, sym, ap, subst, ◌∙◌, arith, drop-cons}
use Rattle.std.specs.List.{list_all, prefix_len}
use Rattle.std.proofs.lemmas.List.Sums.{prefix_len-drop_yes, prefix_len-drop_no, prefix_len-drop_all}

pub stopped : (p : ℕ → Bool) (xs : List ℕ) (n : ℕ) → n < length xs → n + prefix_len p (drop n xs) ≡ prefix_len p xs → p (get_or xs n 0) ≡ false → n ≡ prefix_len p xs
stopped p xs n lt so wrong = omega (arith, so, prefix_len-drop_no p xs n 0 lt wrong)

pub gone-on : (p : ℕ → Bool) (xs : List ℕ) (n : ℕ) → n < length xs → n + prefix_len p (drop n xs) ≡ prefix_len p xs → p (get_or xs n 0) ≡ true →
    (n + 1) + prefix_len p (drop (n + 1) xs) ≡ prefix_len p xs
gone-on p xs n lt so right = omega (arith, so, prefix_len-drop_yes p xs n 0 lt right)

pub passed : (p : ℕ → Bool) (xs : List ℕ) (n : ℕ) → length xs ≤ n → n + prefix_len p (drop n xs) ≡ prefix_len p xs → n ≡ prefix_len p xs
passed p xs n past so = omega (arith, so, prefix_len-drop_all p xs n past)

one-more : (p : ℕ → Bool) (xs : List ℕ) (n : ℕ) → n < length xs → list_all p (drop n xs) ≡ (p (get_or xs n 0) && list_all p (drop (suc n) xs))
one-more p xs n lt = ap (list_all p) (drop-cons xs n 0 lt)

pub all-gone-on : (p : ℕ → Bool) (xs : List ℕ) (n : ℕ) → n < length xs → list_all p (drop n xs) ≡ list_all p xs → p (get_or xs n 0) ≡ true → list_all p (drop (n + 1) xs) ≡ list_all p xs
all-gone-on p xs n lt so right =
    let next : suc n ≡ n + 1 = omega arith in
    subst (λ (k : ℕ). list_all p (drop k xs) ≡ list_all p xs) next
    (sym (ap (λ (b : Bool). b && list_all p (drop (suc n) xs)) right) ∙ (sym (one-more p xs n lt) ∙ so))
