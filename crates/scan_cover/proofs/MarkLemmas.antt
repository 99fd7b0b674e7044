-- What the binary digits of a number mark of a list, item by item.
use Rattle.std.proofs.Common.{◌≡◌, ◌<◌, ◌≤◌, ◌+◌, ◌/◌, ◌%◌, ◌^◌, ℕ, zero, suc, Bool, true, false, cond, ◌&&◌, ◌||◌, nat_eq, List, [], ◌∷◌, ◌++◌, length, map, drop, get_or, refl, sym, ap, ◌∙◌, arith, append_assoc}
use Rattle.std.specs.List.{AllZip, items_where_true, list_any, range_with_len}
use Rattle.std.proofs.Math.ListN.{drop_of_length-le}
use Rattle.std.proofs.lemmas.Nat.{shr-shr}
use Rattle.std.proofs.lemmas.List.{append-nil, drop_more, length-append}
use Rattle.std.proofs.lemmas.List.Folds.{list_any-append}
use Rattle.plan_check.specs.Plains.{mask_of}
use Rattle.bitmap_scan.specs.work.Chosen.{marked}

-- the first items of a list were looked at, and some of them were marked
pub record IsSplit {X : Type 0} (mask : ℕ) (xs : List X) (left n : ℕ) (seen : List X) : Type 0 where
  pub is : seen ++ marked left (drop n xs) ≡ marked mask xs
  pub few : length seen ≤ n

module _ {X : Type 0} where
  pub split-none : (mask : ℕ) (xs : List X) → IsSplit mask xs mask 0 []
  split-none mask xs = record { is = refl; few = omega arith }

  one-at : (b : Bool) (x : X) (seen rest : List X) → (seen ++ cond b (x ∷ []) []) ++ rest ≡ seen ++ cond b (x ∷ rest) rest
  one-at true x seen rest = append_assoc seen (x ∷ []) rest
  one-at false x seen rest = append_assoc seen [] rest

  few-more : (b : Bool) (x : X) (seen : List X) (n : ℕ) → length seen ≤ n → length (seen ++ cond b (x ∷ []) []) ≤ n + 1
  few-more true x seen n le = let long = length-append seen (x ∷ []) in omega (arith, le, long)
  few-more false x seen n le = let long = length-append seen [] in omega (arith, le, long)

  pub split-next : (mask : ℕ) (xs : List X) (left n : ℕ) (seen : List X) (d : X) → n < length xs → IsSplit mask xs left n seen → IsSplit mask xs (left / 2) (n + 1) (seen ++ cond (nat_eq (left % 2) 1) (get_or xs n d ∷ []) [])
  split-next mask xs left n seen d lt h = record {
    is = one-at (nat_eq (left % 2) 1) (get_or xs n d) seen (marked (left / 2) (drop (n + 1) xs)) ∙ ap (λ (ys : List X). seen ++ marked left ys) (sym (drop_more xs n d lt)) ∙ h.is;
    few = few-more (nat_eq (left % 2) 1) (get_or xs n d) seen n h.few;
  }

  pub split-all : (mask : ℕ) (xs : List X) (left n : ℕ) (seen : List X) → length xs ≤ n → IsSplit mask xs left n seen → seen ≡ marked mask xs
  split-all mask xs left n seen le h = sym (append-nil seen) ∙ ap (λ (ys : List X). seen ++ marked left ys) (sym (drop_of_length-le xs le)) ∙ h.is

  -- whether some of the marked items have a property, with one more
  pub any-more : (f : X → Bool) (b : Bool) (x : X) (seen : List X) → list_any f (seen ++ cond b (x ∷ []) []) ≡ list_any f seen || (b && f x)
  any-more f true x seen = list_any-append f seen (x ∷ []) ∙ ap (λ (t : Bool). list_any f seen || t) (or-false (f x))
    where
      or-false : (t : Bool) → t || false ≡ t
      or-false true = refl
      or-false false = refl
  any-more f false x seen = list_any-append f seen []

  -- the digits as a list of tests
  digits-from : (n k len : ℕ) (xs : List X) → length xs ≤ len → items_where_true (map (λ j. nat_eq (n / 2 ^ j % 2) 1) (range_with_len k len)) xs ≡ marked (n / 2 ^ k) xs
  digits-from n k zero [] le = refl
  digits-from n k zero (x ∷ xs) le = absurd (omega (arith, le))
  digits-from n k (suc len) [] le = refl
  digits-from n k (suc len) (x ∷ xs) le = by (nat_eq (n / 2 ^ k % 2) 1) (digits-from n (k + 1) len xs (omega (arith, le)) ∙ ap (λ (m : ℕ). marked m xs) (sym (shr-shr n k 1)))
    where
      by : (b : Bool) → items_where_true (map (λ j. nat_eq (n / 2 ^ j % 2) 1) (range_with_len (k + 1) len)) xs ≡ marked (n / 2 ^ k / 2) xs →
          items_where_true (b ∷ map (λ j. nat_eq (n / 2 ^ j % 2) 1) (range_with_len (k + 1) len)) (x ∷ xs) ≡ cond b (x ∷ marked (n / 2 ^ k / 2) xs) (marked (n / 2 ^ k / 2) xs)
      by true e = ap (λ (ys : List X). x ∷ ys) e
      by false e = e

  pub mask-marks : (n : ℕ) (xs : List X) → length xs ≤ 8 → items_where_true (mask_of n) xs ≡ marked n xs
  mask-marks n xs le = let one : n / 2 ^ 0 ≡ n = omega arith in digits-from n 0 8 xs le ∙ ap (λ (m : ℕ). marked m xs) one

-- pairs of lists that agree agree where they are marked
pub zip-marked : {A B : Type 0} (R : A → B → Type 0) (n : ℕ) (xs : List A) (ys : List B) → AllZip R xs ys → AllZip R (marked n xs) (marked n ys)
zip-marked R n [] [] z = tt
zip-marked R n [] (y ∷ ys) z = absurd z
zip-marked R n (x ∷ xs) [] z = absurd z
zip-marked R n (x ∷ xs) (y ∷ ys) z = by (nat_eq (n % 2) 1) (zip-marked R (n / 2) xs ys z.1)
  where
    by : (b : Bool) → AllZip R (marked (n / 2) xs) (marked (n / 2) ys) → AllZip R (cond b (x ∷ marked (n / 2) xs) (marked (n / 2) xs)) (cond b (y ∷ marked (n / 2) ys) (marked (n / 2) ys))
    by true rest = (z.0, rest)
    by false rest = rest

pub zip-joined : {A B : Type 0} (R : A → B → Type 0) (xs us : List A) (ys vs : List B) → AllZip R xs ys → AllZip R us vs → AllZip R (xs ++ us) (ys ++ vs)
zip-joined R [] us [] vs z w = w
zip-joined R [] us (y ∷ ys) vs z w = absurd z
zip-joined R (x ∷ xs) us [] vs z w = absurd z
zip-joined R (x ∷ xs) us (y ∷ ys) vs z w = (z.0, zip-joined R xs us ys vs z.1 w)
