-- Masks as lists of tests and as the digits of numbers.
use Rattle.std.proofs.Common.{◌≡◌, ◌<◌, ℕ, zero, suc, ◌+◌, ◌*◌, ◌/◌, ◌%◌, ◌^◌, Bool, true, false, cond, nat_eq, List, [], ◌∷◌, length, get_or, refl, ◌∙◌, ap, ap₂, arith}
use Rattle.std.specs.Prelude.{Contains}
use Rattle.std.specs.List.{AllZip, items_where_true}
use Rattle.std.proofs.Math.Nat.{pow-suc}
use Rattle.std.proofs.lemmas.Nat.{pow_pos}
use Rattle.bitmap_scan.specs.work.Chosen.{marked}

-- the number whose digits are the first tests of a mask, so many of them
digits : List Bool → ℕ → ℕ
digits [] n = 0
digits (b ∷ bs) zero = 0
digits (true ∷ bs) (suc n) = 2 * digits bs n + 1
digits (false ∷ bs) (suc n) = 2 * digits bs n

marked-none : {X : Type 0} (xs : List X) → marked 0 xs ≡ []
marked-none [] = refl
marked-none (x ∷ xs) = marked-none xs

marked-odd : {X : Type 0} (n : ℕ) (x : X) (xs : List X) → marked (2 * n + 1) (x ∷ xs) ≡ x ∷ marked n xs
marked-odd n x xs =
    let rest : (2 * n + 1) % 2 ≡ 1 = omega arith in
    let half : (2 * n + 1) / 2 ≡ n = omega arith in
    ap₂ (λ (a b : ℕ). cond (nat_eq a 1) (x ∷ marked b xs) (marked b xs)) rest half

marked-even : {X : Type 0} (n : ℕ) (x : X) (xs : List X) → marked (2 * n) (x ∷ xs) ≡ marked n xs
marked-even n x xs =
    let rest : (2 * n) % 2 ≡ 0 = omega arith in
    let half : (2 * n) / 2 ≡ n = omega arith in
    ap₂ (λ (a b : ℕ). cond (nat_eq a 1) (x ∷ marked b xs) (marked b xs)) rest half

marked-digits : {X : Type 0} (bs : List Bool) (xs : List X) → marked (digits bs (length xs)) xs ≡ items_where_true bs xs
unfolding digits
marked-digits [] xs = marked-none xs
marked-digits (b ∷ bs) [] = refl
marked-digits (true ∷ bs) (x ∷ xs) = marked-odd (digits bs (length xs)) x xs ∙ ap (λ ys. x ∷ ys) (marked-digits bs xs)
marked-digits (false ∷ bs) (x ∷ xs) = marked-even (digits bs (length xs)) x xs ∙ marked-digits bs xs

digits-below : (bs : List Bool) (n : ℕ) → digits bs n < 2 ^ n
unfolding digits
digits-below [] n = pow_pos n
digits-below (b ∷ bs) zero = pow_pos 0
digits-below (true ∷ bs) (suc n) = let h = digits-below bs n in let e = pow-suc 2 n in omega (arith, h, e)
digits-below (false ∷ bs) (suc n) = let h = digits-below bs n in let e = pow-suc 2 n in omega (arith, h, e)

-- each choice of items is marked by some number
pub marked-all : {X : Type 0} (bs : List Bool) (xs : List X) → (n : ℕ) × (n < 2 ^ length xs) × (marked n xs ≡ items_where_true bs xs)
marked-all bs xs = (digits bs (length xs), digits-below bs (length xs), marked-digits bs xs)

-- what a number marks of two lists that agree is chosen by one mask
zip-step : {A B : Type 0} (R : A → B → Type 0) (b : Bool) (x : A) (y : B) (xs : List A) (vs : List B) (m : List Bool) → R x y → AllZip R (items_where_true m xs) vs →
    AllZip R (items_where_true (b ∷ m) (x ∷ xs)) (cond b (y ∷ vs) vs)
zip-step R true x y xs vs m h z = (h, z)
zip-step R false x y xs vs m h z = z

pub marked-zip : {A B : Type 0} (R : A → B → Type 0) (n : ℕ) (xs : List A) (ys : List B) → AllZip R xs ys → (m : List Bool) × AllZip R (items_where_true m xs) (marked n ys)
marked-zip R n [] [] z = ([], tt)
marked-zip R n [] (y ∷ ys) z = absurd z
marked-zip R n (x ∷ xs) [] z = absurd z
marked-zip R n (x ∷ xs) (y ∷ ys) z =
    let rest = marked-zip R (n / 2) xs ys z.1 in
    (nat_eq (n % 2) 1 ∷ rest.0, zip-step R (nat_eq (n % 2) 1) x y xs (marked (n / 2) ys) rest.0 z.0 rest.1)

pub where-zip : {A B : Type 0} (R : A → B → Type 0) (m : List Bool) (xs : List A) (ys : List B) → AllZip R xs ys → AllZip R (items_where_true m xs) (items_where_true m ys)
where-zip R [] xs ys z = tt
where-zip R (b ∷ m) [] [] z = tt
where-zip R (b ∷ m) [] (y ∷ ys) z = absurd z
where-zip R (b ∷ m) (x ∷ xs) [] z = absurd z
where-zip R (true ∷ m) (x ∷ xs) (y ∷ ys) z = (z.0, where-zip R m xs ys z.1)
where-zip R (false ∷ m) (x ∷ xs) (y ∷ ys) z = where-zip R m xs ys z.1

-- a member alone is chosen by some mask, and what is chosen is a member
choice-at : {A : Type 0} (e : A) (xs : List A) (k : ℕ) → k < length xs → get_or xs k e ≡ e → (m : List Bool) × (items_where_true m xs ≡ e ∷ [])
choice-at e [] k lt is = absurd (omega arith)
choice-at e (x ∷ xs) zero lt is = (true ∷ [], ap (λ y. y ∷ []) is)
choice-at e (x ∷ xs) (suc k) lt is = let rest = choice-at e xs k (omega arith) is in (false ∷ rest.0, rest.1)

pub choice-of-one : {A : Type 0} (e : A) (xs : List A) → Contains xs e → (m : List Bool) × (items_where_true m xs ≡ e ∷ [])
choice-of-one e xs h = choice-at e xs h.0 h.1 h.2

there : {A : Type 0} (e x : A) (xs : List A) → Contains xs e → Contains (x ∷ xs) e
there e x xs h = (suc h.0, omega (arith, h.1), h.2)

chosen-first : {A : Type 0} (e x : A) (m : List Bool) (xs : List A) (k : ℕ) → k < suc (length (items_where_true m xs)) → get_or (x ∷ items_where_true m xs) k e ≡ e → (Contains (items_where_true m xs) e → Contains xs e) → Contains (x ∷ xs) e
chosen-first e x m xs zero lt is more = (0, omega arith, is)
chosen-first e x m xs (suc k) lt is more = there e x xs (more (k, omega (arith, lt), is))

pub chosen-is-there : {A : Type 0} (e : A) (m : List Bool) (xs : List A) → Contains (items_where_true m xs) e → Contains xs e
chosen-is-there e [] xs h = absurd (omega (arith, h.1))
chosen-is-there e (b ∷ m) [] h = absurd (omega (arith, h.1))
chosen-is-there e (true ∷ m) (x ∷ xs) h = chosen-first e x m xs h.0 h.1 h.2 (chosen-is-there e m xs)
chosen-is-there e (false ∷ m) (x ∷ xs) h = there e x xs (chosen-is-there e m xs h)
