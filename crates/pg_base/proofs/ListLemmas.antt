-- Lists: filters, maps and parts of them.
use Rattle.std.proofs.Common.{◌≡◌, ℕ, ◌+◌, List, ◌++◌, ap, ◌∙◌, append_assoc, ◌<◌, true, [], ◌∷◌, length, get_or, arith, zero, suc, Bool, false, ◌||◌, take, sym, ⊎_elim, sum, refl, cond, map, filter, ◌≤◌, ◌-◌}
use Rattle.std.specs.Char.{is_ascii_digit}
use Rattle.std.specs.List.{list_all, list_any, AllZip, AllByRecursion, position_from}
use Rattle.std.proofs.lemmas.Bool.{and_parts, or_cases, or_right, true≢false}
use Rattle.std.proofs.lemmas.List.Sums.{sum_by-cons}
use Prim.Native.Nat.{suc}
use Rattle.std.specs.Prelude.{None, Some, slice_index_or, filter, fold}

pub joined-parts : (z x y x' y' : List ℕ) → z ≡ x ++ y → y ≡ x' ++ y' → z ≡ (x ++ x') ++ y'
joined-parts z x y x' y' e e' = rw append_assoc (e ∙ ap (λ (l : List ℕ). x ++ l) e')

pub digit-first : (ds : List ℕ) (rest : List ℕ) → 0 < length ds → list_all is_ascii_digit ds ≡ true → is_ascii_digit (get_or (ds ++ rest) 0 0) ≡ true
digit-first [] rest lt h = absurd (omega (arith, lt))
digit-first (d ∷ ds) rest lt h = (and_parts (is_ascii_digit d) (list_all is_ascii_digit ds) h).0

pub any-taken : (p : ℕ → Bool) (k : ℕ) (xs : List ℕ) → list_any p (take k xs) ≡ true → list_any p xs ≡ true
any-taken p zero xs h = absurd (true≢false (sym h))
any-taken p (suc k) [] h = absurd (true≢false (sym h))
any-taken p (suc k) (x ∷ xs) h = ⊎_elim
    (λ (here : p x ≡ true). ap (λ (v : Bool). v || list_any p xs) here)
    (λ (more : list_any p (take k xs) ≡ true). or_right (p x) (list_any p xs) (any-taken p k xs more))
    (or_cases (p x) (list_any p (take k xs)) h)

pub sum-cons : (n : ℕ) (ns : List ℕ) → sum (n ∷ ns) ≡ n + sum ns
sum-cons n ns = sum_by-cons (λ (m : ℕ). m) n ns

pub zip-at : {A B : Type 0} (R : A → B → Type 0) (xs : List A) (ys : List B) (i : ℕ) (d : A) (e : B) → AllZip R xs ys → i < length xs → R (get_or xs i d) (get_or ys i e)
zip-at R [] ys i d e h lt = absurd (omega (arith, lt))
zip-at R (x ∷ xs) [] i d e h lt = absurd h
zip-at R (x ∷ xs) (y ∷ ys) zero d e h lt = h.0
zip-at R (x ∷ xs) (y ∷ ys) (suc i) d e h lt = zip-at R xs ys i d e h.1 (omega (arith, lt))

pub zip-length : {A B : Type 0} (R : A → B → Type 0) (xs : List A) (ys : List B) → AllZip R xs ys → length xs ≡ length ys
zip-length R [] [] z = refl
zip-length R [] (y ∷ ys) z = absurd z
zip-length R (x ∷ xs) [] z = absurd z
zip-length R (x ∷ xs) (y ∷ ys) z = ap suc (zip-length R xs ys z.1)

pub zip-long : {B C : Type 0} (R : B → C → Type 0) (xs : List B) (ys : List C) → AllZip R xs ys → length ys ≡ length xs
zip-long R [] [] h = refl
zip-long R [] (y ∷ ys) h = absurd h
zip-long R (x ∷ xs) [] h = absurd h
zip-long R (x ∷ xs) (y ∷ ys) h = ap suc (zip-long R xs ys h.1)

pub filter-map-is : {A B : Type 0} (p : B → Bool) (f : A → B) (xs : List A) → filter p (map f xs) ≡ map f (filter (λ x. p (f x)) xs)
filter-map-is p f [] = refl
filter-map-is {A} {B} p f (x ∷ xs) = elim (p (f x)) as (λ v. cond v (f x ∷ filter p (map f xs)) (filter p (map f xs)) ≡ map f (cond v (x ∷ filter (λ y. p (f y)) xs) (filter (λ y. p (f y)) xs)))
    [ true ↦ ap (λ l. f x ∷ l) (filter-map-is p f xs) | false ↦ filter-map-is p f xs ]

pub each-map : {X Y : Type 0} (P : Y → Type 0) (f : X → Y) (xs : List X) → AllByRecursion (λ x. P (f x)) xs → AllByRecursion P (map f xs)
each-map P f [] h = tt
each-map P f (x ∷ xs) h = (h.0, each-map P f xs h.1)

pub any-take : {A : Type 0} (p : A → Bool) (xs : List A) → list_any p (take 1 xs) ≡ true → list_any p xs ≡ true
any-take p [] h = h
any-take p (x ∷ xs) h = by (p x) h
  where
    by : (b : Bool) → b || false ≡ true → b || list_any p xs ≡ true
    by true h = refl
    by false h = absurd (true≢false (sym h))

pub found-at : {A : Type 0} (p : A → Bool) (i : ℕ) (xs : List A) (d : A) (n : ℕ) → position_from p i xs ≡ Some n → (k : ℕ) × (n ≡ i + k) × (k < length xs) × (p (slice_index_or xs k d) ≡ true)
found-at p i [] d n h = absurd (nothing h)
  where
    nothing : None ≡ Some n → ⊥
    nothing e = cc
found-at {A} p i (x ∷ xs) d n h = by (found-at p (i + 1) xs d n) (p x) refl h
  where
    further : (k : ℕ) × (n ≡ i + 1 + k) × (k < length xs) × (p (slice_index_or xs k d) ≡ true) → (k : ℕ) × (n ≡ i + k) × (k < length (x ∷ xs)) × (p (slice_index_or (x ∷ xs) k d) ≡ true)
    further f = (suc f.0, omega (arith, f.1), omega (arith, f.2), f.3)

    by : (position_from p (i + 1) xs ≡ Some n → (k : ℕ) × (n ≡ i + 1 + k) × (k < length xs) × (p (slice_index_or xs k d) ≡ true))
        → (v : Bool) → p x ≡ v → cond v (Some i) (position_from p (i + 1) xs) ≡ Some n → (k : ℕ) × (n ≡ i + k) × (k < length (x ∷ xs)) × (p (slice_index_or (x ∷ xs) k d) ≡ true)
    by later true e g = let same : i ≡ n = cc in (0, omega (arith, same), omega arith, e)
    by later false e g = further (later g)

pub all-filter : {X : Type 0} (P : X → Type 0) (p : X → Bool) (xs : List X) → AllByRecursion P xs → AllByRecursion P (filter p xs)
all-filter P p [] h = tt
all-filter P p (x ∷ xs) h = by (p x) (all-filter P p xs h.1)
  where
    by : (b : Bool) → AllByRecursion P (filter p xs) → AllByRecursion P (cond b (x ∷ filter p xs) (filter p xs))
    by true more = (h.0, more)
    by false more = more

pub some-folded : {A : Type 0} (f : ℕ → A → ℕ) → ((m : ℕ) (a : A) → 1 ≤ f m a) → (n : ℕ) (xs : List A) → 1 ≤ n → 1 ≤ fold f n xs
some-folded f some n [] h = h
some-folded f some n (x ∷ xs) h = some-folded f some (f n x) xs (some n x)

-- the images of those whose image passes are the images that pass
pub map-filter : {A B : Type 0} (f : A → B) (p : B → Bool) (xs : List A) → map f (filter (λ x. p (f x)) xs) ≡ filter p (map f xs)
map-filter f p [] = refl
map-filter f p (x ∷ xs) = by (p (f x)) (map-filter f p xs)
  where
    by : (b : Bool) → map f (filter (λ x. p (f x)) xs) ≡ filter p (map f xs) → map f (cond b (x ∷ filter (λ x. p (f x)) xs) (filter (λ x. p (f x)) xs)) ≡ cond b (f x ∷ filter p (map f xs)) (filter p (map f xs))
    by true more = ap (λ l. f x ∷ l) more
    by false more = more

-- two tests in either order
pub filters-swapped : {A : Type 0} (p q : A → Bool) (xs : List A) → filter p (filter q xs) ≡ filter q (filter p xs)
filters-swapped p q [] = refl
filters-swapped p q (x ∷ xs) = by (p x) refl (q x) refl (filters-swapped p q xs)
  where
    by : (b : Bool) → p x ≡ b → (c : Bool) → q x ≡ c → filter p (filter q xs) ≡ filter q (filter p xs) → filter p (cond c (x ∷ filter q xs) (filter q xs)) ≡ filter q (cond b (x ∷ filter p xs) (filter p xs))
    by true e true f more = ap (λ b. cond b (x ∷ filter p (filter q xs)) (filter p (filter q xs))) e ∙ ap (λ l. x ∷ l) more ∙ sym (ap (λ b. cond b (x ∷ filter q (filter p xs)) (filter q (filter p xs))) f)
    by true e false f more = more ∙ sym (ap (λ b. cond b (x ∷ filter q (filter p xs)) (filter q (filter p xs))) f)
    by false e true f more = ap (λ b. cond b (x ∷ filter p (filter q xs)) (filter p (filter q xs))) e ∙ more
    by false e false f more = more

-- each that is left passes
pub filter-passes : {X : Type 0} (p : X → Bool) (xs : List X) → AllByRecursion (λ x. p x ≡ true) (filter p xs)
filter-passes p [] = tt
filter-passes p (x ∷ xs) = by (filter-passes p xs) (p x) refl
  where
    by : AllByRecursion (λ y. p y ≡ true) (filter p xs) → (b : Bool) → p x ≡ b → AllByRecursion (λ y. p y ≡ true) (cond b (x ∷ filter p xs) (filter p xs))
    by more true e = (e, more)
    by more false e = more
