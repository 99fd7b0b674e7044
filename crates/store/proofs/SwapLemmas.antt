-- A list of which the first elements have got others, one after another.
use Rattle.std.proofs.Common.{◌≡◌, ◌<◌, ◌≤◌, ◌+◌, ℕ, zero, suc, Bool, true, false, cond, List, [], ◌∷◌, ◌++◌, drop, length, get_or, map, set, take, refl, sym, ap, ap₂, ◌∙◌, add-one, arith}
use Rattle.std.specs.Prelude.{nat_eq}
use Rattle.std.proofs.lemmas.Bool.{eq-eqb, ne_eqb}
use Rattle.pg_base.specs.declared.numbers.TableNo.{TableNo}
use Rattle.catalog.specs.Contents.{NamedIndex}
use Rattle.store.specs.work.Kept.{Built, below, cut_back}

module _ {A B : Type 0} (f g : A → B) where
  -- the first n by f, the others by g
  abbrev pub swapped : List A → ℕ → List B
  swapped xs n = map f (take n xs) ++ map g (drop n xs)

  pub swapped-long : (xs : List A) (n : ℕ) → length (swapped xs n) ≡ length xs
  swapped-long [] zero = refl
  swapped-long [] (suc n) = refl
  swapped-long (x ∷ xs) zero = ap suc (swapped-long xs zero)
  swapped-long (x ∷ xs) (suc n) = ap suc (swapped-long xs n)

  pub swapped-at : (xs : List A) (n : ℕ) (d : A) (e : B) → n < length xs → get_or (swapped xs n) n e ≡ g (get_or xs n d)
  swapped-at [] n d e lt = absurd (omega (arith, lt))
  swapped-at (x ∷ xs) zero d e lt = refl
  swapped-at (x ∷ xs) (suc n) d e lt = swapped-at xs n d e (omega (arith, lt))

  set-suc : (xs : List A) (n : ℕ) (d : A) → n < length xs → set (swapped xs n) n (f (get_or xs n d)) ≡ swapped xs (suc n)
  set-suc [] n d lt = absurd (omega (arith, lt))
  set-suc (x ∷ xs) zero d lt = refl
  set-suc (x ∷ xs) (suc n) d lt = ap (λ l. f x ∷ l) (set-suc xs n d (omega (arith, lt)))

  same-suc : (xs : List A) (n : ℕ) (d : A) → n < length xs → g (get_or xs n d) ≡ f (get_or xs n d) → swapped xs n ≡ swapped xs (suc n)
  same-suc [] n d lt e = absurd (omega (arith, lt))
  same-suc (x ∷ xs) zero d lt e = ap (λ y. y ∷ map g xs) e
  same-suc (x ∷ xs) (suc n) d lt e = ap (λ l. f x ∷ l) (same-suc xs n d (omega (arith, lt)) e)

  pub set-swapped : (xs : List A) (n : ℕ) (d : A) → n < length xs → set (swapped xs n) n (f (get_or xs n d)) ≡ swapped xs (n + 1)
  set-swapped xs n d lt = set-suc xs n d lt ∙ ap (swapped xs) (sym (add-one n))

  pub same-swapped : (xs : List A) (n : ℕ) (d : A) → n < length xs → g (get_or xs n d) ≡ f (get_or xs n d) → swapped xs n ≡ swapped xs (n + 1)
  same-swapped xs n d lt e = same-suc xs n d lt e ∙ ap (swapped xs) (sym (add-one n))

  pub all-swapped : (xs : List A) (n : ℕ) → length xs ≤ n → swapped xs n ≡ map f xs
  all-swapped [] zero le = refl
  all-swapped [] (suc n) le = refl
  all-swapped (x ∷ xs) zero le = absurd (omega (arith, le))
  all-swapped (x ∷ xs) (suc n) le = ap (λ l. f x ∷ l) (all-swapped xs n (omega (arith, le)))

-- indexes cut back one after another
module _ (t : TableNo) (n : ℕ) where
  pub cut-long : (xs : List NamedIndex) (bs : List Built) → length (cut_back t n xs bs) ≡ length bs
  unfolding cut_back
  cut-long [] bs = refl
  cut-long (x ∷ xs) [] = refl
  cut-long (x ∷ xs) (b ∷ bs) = ap suc (cut-long xs bs)

  pub cut-at : (xs : List NamedIndex) (bs : List Built) (j : ℕ) (e : Built) → get_or (cut_back t n (take j xs) bs) j e ≡ get_or bs j e
  unfolding cut_back
  cut-at [] bs zero e = refl
  cut-at [] bs (suc j) e = refl
  cut-at (x ∷ xs) bs zero e = refl
  cut-at (x ∷ xs) [] (suc j) e = refl
  cut-at (x ∷ xs) (b ∷ bs) (suc j) e = cut-at xs bs j e

  cut-suc : (xs : List NamedIndex) (bs : List Built) (j : ℕ) (d : NamedIndex) (e : Built) → j < length xs → nat_eq (get_or xs j d).index.table.0 t.0 ≡ true
      → set (cut_back t n (take j xs) bs) j (below n (get_or bs j e)) ≡ cut_back t n (take (suc j) xs) bs
  unfolding cut_back
  cut-suc [] bs j d e lt own = absurd (omega (arith, lt))
  cut-suc (x ∷ xs) [] zero d e lt own = refl
  cut-suc (x ∷ xs) (b ∷ bs) zero d e lt own = sym (ap (λ c. cond c (below n b) b ∷ bs) own)
  cut-suc (x ∷ xs) [] (suc j) d e lt own = refl
  cut-suc (x ∷ xs) (b ∷ bs) (suc j) d e lt own = ap (λ l. cond (nat_eq x.index.table.0 t.0) (below n b) b ∷ l) (cut-suc xs bs j d e (omega (arith, lt)) own)

  left-suc : (xs : List NamedIndex) (bs : List Built) (j : ℕ) (d : NamedIndex) → j < length xs → nat_eq (get_or xs j d).index.table.0 t.0 ≡ false → cut_back t n (take j xs) bs ≡ cut_back t n (take (suc j) xs) bs
  unfolding cut_back
  left-suc [] bs j d lt other = absurd (omega (arith, lt))
  left-suc (x ∷ xs) [] zero d lt other = refl
  left-suc (x ∷ xs) (b ∷ bs) zero d lt other = sym (ap (λ c. cond c (below n b) b ∷ bs) other)
  left-suc (x ∷ xs) [] (suc j) d lt other = refl
  left-suc (x ∷ xs) (b ∷ bs) (suc j) d lt other = ap (λ l. cond (nat_eq x.index.table.0 t.0) (below n b) b ∷ l) (left-suc xs bs j d (omega (arith, lt)) other)

  pub cut-own : (xs : List NamedIndex) (bs : List Built) (j : ℕ) (d : NamedIndex) (e : Built) → j < length xs → (get_or xs j d).index.table.0 ≡ t.0
      → set (cut_back t n (take j xs) bs) j (below n (get_or bs j e)) ≡ cut_back t n (take (j + 1) xs) bs
  cut-own xs bs j d e lt same = cut-suc xs bs j d e lt (eq-eqb (get_or xs j d).index.table.0 t.0 same) ∙ ap (λ k. cut_back t n (take k xs) bs) (sym (add-one j))

  pub cut-other : (xs : List NamedIndex) (bs : List Built) (j : ℕ) (d : NamedIndex) → j < length xs → ((get_or xs j d).index.table.0 ≡ t.0 → ⊥) → cut_back t n (take j xs) bs ≡ cut_back t n (take (j + 1) xs) bs
  cut-other xs bs j d lt other = left-suc xs bs j d lt (ne_eqb (get_or xs j d).index.table.0 t.0 other) ∙ ap (λ k. cut_back t n (take k xs) bs) (sym (add-one j))

  cut-each : (f g : NamedIndex → Built) → ((x : NamedIndex) → nat_eq x.index.table.0 t.0 ≡ true → (below n (f x) ≡ g x) × (below n (g x) ≡ g x)) → ((x : NamedIndex) → nat_eq x.index.table.0 t.0 ≡ false → f x ≡ g x)
      → (x : NamedIndex) (b : Bool) → nat_eq x.index.table.0 t.0 ≡ b → (cond b (below n (f x)) (f x) ≡ g x) × (cond b (below n (g x)) (g x) ≡ g x)
  cut-each f g own other x true is = own x is
  cut-each f g own other x false is = (other x is, refl)

  -- whichever were grown
  pub cut-swapped : (f g : NamedIndex → Built) → ((x : NamedIndex) → nat_eq x.index.table.0 t.0 ≡ true → (below n (f x) ≡ g x) × (below n (g x) ≡ g x)) → ((x : NamedIndex) → nat_eq x.index.table.0 t.0 ≡ false → f x ≡ g x)
      → (xs : List NamedIndex) (k : ℕ) → cut_back t n xs (swapped f g xs k) ≡ map g xs
  unfolding cut_back
  cut-swapped f g own other [] zero = refl
  cut-swapped f g own other [] (suc k) = refl
  cut-swapped f g own other (x ∷ xs) zero = let h = cut-each f g own other x (nat_eq x.index.table.0 t.0) refl in ap₂ (λ b l. b ∷ l) h.1 (cut-swapped f g own other xs zero)
  cut-swapped f g own other (x ∷ xs) (suc k) = let h = cut-each f g own other x (nat_eq x.index.table.0 t.0) refl in ap₂ (λ b l. b ∷ l) h.0 (cut-swapped f g own other xs k)
