-- Properties of each element of a list.
use Rattle.std.proofs.Common.{◌≡◌, ℕ, zero, suc, Bool, true, false, cond, List, [], ◌∷◌, ◌++◌, map, flat_map, filter, refl, subst, arith}
use Rattle.std.specs.Prelude.{take, Contains}
use Rattle.std.specs.List.{AllByRecursion, items_where_true}

module _ {X : Type 0} (P : X → Type 0) where
  pub each_of : ((x : X) → P x) → (xs : List X) → AllByRecursion P xs
  each_of h [] = tt
  each_of h (x ∷ xs) = (h x, each_of h xs)

  pub each_weaker : (Q : X → Type 0) → ((x : X) → P x → Q x) → (xs : List X) → AllByRecursion P xs → AllByRecursion Q xs
  each_weaker Q f [] h = tt
  each_weaker Q f (x ∷ xs) h = (f x h.0, each_weaker Q f xs h.1)

  pub each_joined : (xs ys : List X) → AllByRecursion P xs → AllByRecursion P ys → AllByRecursion P (xs ++ ys)
  each_joined [] ys h g = g
  each_joined (x ∷ xs) ys h g = (h.0, each_joined xs ys h.1 g)

  pub each_snoc : (xs : List X) (y : X) → AllByRecursion P xs → P y → AllByRecursion P (xs ++ y ∷ [])
  each_snoc xs y h p = each_joined xs (y ∷ []) h (p, tt)

  pub each_filter : (test : X → Bool) (xs : List X) → AllByRecursion P xs → AllByRecursion P (filter test xs)
  each_filter test [] h = tt
  each_filter test (x ∷ xs) h = elim (test x) as (λ v. AllByRecursion P (cond v (x ∷ filter test xs) (filter test xs))) [ true ↦ (h.0, each_filter test xs h.1) | false ↦ each_filter test xs h.1 ]

  pub each_taken : (n : ℕ) (xs : List X) → AllByRecursion P xs → AllByRecursion P (take n xs)
  each_taken zero xs h = tt
  each_taken (suc n) [] h = tt
  each_taken (suc n) (x ∷ xs) h = (h.0, each_taken n xs h.1)

  pub each_masked : (mask : List Bool) (xs : List X) → AllByRecursion P xs → AllByRecursion P (items_where_true mask xs)
  each_masked [] xs h = tt
  each_masked (b ∷ bs) [] h = tt
  each_masked (true ∷ bs) (x ∷ xs) h = (h.0, each_masked bs xs h.1)
  each_masked (false ∷ bs) (x ∷ xs) h = each_masked bs xs h.1

  pub each_contained : (xs : List X) (x : X) → AllByRecursion P xs → Contains xs x → P x
  each_contained [] x h c = absurd (omega (arith, c.1))
  each_contained (y ∷ ys) x h (zero, lt, is) = subst P is h.0
  each_contained (y ∷ ys) x h (suc k, lt, is) = each_contained ys x h.1 (k, omega (arith, lt), is)

-- of what is made of the elements
module _ {X Y : Type 0} (P : X → Type 0) (Q : Y → Type 0) where
  pub each_mapped : (f : X → Y) → ((x : X) → P x → Q (f x)) → (xs : List X) → AllByRecursion P xs → AllByRecursion Q (map f xs)
  each_mapped f step [] h = tt
  each_mapped f step (x ∷ xs) h = (step x h.0, each_mapped f step xs h.1)

  pub each_spread : (f : X → List Y) → ((x : X) → P x → AllByRecursion Q (f x)) → (xs : List X) → AllByRecursion P xs → AllByRecursion Q (flat_map f xs)
  each_spread f step [] h = tt
  each_spread f step (x ∷ xs) h = each_joined Q (f x) (flat_map f xs) (step x h.0) (each_spread f step xs h.1)

pub each_made : {X Y : Type 0} (Q : Y → Type 0) (f : X → Y) → ((x : X) → Q (f x)) → (xs : List X) → AllByRecursion Q (map f xs)
each_made Q f h [] = tt
each_made Q f h (x ∷ xs) = (h x, each_made Q f h xs)
