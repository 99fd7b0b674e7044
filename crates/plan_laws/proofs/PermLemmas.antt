-- Lists with the same elements, each as often, by steps that a recursion can follow.
use Rattle.std.proofs.Common.{◌≡◌, ℕ, zero, suc, ◌<◌, Bool, true, false, cond, List, [], ◌∷◌, ◌++◌, map, flat_map, filter, length, get_or, set, refl, sym, ap, subst, arith, append_assoc, append-nil}
use Rattle.std.specs.List.Sorted.{IsPermutation}
use Rattle.std.specs.List.{swap}
use Rattle.std.proofs.lemmas.List.Sorted.{IsPermutation-refl, IsPermutation-cons, IsPermutation-trans, IsPermutation-middle, IsPermutation-keeps}

pub data Perm {A : Type 0} : List A → List A → Type 0 where
  none : Perm [] []
  keep : (x : A) (xs ys : List A) → Perm xs ys → Perm (x ∷ xs) (x ∷ ys)
  turn : (x y : A) (xs : List A) → Perm (x ∷ y ∷ xs) (y ∷ x ∷ xs)
  join : (xs ys zs : List A) → Perm xs ys → Perm ys zs → Perm xs zs

pub Perm-refl : {A : Type 0} (xs : List A) → Perm xs xs
Perm-refl [] = none
Perm-refl (x ∷ xs) = keep x xs xs (Perm-refl xs)

pub Perm-sym : {A : Type 0} (xs ys : List A) → Perm xs ys → Perm ys xs
Perm-sym _ _ none = none
Perm-sym _ _ (keep x xs ys p) = keep x ys xs (Perm-sym xs ys p)
Perm-sym _ _ (turn x y xs) = turn y x xs
Perm-sym _ _ (join xs ys zs p q) = join zs ys xs (Perm-sym ys zs q) (Perm-sym xs ys p)

pub Perm-same : {A : Type 0} (xs ys : List A) → xs ≡ ys → Perm xs ys
Perm-same xs ys e = subst (λ l. Perm xs l) e (Perm-refl xs)

pub Perm-append_right : {A : Type 0} (zs xs ys : List A) → Perm xs ys → Perm (zs ++ xs) (zs ++ ys)
Perm-append_right [] xs ys p = p
Perm-append_right (z ∷ zs) xs ys p = keep z (zs ++ xs) (zs ++ ys) (Perm-append_right zs xs ys p)

pub Perm-append_left : {A : Type 0} (zs xs ys : List A) → Perm xs ys → Perm (xs ++ zs) (ys ++ zs)
Perm-append_left zs _ _ none = Perm-refl zs
Perm-append_left zs _ _ (keep x xs ys p) = keep x (xs ++ zs) (ys ++ zs) (Perm-append_left zs xs ys p)
Perm-append_left zs _ _ (turn x y xs) = turn x y (xs ++ zs)
Perm-append_left zs _ _ (join xs ys ws p q) = join (xs ++ zs) (ys ++ zs) (ws ++ zs) (Perm-append_left zs xs ys p) (Perm-append_left zs ys ws q)

pub Perm-append : {A : Type 0} (xs ys us vs : List A) → Perm xs ys → Perm us vs → Perm (xs ++ us) (ys ++ vs)
Perm-append xs ys us vs p q = join (xs ++ us) (ys ++ us) (ys ++ vs) (Perm-append_left us xs ys p) (Perm-append_right ys us vs q)

pub Perm-middle : {A : Type 0} (x : A) (xs ys : List A) → Perm (x ∷ (xs ++ ys)) (xs ++ x ∷ ys)
Perm-middle x [] ys = Perm-refl (x ∷ ys)
Perm-middle x (z ∷ xs) ys = join (x ∷ z ∷ (xs ++ ys)) (z ∷ x ∷ (xs ++ ys)) (z ∷ (xs ++ x ∷ ys)) (turn x z (xs ++ ys)) (keep z (x ∷ (xs ++ ys)) (xs ++ x ∷ ys) (Perm-middle x xs ys))

pub Perm-append_comm : {A : Type 0} (xs ys : List A) → Perm (xs ++ ys) (ys ++ xs)
Perm-append_comm [] ys = Perm-same ys (ys ++ []) (sym (append-nil ys))
Perm-append_comm (x ∷ xs) ys = join (x ∷ (xs ++ ys)) (x ∷ (ys ++ xs)) (ys ++ x ∷ xs) (keep x (xs ++ ys) (ys ++ xs) (Perm-append_comm xs ys)) (Perm-middle x ys xs)

filter_two : {A : Type 0} (p : A → Bool) (x y : A) (xs : List A) → Perm (filter p (x ∷ y ∷ xs)) (filter p (y ∷ x ∷ xs))
filter_two p x y xs = elim (p x) as (λ b. Perm (cond b (x ∷ filter p (y ∷ xs)) (filter p (y ∷ xs))) (cond (p y) (y ∷ (cond b (x ∷ filter p xs) (filter p xs))) (cond b (x ∷ filter p xs) (filter p xs)))) [
  | true ↦ elim (p y) as (λ c. Perm (x ∷ cond c (y ∷ filter p xs) (filter p xs)) (cond c (y ∷ x ∷ filter p xs) (x ∷ filter p xs))) [ true ↦ turn x y (filter p xs) | false ↦ Perm-refl (x ∷ filter p xs) ]
  | false ↦ Perm-refl (filter p (y ∷ xs))
]

filter_one : {A : Type 0} (p : A → Bool) (x : A) (xs ys : List A) → Perm (filter p xs) (filter p ys) → Perm (filter p (x ∷ xs)) (filter p (x ∷ ys))
filter_one p x xs ys h = elim (p x) as (λ b. Perm (cond b (x ∷ filter p xs) (filter p xs)) (cond b (x ∷ filter p ys) (filter p ys))) [ true ↦ keep x (filter p xs) (filter p ys) h | false ↦ h ]

pub Perm-filter : {A : Type 0} (p : A → Bool) (xs ys : List A) → Perm xs ys → Perm (filter p xs) (filter p ys)
Perm-filter p _ _ none = none
Perm-filter p _ _ (keep x xs ys h) = filter_one p x xs ys (Perm-filter p xs ys h)
Perm-filter p _ _ (turn x y xs) = filter_two p x y xs
Perm-filter p _ _ (join xs ys zs g h) = join (filter p xs) (filter p ys) (filter p zs) (Perm-filter p xs ys g) (Perm-filter p ys zs h)

pub Perm-map : {A B : Type 0} (f : A → B) (xs ys : List A) → Perm xs ys → Perm (map f xs) (map f ys)
Perm-map f _ _ none = none
Perm-map f _ _ (keep x xs ys h) = keep (f x) (map f xs) (map f ys) (Perm-map f xs ys h)
Perm-map f _ _ (turn x y xs) = turn (f x) (f y) (map f xs)
Perm-map f _ _ (join xs ys zs g h) = join (map f xs) (map f ys) (map f zs) (Perm-map f xs ys g) (Perm-map f ys zs h)

pub Perm-flat_map : {A B : Type 0} (f : A → List B) (xs ys : List A) → Perm xs ys → Perm (flat_map f xs) (flat_map f ys)
Perm-flat_map f _ _ none = none
Perm-flat_map f _ _ (keep x xs ys h) = Perm-append_right (f x) (flat_map f xs) (flat_map f ys) (Perm-flat_map f xs ys h)
Perm-flat_map f _ _ (turn x y xs) =
    rw (← append_assoc (f x) (f y) (flat_map f xs), ← append_assoc (f y) (f x) (flat_map f xs)) (Perm-append_left (flat_map f xs) (f x ++ f y) (f y ++ f x) (Perm-append_comm (f x) (f y)))
Perm-flat_map f _ _ (join xs ys zs g h) = join (flat_map f xs) (flat_map f ys) (flat_map f zs) (Perm-flat_map f xs ys g) (Perm-flat_map f ys zs h)

pub Perm-flat_map_each : {A B : Type 0} (f g : A → List B) → ((x : A) → Perm (f x) (g x)) → (xs : List A) → Perm (flat_map f xs) (flat_map g xs)
Perm-flat_map_each f g e [] = none
Perm-flat_map_each f g e (x ∷ xs) = Perm-append (f x) (g x) (flat_map f xs) (flat_map g xs) (e x) (Perm-flat_map_each f g e xs)

flat_map_append : {A B : Type 0} (f g : A → List B) (xs : List A) → Perm (flat_map (λ x. f x ++ g x) xs) (flat_map f xs ++ flat_map g xs)
flat_map_append f g [] = none
flat_map_append f g (x ∷ xs) =
    join ((f x ++ g x) ++ flat_map (λ y. f y ++ g y) xs) ((f x ++ g x) ++ (flat_map f xs ++ flat_map g xs)) ((f x ++ flat_map f xs) ++ (g x ++ flat_map g xs))
    (Perm-append_right (f x ++ g x) (flat_map (λ y. f y ++ g y) xs) (flat_map f xs ++ flat_map g xs) (flat_map_append f g xs))
    (rw (append_assoc (f x) (g x) (flat_map f xs ++ flat_map g xs), append_assoc (f x) (flat_map f xs) (g x ++ flat_map g xs), ← append_assoc (g x) (flat_map f xs) (flat_map g xs), ← append_assoc (flat_map f xs) (g x) (flat_map g xs))
    (Perm-append_right (f x) ((g x ++ flat_map f xs) ++ flat_map g xs) ((flat_map f xs ++ g x) ++ flat_map g xs)
    (Perm-append_left (flat_map g xs) (g x ++ flat_map f xs) (flat_map f xs ++ g x) (Perm-append_comm (g x) (flat_map f xs)))))

flat_map_none : {A B : Type 0} (xs : List A) → flat_map {A = B} (λ (x : A). []) xs ≡ []
flat_map_none [] = refl
flat_map_none (x ∷ xs) = flat_map_none xs

pub flat_map_units : {A B : Type 0} (f : A → B) (xs : List A) → flat_map (λ x. f x ∷ []) xs ≡ map f xs
flat_map_units f [] = refl
flat_map_units f (x ∷ xs) = ap (λ l. f x ∷ l) (flat_map_units f xs)

-- the two loops of a double loop may change places
pub Perm-exchange : {A B C : Type 0} (f : A → B → C) (xs : List A) (ys : List B) → Perm (flat_map (λ x. map (f x) ys) xs) (flat_map (λ y. map (λ x. f x y) xs) ys)
Perm-exchange {A} {B} {C} f [] ys = rw (flat_map_none {A = B} {B = C} ys) none
Perm-exchange {A} {B} {C} f (x ∷ xs) ys =
    join (map (f x) ys ++ flat_map (λ z. map (f z) ys) xs) (map (f x) ys ++ flat_map (λ y. map (λ z. f z y) xs) ys) (flat_map (λ y. f x y ∷ map (λ z. f z y) xs) ys)
    (Perm-append_right (map (f x) ys) (flat_map (λ z. map (f z) ys) xs) (flat_map (λ y. map (λ z. f z y) xs) ys) (Perm-exchange f xs ys))
    (rw (← flat_map_units (f x) ys) (Perm-sym (flat_map (λ y. f x y ∷ map (λ z. f z y) xs) ys) (flat_map (λ y. f x y ∷ []) ys ++ flat_map (λ y. map (λ z. f z y) xs) ys) (flat_map_append (λ y. f x y ∷ []) (λ y. map (λ z. f z y) xs) ys)))

-- a permutation is one in std's word
pub to_std : {A : Type 0} (xs ys : List A) → Perm xs ys → IsPermutation xs ys
to_std _ _ none = IsPermutation-refl []
to_std _ _ (keep x xs ys p) = IsPermutation-cons x xs ys (to_std xs ys p)
to_std _ _ (turn x y xs) = IsPermutation-middle (x ∷ []) y xs
to_std _ _ (join xs ys zs p q) = IsPermutation-trans xs ys zs (to_std xs ys p) (to_std ys zs q)

-- an item in front and one at a place may change places
with_set : {A : Type 0} (a : A) (xs : List A) (i : ℕ) (d : A) → i < length xs → Perm (a ∷ xs) (get_or xs i d ∷ set xs i a)
with_set a [] i d lt = absurd (omega arith)
with_set a (x ∷ xs) zero d lt = turn a x xs
with_set a (x ∷ xs) (suc i) d lt =
    let lt' : i < length xs = omega arith in
    join (a ∷ x ∷ xs) (x ∷ a ∷ xs) (get_or xs i d ∷ x ∷ set xs i a) (turn a x xs)
    (join (x ∷ a ∷ xs) (x ∷ get_or xs i d ∷ set xs i a) (get_or xs i d ∷ x ∷ set xs i a) (keep x (a ∷ xs) (get_or xs i d ∷ set xs i a) (with_set a xs i d lt')) (turn x (get_or xs i d) (set xs i a)))

exchanged : {A : Type 0} (xs : List A) (i j : ℕ) (d : A) → i < length xs → j < length xs → Perm xs (set (set xs i (get_or xs j d)) j (get_or xs i d))
exchanged [] i j d a b = none
exchanged (x ∷ xs) zero zero d a b = Perm-refl (x ∷ xs)
exchanged (x ∷ xs) zero (suc j) d a b = with_set x xs j d (omega arith)
exchanged (x ∷ xs) (suc i) zero d a b = with_set x xs i d (omega arith)
exchanged (x ∷ xs) (suc i) (suc j) d a b = keep x xs (set (set xs i (get_or xs j d)) j (get_or xs i d)) (exchanged xs i j d (omega arith) (omega arith))

swapped : {A : Type 0} (xs : List A) (i j : ℕ) → i < length xs → j < length xs → Perm xs (swap xs i j)
swapped [] i j a b = none
swapped (x ∷ xs) i j a b = exchanged (x ∷ xs) i j x a b

pub from_std : {A : Type 0} (xs ys : List A) → IsPermutation xs ys → Perm xs ys
from_std xs ys p = IsPermutation-keeps xs (λ l. Perm xs l) (Perm-refl xs) (λ l i j a b h. join xs l (swap l i j) h (swapped l i j a b)) ys p
