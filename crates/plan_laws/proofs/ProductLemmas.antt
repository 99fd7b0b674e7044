-- Choices of a row for each relation of a set, as functions: those of two sets that share no relation are those of the one with
-- those of the other.
use Rattle.std.proofs.Common.{◌≡◌, ℕ, zero, suc, ◌<◌, ◌≤◌, true, false, cond, eqb, List, [], ◌∷◌, ◌++◌, map, flat_map, refl, sym, ap, ◌∙◌, subst, arith, append-nil, ⊎_elim}
use mathlib.Core.Path.{fun_ext}
use Rattle.std.proofs.lemmas.List.{map-append}
use Rattle.std.proofs.lemmas.List.Concat.{flat_map-append}
use Rattle.std.proofs.lemmas.Bool.{cases_Bool, ne_eqb, eq-eqb, eqb-true, eqb-false}
use Rattle.std.proofs.lemmas.Simd.{map-map}
use Rattle.plan_laws.proofs.PermLemmas.{Perm, join}
use Rattle.eq_classes.specs.Clauses.{Set, one}
use Rattle.eq_classes.specs.Parts.{union}
use Rattle.eq_classes.specs.Holding.{AreApart}
use Rattle.plan_laws.proofs.PermLemmas.{Perm-refl, Perm-flat_map, Perm-flat_map_each, Perm-exchange}

abbrev pub Choice : Type 0
Choice = ℕ → ℕ

abbrev pub nowhere : Choice
nowhere k = 0

abbrev pub put : ℕ → Choice → ℕ → Choice
put r t n k = cond (eqb k r) n (t k)

-- the rows of the one inside the set, and those of the other elsewhere
abbrev pub both : Set → Choice → Choice → Choice
both set a b k = cond (set k) (a k) (b k)

-- every choice of a row for each relation of the set below n
abbrev pub choices : (ℕ → List ℕ) → Set → ℕ → List Choice
choices rows set zero = nowhere ∷ []
choices rows set (suc k) = cond (set k) (flat_map (λ t. map (put k t) (rows k)) (choices rows set k)) (choices rows set k)

-- lists by loops inside loops
pub flat_map_map : {A B C : Type 0} (f : B → List C) (g : A → B) (xs : List A) → flat_map f (map g xs) ≡ flat_map (λ x. f (g x)) xs
flat_map_map f g [] = refl
flat_map_map f g (x ∷ xs) = ap (λ l. f (g x) ++ l) (flat_map_map f g xs)

pub flat_map_flat_map : {A B C : Type 0} (f : B → List C) (g : A → List B) (xs : List A) → flat_map f (flat_map g xs) ≡ flat_map (λ x. flat_map f (g x)) xs
flat_map_flat_map f g [] = refl
flat_map_flat_map f g (x ∷ xs) = flat_map-append f (g x) (flat_map g xs) ∙ ap (λ l. flat_map f (g x) ++ l) (flat_map_flat_map f g xs)

pub map_flat_map : {A B C : Type 0} (f : B → C) (g : A → List B) (xs : List A) → map f (flat_map g xs) ≡ flat_map (λ x. map f (g x)) xs
map_flat_map f g [] = refl
map_flat_map f g (x ∷ xs) = map-append f (g x) (flat_map g xs) ∙ ap (λ l. map f (g x) ++ l) (map_flat_map f g xs)

-- a row of the left side, or of the right side
put_left : (set : Set) (k n : ℕ) (a b : Choice) → set k ≡ true → put k (both set a b) n ≡ both set (put k a n) b
put_left set k n a b is = fun_ext (λ j. ⊎_elim
    (λ (h : eqb j k ≡ true). let e : j ≡ k = eqb-true j k h in let at : set j ≡ true = ap set e ∙ is in rw (h, at) refl)
    (λ (h : eqb j k ≡ false). rw h refl)
    (cases_Bool (eqb j k)))

put_right : (set : Set) (k n : ℕ) (a b : Choice) → set k ≡ false → put k (both set a b) n ≡ both set a (put k b n)
put_right set k n a b is = fun_ext (λ j. ⊎_elim
    (λ (h : eqb j k ≡ true). let e : j ≡ k = eqb-true j k h in let at : set j ≡ false = ap set e ∙ is in rw (h, at) refl)
    (λ (h : eqb j k ≡ false). rw h refl)
    (cases_Bool (eqb j k)))

both_nowhere : (set : Set) → both set nowhere nowhere ≡ nowhere
both_nowhere set = fun_ext (λ j. elim (set j) as (λ v. ◌≡◌ {A = ℕ} (cond v 0 0) 0) [ true ↦ refl | false ↦ refl ])

pub choices_with : (rows : ℕ → List ℕ) (set : Set) (k : ℕ) → set k ≡ true → choices rows set (suc k) ≡ flat_map (λ t. map (put k t) (rows k)) (choices rows set k)
choices_with rows set k is = rw is refl

pub choices_without : (rows : ℕ → List ℕ) (set : Set) (k : ℕ) → set k ≡ false → choices rows set (suc k) ≡ choices rows set k
choices_without rows set k is = rw is refl

-- each tuple of the one list with each of the other
abbrev pub crossed : Set → List Choice → List Choice → List Choice
crossed a xs ys = flat_map (λ s. map (both a s) ys) xs

abbrev grown : (ℕ → List ℕ) → ℕ → List Choice → List Choice
grown rows k ts = flat_map (λ t. map (put k t) (rows k)) ts

-- a relation more in the left side, or in the right side
grow_left : (rows : ℕ → List ℕ) (a : Set) (k : ℕ) → a k ≡ true → (xs ys : List Choice) → Perm (grown rows k (crossed a xs ys)) (crossed a (grown rows k xs) ys)
grow_left rows a k is xs ys =
    rw (flat_map_flat_map (λ t. map (put k t) (rows k)) (λ s. map (both a s) ys) xs, flat_map_flat_map (λ s. map (both a s) ys) (λ t. map (put k t) (rows k)) xs)
    (Perm-flat_map_each (λ s. flat_map (λ t. map (put k t) (rows k)) (map (both a s) ys)) (λ s. flat_map (λ t. map (both a t) ys) (map (put k s) (rows k)))
    (λ s. rw (flat_map_map (λ t. map (put k t) (rows k)) (both a s) ys, flat_map_map (λ t. map (both a t) ys) (put k s) (rows k))
    (subst (λ (f : Choice → ℕ → Choice). Perm (flat_map (λ u. map (f u) (rows k)) ys) (flat_map (λ n. map (both a (put k s n)) ys) (rows k)))
    (fun_ext (λ u. fun_ext (λ n. sym (put_left a k n s u is))))
    (Perm-exchange (λ u n. both a (put k s n) u) ys (rows k))))
    xs)

grow_right : (rows : ℕ → List ℕ) (a : Set) (k : ℕ) → a k ≡ false → (xs ys : List Choice) → grown rows k (crossed a xs ys) ≡ crossed a xs (grown rows k ys)
grow_right rows a k is xs ys =
    flat_map_flat_map (λ t. map (put k t) (rows k)) (λ s. map (both a s) ys) xs
    ∙ ap (λ (f : Choice → List Choice). flat_map f xs) (fun_ext (λ s.
    flat_map_map (λ t. map (put k t) (rows k)) (both a s) ys
    ∙ ap (λ (f : Choice → List Choice). flat_map f ys) (fun_ext (λ u.
    ap (λ (f : ℕ → Choice). map f (rows k)) (fun_ext (λ n. put_right a k n s u is))
    ∙ sym (map-map (both a s) (put k u) (rows k))))
    ∙ sym (map_flat_map (both a s) (λ u. map (put k u) (rows k)) ys)))

module _ (rows : ℕ → List ℕ) (a b : Set) (apart : AreApart a b) where
  step_left : (k : ℕ) → a k ≡ true → Perm (choices rows (union a b) k) (crossed a (choices rows a k) (choices rows b k)) → Perm (choices rows (union a b) (suc k)) (crossed a (choices rows a (suc k)) (choices rows b (suc k)))
  step_left k is h =
      let either : union a b k ≡ true = rw is refl in
      rw (choices_with rows (union a b) k either, choices_with rows a k is, choices_without rows b k (apart k is))
      (join (grown rows k (choices rows (union a b) k)) (grown rows k (crossed a (choices rows a k) (choices rows b k))) (crossed a (grown rows k (choices rows a k)) (choices rows b k))
      (Perm-flat_map (λ t. map (put k t) (rows k)) (choices rows (union a b) k) (crossed a (choices rows a k) (choices rows b k)) h)
      (grow_left rows a k is (choices rows a k) (choices rows b k)))

  step_right : (k : ℕ) → a k ≡ false → b k ≡ true → Perm (choices rows (union a b) k) (crossed a (choices rows a k) (choices rows b k)) → Perm (choices rows (union a b) (suc k)) (crossed a (choices rows a (suc k)) (choices rows b (suc k)))
  step_right k is_not is h =
      let either : union a b k ≡ true = rw (is_not, is) refl in
      rw (choices_with rows (union a b) k either, choices_without rows a k is_not, choices_with rows b k is, ← grow_right rows a k is_not (choices rows a k) (choices rows b k))
      (Perm-flat_map (λ t. map (put k t) (rows k)) (choices rows (union a b) k) (crossed a (choices rows a k) (choices rows b k)) h)

  step_none : (k : ℕ) → a k ≡ false → b k ≡ false → Perm (choices rows (union a b) k) (crossed a (choices rows a k) (choices rows b k)) → Perm (choices rows (union a b) (suc k)) (crossed a (choices rows a (suc k)) (choices rows b (suc k)))
  step_none k is_not nor h =
      let neither : union a b k ≡ false = rw (is_not, nor) refl in
      rw (choices_without rows (union a b) k neither, choices_without rows a k is_not, choices_without rows b k nor) h

  pub choices_splits : (n : ℕ) → Perm (choices rows (union a b) n) (crossed a (choices rows a n) (choices rows b n))
  choices_splits zero = rw (both_nowhere a) (Perm-refl (nowhere ∷ []))
  choices_splits (suc k) = ⊎_elim
      (λ is. step_left k is (choices_splits k))
      (λ is_not. ⊎_elim (λ is. step_right k is_not is (choices_splits k)) (λ nor. step_none k is_not nor (choices_splits k)) (cases_Bool (b k)))
      (cases_Bool (a k))

-- the product of one relation is its rows
choices_none : (rows : ℕ → List ℕ) (r k : ℕ) → k ≤ r → choices rows (one r) k ≡ nowhere ∷ []
choices_none rows r zero le = refl
choices_none rows r (suc k) le = choices_without rows (one r) k (ne_eqb k r (λ e. absurd (omega arith))) ∙ choices_none rows r k (omega arith)

pub choices_one : (rows : ℕ → List ℕ) (r n : ℕ) → r < n → choices rows (one r) n ≡ map (put r nowhere) (rows r)
choices_one rows r zero lt = absurd (omega arith)
choices_one rows r (suc k) lt = ⊎_elim
    (λ (h : eqb k r ≡ true). let e : k ≡ r = eqb-true k r h in
    subst (λ (m : ℕ). choices rows (one m) (suc k) ≡ map (put m nowhere) (rows m)) e
    (choices_with rows (one k) k (eq-eqb k k refl) ∙ ap (λ (l : List Choice). flat_map (λ t. map (put k t) (rows k)) l) (choices_none rows k k (omega arith)) ∙ append-nil (map (put k nowhere) (rows k))))
    (λ (h : eqb k r ≡ false). let ne : k ≡ r → ⊥ = eqb-false k r h in choices_without rows (one r) k h ∙ choices_one rows r k (omega arith))
    (cases_Bool (eqb k r))
