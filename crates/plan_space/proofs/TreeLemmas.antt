-- Bitmap trees judged: elements found among others, arms matched, and trees in the order of the elements.
use Prim.Native.Nat.{suc, zero}
use Rattle.std.proofs.Common.{◌≡◌, ◌<◌, ◌≤◌, ◌+◌, ℕ, Bool, true, false, ◌&&◌, nat_lt, List, [], ◌∷◌, length, map, take, drop, refl, sym, ap, ap₂, ◌∙◌, subst, subst₂, arith, get_or, ◌↔◌, ◌⊎◌, inl, inr}
use Rattle.std.specs.Prelude.{Contains, Option, Some}
use Rattle.std.specs.List.{AllZip, items_where_true}
use Rattle.std.proofs.Math.ListN.{drop_of_length-le}
use Rattle.std.proofs.lemmas.Bool.{cases_lt}
use Rattle.std.proofs.lemmas.Grind.{common_steps}
use Rattle.std.proofs.lemmas.List.{drop_more, length-map}
use Rattle.catalog.specs.Contents.{Contents}
use Rattle.eq_classes.specs.Clauses.{Clause, Set}
use Rattle.path_cost.specs.Estimates.{conditions_from}
use Rattle.sql_query.specs.Queries.{Query}
use Rattle.plan_tree.specs.Bitmaps.{Element, ArePicked, none_left, picked, passed, MOST_ELEMENTS, IsBitTree, IsElement, IsTreeOver, candidates, HasArms, HaveArms, element_of, elements_of}
use Rattle.plan_space.specs.work.Ordered.{AreInOrder}
use Rattle.plan_tree.specs.Plans.{BitTree, BitTrees}
use Rattle.plan_tree.specs.work.Views.{trees_of}
use Rattle.plan_tree.specs.Space.{IsSameSet, others_named}
use Rattle.plan_tree.proofs.PricingLemmas.{picked-below}

pub map-at : {A B : Type 0} (f : A → B) (xs : List A) (k : ℕ) (d : A) (e : B) → k < length xs → get_or (map f xs) k e ≡ f (get_or xs k d)
map-at f [] k d e lt = elim lt [ ]
map-at f (x ∷ xs) zero d e lt = refl
map-at f (x ∷ xs) (suc k) d e lt = map-at f xs k d e (omega (arith, lt))

pub contained-at : {A B : Type 0} (f : A → B) (xs : List A) (k : ℕ) (d : A) (e : B) → k < length xs → f (get_or xs k d) ≡ e → Contains (map f xs) e
contained-at f xs k d e lt same = (k, subst (λ n. k < n) (sym (length-map xs f)) lt, map-at f xs k d e lt ∙ same)

-- none of the first so many is the one sought
pub one-less : {A B : Type 0} (f : A → B) (xs : List A) (n : ℕ) (d : A) (e : B) → n < length xs → ¬ (f (get_or xs n d) ≡ e) → ((k : ℕ) → k < n → ¬ (get_or (map f xs) k e ≡ e)) → (k : ℕ) → k < n + 1 → ¬ (get_or (map f xs) k e ≡ e)
one-less f xs n d e lt fails before k below at = by (split k n below)
  where
    split : (a b : ℕ) → a < b + 1 → (a < b) ⊎ (a ≡ b)
    split a b h = grind (arith, common_steps, h)

    by : (k < n) ⊎ (k ≡ n) → ⊥
    by (inl less) = before k less at
    by (inr same) = fails (sym (map-at f xs n d e lt) ∙ ap (λ m. get_or (map f xs) m e) (sym same) ∙ at)

pub none-contained : {A B : Type 0} (f : A → B) (xs : List A) (n : ℕ) (e : B) → length xs ≤ n → ((k : ℕ) → k < n → ¬ (get_or (map f xs) k e ≡ e)) → ¬ Contains (map f xs) e
none-contained f xs n e le before h = before h.0 (let long : length (map f xs) ≡ length xs = length-map xs f in let lt : h.0 < length (map f xs) = h.1 in omega (arith, long, lt, le)) h.2

module _ {A B C : Type 0} (R : B → C → Type 0) (f : A → B) where
  pub zip-more : (xs : List A) (ys : List C) (n : ℕ) (d : A) (e : C) → n < length xs → n < length ys → R (f (get_or xs n d)) (get_or ys n e) → AllZip R (map f (drop (n + 1) xs)) (drop (n + 1) ys) → AllZip R (map f (drop n xs)) (drop n ys)
  zip-more xs ys n d e lx ly h rest = subst₂ (λ us vs. AllZip R (map f us) vs) (sym (drop_more xs n d lx)) (sym (drop_more ys n e ly)) (h, rest)

  pub zip-end : (xs : List A) (ys : List C) (n : ℕ) → length ys ≡ length xs → length xs ≤ n → AllZip R (map f (drop n xs)) (drop n ys)
  zip-end xs ys n long le = subst₂ (λ us vs. AllZip R (map f us) vs) (sym (drop_of_length-le xs le)) (sym (drop_of_length-le ys (omega (arith, long, le)))) tt

-- what is picked is one list
pub picked-once : {X : Type 0} (P : X → Type 0) (xs ys zs : List X) → ArePicked P xs ys → ArePicked P xs zs → ys ≡ zs
picked-once P _ _ _ none_left none_left = refl
picked-once P _ _ _ (picked x xs ys is p) (picked _ _ zs _ r) = ap (λ vs. x ∷ vs) (picked-once P xs ys zs p r)
picked-once P _ _ _ (picked x xs ys is p) (passed _ _ zs fails r) = absurd (fails is)
picked-once P _ _ _ (passed x xs ys fails p) (picked _ _ zs is r) = absurd (fails is)
picked-once P _ _ _ (passed x xs ys fails p) (passed _ _ zs _ r) = picked-once P xs ys zs p r

-- a tree over the first elements that are found is a bitmap tree
pub over-found : (c : Contents) (q : Query) (r : ℕ) (p : Set) (b : BitTree) (kept : List Element) → ((es : List Element) × ArePicked (IsElement c q r p) (candidates c q r p) es × (kept ≡ take MOST_ELEMENTS es)) → IsTreeOver c q r p kept b ↔ IsBitTree c q r p b
over-found c q r p b kept found = (
  λ over. record { elements = found.0; are = found.1; over = subst (λ es. IsTreeOver c q r p es b) found.2 over },
  λ h. subst (λ es. IsTreeOver c q r p es b) (ap (take MOST_ELEMENTS) (picked-once (IsElement c q r p) (candidates c q r p) h.elements found.0 h.are found.1) ∙ sym found.2) h.over,
)

module _ {X : Type 0} where
  none-in-order : (os : List (Option X)) → AreInOrder os [] → os ≡ []
  none-in-order os h = h.1 ∙ ap (map Some) (by h.0 [] refl)
    where
      by : (mask : List Bool) (xs : List X) → xs ≡ [] → items_where_true mask xs ≡ []
      by [] xs e = refl
      by (b ∷ bs) [] e = refl
      by (b ∷ bs) (x ∷ xs) e = cc

  in-order-later : (os : List (Option X)) (x : X) (xs : List X) → AreInOrder os xs → AreInOrder os (x ∷ xs)
  in-order-later os x xs h = (false ∷ h.0, h.1)

  in-order-here : (o : Option X) (os : List (Option X)) (x : X) (xs : List X) → o ≡ Some x → AreInOrder os xs → AreInOrder (o ∷ os) (x ∷ xs)
  in-order-here o os x xs e h = (true ∷ h.0, ap₂ (λ a b. a ∷ b) e h.1)

  in-order-tail : (o : Option X) (os : List (Option X)) (xs : List X) → AreInOrder (o ∷ os) xs → AreInOrder os xs
  in-order-tail o os [] h = let wrong : o ∷ os ≡ [] = none-in-order (o ∷ os) h in cc
  in-order-tail o os (x ∷ xs) h = by (in-order-tail o os xs) h.0 h.1
    where
      by : (AreInOrder (o ∷ os) xs → AreInOrder os xs) → (mask : List Bool) → o ∷ os ≡ map Some (items_where_true mask (x ∷ xs)) → AreInOrder os (x ∷ xs)
      by rest [] e = cc
      by rest (true ∷ bs) e = (false ∷ bs, cc)
      by rest (false ∷ bs) e = in-order-later os x xs (rest (bs, e))

  -- a first thing that is the first of the list may stand for it
  pub takes-first : (o : Option X) (os : List (Option X)) (x : X) (xs : List X) → o ≡ Some x → AreInOrder (o ∷ os) (x ∷ xs) ↔ AreInOrder os xs
  takes-first o os x xs e = (there, in-order-here o os x xs e)
    where
      by : (mask : List Bool) → o ∷ os ≡ map Some (items_where_true mask (x ∷ xs)) → AreInOrder os xs
      by [] f = cc
      by (true ∷ bs) f = (bs, cc)
      by (false ∷ bs) f = in-order-tail o os xs (bs, f)

      there : AreInOrder (o ∷ os) (x ∷ xs) → AreInOrder os xs
      there h = by h.0 h.1

  -- a first thing that is not the first of the list leaves the list to those behind it
  pub passes-first : (o : Option X) (os : List (Option X)) (x : X) (xs : List X) → ¬ (o ≡ Some x) → AreInOrder (o ∷ os) (x ∷ xs) ↔ AreInOrder (o ∷ os) xs
  passes-first o os x xs fails = (there, in-order-later (o ∷ os) x xs)
    where
      by : (mask : List Bool) → o ∷ os ≡ map Some (items_where_true mask (x ∷ xs)) → AreInOrder (o ∷ os) xs
      by [] f = cc
      by (true ∷ bs) f = absurd (fails (cc))
      by (false ∷ bs) f = (bs, f)

      there : AreInOrder (o ∷ os) (x ∷ xs) → AreInOrder (o ∷ os) xs
      there h = by h.0 h.1

  pub none-are : (xs : List X) → AreInOrder [] xs
  none-are xs = ([], refl)

  pub some-are-not : (o : Option X) (os : List (Option X)) → ¬ AreInOrder (o ∷ os) []
  some-are-not o os h = let wrong : o ∷ os ≡ [] = none-in-order (o ∷ os) h in cc

module _ (c : Contents) (q : Query) (r : ℕ) (p : Set) {A : Type 0} (f : A → BitTree) where
  abbrev pub all-of : List A → BitTrees
  all-of xs = trees_of (map f xs)

  pub have-at : (xs : List A) (n : ℕ) (d : A) → HaveArms c q r p (all-of xs) → n < length xs → HasArms c q r p (f (get_or xs n d))
  have-at [] n d h lt = elim lt [ ]
  have-at (x ∷ xs) zero d h lt = h.0
  have-at (x ∷ xs) (suc n) d h lt = have-at xs n d h.1 (omega (arith, lt))

  pub have-more : (xs : List A) (n : ℕ) (d : A) → n < length xs → HasArms c q r p (f (get_or xs n d)) → (HaveArms c q r p (all-of (drop n xs)) → HaveArms c q r p (all-of xs)) → HaveArms c q r p (all-of (drop (n + 1) xs)) → HaveArms c q r p (all-of xs)
  have-more xs n d lt h back rest = back (subst (λ ys. HaveArms c q r p (all-of ys)) (sym (drop_more xs n d lt)) (h, rest))

  pub have-all : (xs : List A) (n : ℕ) → length xs ≤ n → (HaveArms c q r p (all-of (drop n xs)) → HaveArms c q r p (all-of xs)) → HaveArms c q r p (all-of xs)
  have-all xs n le back = back (subst (λ ys. HaveArms c q r p (all-of ys)) (sym (drop_of_length-le xs le)) tt)

  -- the elements of the trees from a place on
  abbrev pub from-place : List A → ℕ → List (Option Element)
  from-place xs n = elements_of c q r p (all-of (drop n xs))

  pub next-taken : (xs : List A) (n : ℕ) (d : A) (e : Element) (later : List Element) → n < length xs → element_of c q r p (f (get_or xs n d)) ≡ Some e → AreInOrder (from-place xs n) (e ∷ later) ↔ AreInOrder (from-place xs (n + 1)) later
  next-taken xs n d e later lt is = subst (λ ys. AreInOrder (elements_of c q r p (all-of ys)) (e ∷ later) ↔ AreInOrder (from-place xs (n + 1)) later) (sym (drop_more xs n d lt)) (takes-first (element_of c q r p (f (get_or xs n d))) (from-place xs (n + 1)) e later is)

  pub next-passed : (xs : List A) (n : ℕ) (d : A) (e : Element) (later : List Element) → n < length xs → ¬ (element_of c q r p (f (get_or xs n d)) ≡ Some e) → AreInOrder (from-place xs n) (e ∷ later) ↔ AreInOrder (from-place xs n) later
  next-passed xs n d e later lt fails =
      subst (λ ys. AreInOrder (elements_of c q r p (all-of ys)) (e ∷ later) ↔ AreInOrder (elements_of c q r p (all-of ys)) later) (sym (drop_more xs n d lt)) (passes-first (element_of c q r p (f (get_or xs n d))) (from-place xs (n + 1)) e later fails)

  pub next-past : (xs : List A) (n : ℕ) (e : Element) (later : List Element) → length xs ≤ n → AreInOrder (from-place xs n) (e ∷ later) ↔ AreInOrder (from-place xs n) later
  next-past xs n e later le =
      subst (λ ys. AreInOrder (elements_of c q r p (all-of ys)) (e ∷ later) ↔ AreInOrder (elements_of c q r p (all-of ys)) later) (sym (drop_of_length-le xs le)) (λ h. none-are later, λ h. none-are (e ∷ later))

  pub order-done : (xs : List A) (n : ℕ) → n ≤ length xs → AreInOrder (from-place xs n) [] ↔ (n ≡ length xs)
  order-done xs n le = by (cases_lt n (length xs))
    where
      more : (ys : List A) (m : ℕ) → m < length ys → ¬ AreInOrder (from-place ys m) []
      more [] m lt h = elim lt [ ]
      more (y ∷ ys) m lt h = some-are-not (element_of c q r p (f (get_or (y ∷ ys) m y))) (from-place (y ∷ ys) (m + 1)) (subst (λ zs. AreInOrder (elements_of c q r p (all-of zs)) []) (drop_more (y ∷ ys) m y lt) h)

      less : (a b : ℕ) → a < b → a ≡ b → ⊥
      less a b l e = omega (arith, l, e)

      by : (n < length xs) ⊎ (length xs ≤ n) → AreInOrder (from-place xs n) [] ↔ (n ≡ length xs)
      by (inr ge) = (λ h. omega (arith, le, ge), λ h. subst (λ ys. AreInOrder (elements_of c q r p (all-of ys)) []) (sym (drop_of_length-le xs ge)) (none-are []))
      by (inl lt) = (λ h. absurd (more xs n lt h), λ e. absurd (less n (length xs) lt e))

  -- one element after the other
  pub order-more : {B : Type 0} (g : B → Element) (xs : List A) (es : List B) (k : ℕ) (d : B) (n m : ℕ) (whole : Type 0) → k < length es →
      (whole ↔ AreInOrder (from-place xs n) (map g (drop k es))) → (AreInOrder (from-place xs n) (g (get_or es k d) ∷ map g (drop (k + 1) es)) ↔ AreInOrder (from-place xs m) (map g (drop (k + 1) es))) →
      whole ↔ AreInOrder (from-place xs m) (map g (drop (k + 1) es))
  order-more g xs es k d n m whole lt h step = (
    λ w. step.0 (subst (λ ys. AreInOrder (from-place xs n) (map g ys)) (drop_more es k d lt) (h.0 w)),
    λ a. h.1 (subst (λ ys. AreInOrder (from-place xs n) (map g ys)) (sym (drop_more es k d lt)) (step.1 a)),
  )

  pub order-end : {B : Type 0} (g : B → Element) (xs : List A) (es : List B) (k n : ℕ) (whole : Type 0) → length es ≤ k → n ≤ length xs → (whole ↔ AreInOrder (from-place xs n) (map g (drop k es))) → whole ↔ (n ≡ length xs)
  order-end g xs es k n whole le within h =
      let end = subst (λ ys. whole ↔ AreInOrder (from-place xs n) (map g ys)) (drop_of_length-le es le) h in
      (λ w. (order-done xs n within).0 (end.0 w), λ e. end.1 ((order-done xs n within).1 e))

-- the set of the clauses that are found to be used names what those used name
pub used-named : (clauses : List Clause) (chosen used : ℕ → Bool) (r : ℕ) → ((k : ℕ) → chosen k ≡ nat_lt k (length clauses) && used k) → IsSameSet (others_named r (conditions_from 0 chosen clauses)) (others_named r (conditions_from 0 used clauses))
used-named clauses chosen used r same k = ap (λ es. others_named r es k) conditions
  where
    conditions : conditions_from 0 chosen clauses ≡ conditions_from 0 used clauses
    conditions = (λ z. conditions_from 0 (λ n. same n z) clauses) ∙ picked-below used 0 (length clauses) (map (λ (x : Clause). x.cond) clauses) (let long : length (map (λ (x : Clause). x.cond) clauses) ≡ length clauses = length-map clauses (λ (x : Clause). x.cond) in omega (arith, long))

-- there are as many elements as trees
pub elements-long : (c : Contents) (q : Query) (r : ℕ) (p : Set) {A : Type 0} (f : A → BitTree) (xs : List A) → length (elements_of c q r p (trees_of (map f xs))) ≡ length xs
elements-long c q r p f [] = refl
elements-long c q r p f (x ∷ xs) = ap suc (elements-long c q r p f xs)
