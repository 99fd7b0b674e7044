-- The numbers of plans among those of a list.
use Prim.Native.Nat.{suc, zero}
use Rattle.std.proofs.Common.{◌≡◌, ◌<◌, ◌≤◌, ◌≢◌, inl, inr, ℕ, ◌+◌, true, false, List, [], ◌∷◌, get_or, length, take, sym, ◌∙◌, ap, subst, arith, Bor}
use Rattle.std.specs.Prelude.{Contains, Option, Some, option_and_then, option_map, slice_get}
use Rattle.std.proofs.lemmas.Bool.{cases_lt}
use Rattle.std.proofs.lemmas.Option.{slice_get-get_or, slice_get-map}
use Rattle.pathkeys.specs.Keys.{Keys}
use Rattle.plan_tree.specs.Plans.{Plan, seq, index, index_only, bitmap, sort, nest, merge}
use Rattle.plan_tree.specs.work.Views.{plan}
use Rattle.plan_tree.specs.declared.path.Path.{Path as Costed}
use Rattle.plan_check.specs.Certificates.{plan_at, side_at, sorted_if}
use Rattle.certificate_laws.specs.work.Made.{IsSideAmong}
use Rattle.planned_table.specs.work.Numbering.{present, trees, without_sort}

take-get : (ts : List Plan) (first n : ℕ) (t : Plan) → n < first → slice_get ts n ≡ Some t → slice_get (present (take first ts)) n ≡ Some (Some t)
take-get ts zero n t lt e = absurd (omega (arith, lt))
take-get [] (suc m) n t lt e = cc
take-get (x ∷ xs) (suc m) zero t lt e = ap (option_map (λ (y : Plan). Some y)) e
take-get (x ∷ xs) (suc m) (suc n) t lt e = take-get xs m n t (omega (arith, lt)) e

-- the plan of a number, from 1
pub numbered : (ts : List Plan) (first n : ℕ) (t : Plan) → n < first → slice_get ts n ≡ Some t → plan_at (present (take first ts)) (n + 1) ≡ Some t
numbered ts first n t lt e =
    let next : suc n ≡ n + 1 = omega arith in
    subst (λ (m : ℕ). plan_at (present (take first ts)) m ≡ Some t) next (ap (option_and_then (λ (p : Option Plan). p)) (take-get ts first n t lt e))

-- a plan that is among the first stands at a place before them
pub record StandsAt (ts : List Plan) (first : ℕ) (t : Plan) : Type 0 where
  pub place : ℕ
  pub before : place < first
  pub is : slice_get ts place ≡ Some t

pub stands-at : (ts : List Plan) (first : ℕ) (t : Plan) → Contains (take first ts) t → StandsAt ts first t
stands-at ts zero t h = absurd (let lt = h.1 in omega (arith, lt))
stands-at [] (suc m) t h = absurd (let lt = h.1 in omega (arith, lt))
stands-at (x ∷ xs) (suc m) t (zero, lt, e) = record { place = 0; before = omega arith; is = ap (λ (y : Plan). Some y) e }
stands-at (x ∷ xs) (suc m) t (suc k, lt, e) =
    let r = stands-at xs m t (k, omega (arith, lt), e) in
    let low = r.before in
    record { place = suc r.place; before = omega (arith, low); is = r.is }

-- the plan of a path of a list
pub tree-at : (xs : List (Bor Costed)) (n : ℕ) (x : Bor Costed) → n < length xs → x ≡ get_or xs n x → slice_get (trees xs) n ≡ Some (plan x.now.plan)
tree-at xs n x lt e =
    slice_get-map (λ (y : Bor Costed). plan y.now.plan) xs n ∙ ap (option_map (λ (y : Bor Costed). plan y.now.plan)) (slice_get-get_or xs n x lt ∙ ap (λ (y : Bor Costed). Some y) (sym e))

pub other-tree : (o : Option Plan) (a t : Plan) → o ≡ Some a → ¬ (a ≡ t) → o ≢ Some t
other-tree o a t e differ same = differ (cc)

-- a side of a merge, without its sort
pub side-unsorted : (ts : List Plan) (keys : Keys) (t : Plan) → IsSideAmong ts keys t → Contains ts (without_sort t)
side-unsorted ts keys (seq r) h = h
side-unsorted ts keys (index r i backward p) h = h
side-unsorted ts keys (index_only r i backward p) h = h
side-unsorted ts keys (bitmap r p bits) h = h
side-unsorted ts keys (sort ks input) h = h.1
side-unsorted ts keys (nest outer inner) h = h
side-unsorted ts keys (merge ks outer inner) h = h

-- the side of a sort by the list
pub sorted-side : (plans : List (Option Plan)) (n : ℕ) (input : Plan) (keys ks : Keys) → plan_at plans n ≡ Some input → ks ≡ keys → side_at plans keys (record { sorted = true; entry = n }) ≡ Some (sort ks input)
sorted-side plans n input keys ks e same = ap (option_map (sorted_if true keys)) e ∙ ap (λ (l : Keys). Some (sort l input)) (sym same)

pub plain-side : (plans : List (Option Plan)) (n : ℕ) (t : Plan) (keys : Keys) → plan_at plans n ≡ Some t → side_at plans keys (record { sorted = false; entry = n }) ≡ Some t
plain-side plans n t keys e = ap (option_map (sorted_if false keys)) e

pub none-more : (ts : List Plan) (from n : ℕ) (t : Plan) → ((m : ℕ) → from ≤ m → m < n → slice_get ts m ≢ Some t) → slice_get ts n ≢ Some t → (m : ℕ) → from ≤ m → m < n + 1 → slice_get ts m ≢ Some t
none-more ts from n t before here m le lt = elim (cases_lt m n) [
  | inl low ↦ before m le low
  | inr high ↦ let same : n ≡ m = omega (arith, lt, high) in subst (λ (k : ℕ). slice_get ts k ≢ Some t) same here
]
