-- Numbered conditions by their places.
use Rattle.std.proofs.Common.{◌≡◌, ◌<◌, ◌≤◌, ◌+◌, ℕ, zero, suc, Bool, true, false, cond, ◌&&◌, ◌||◌, nat_eq, nat_lt, List, [], ◌∷◌, length, Option, Some, None, slice_index_or, slice_get, refl, sym, ap, ◌∙◌, subst, arith}
use Rattle.std.proofs.Math.Bool.{or_assoc}
use Rattle.pg_expr.specs.Cond.{Cond}
use Rattle.eq_classes.specs.Clauses.{Clause}
use Rattle.eq_classes.specs.Listing.{clause_at}
use Rattle.eq_classes.proofs.WordLemmas.{grown}
use Rattle.index_match.specs.work.Slots.{chosen_from, placed}

-- there are as many places as clauses
pub chosen_length : (n : ℕ) (chosen : ℕ → Bool) (ks : List Clause) → length (chosen_from n chosen ks) ≡ length ks
chosen_length n chosen [] = refl
chosen_length n chosen (k ∷ ks) = ap suc (chosen_length (n + 1) chosen ks)

chosen_place : (n : ℕ) (chosen : ℕ → Bool) (ks : List Clause) (i : ℕ) (d : Clause) → i < length ks →
    slice_index_or (chosen_from n chosen ks) i None ≡ cond (chosen (n + i)) (Some (slice_index_or ks i d).cond) None
chosen_place n chosen [] i d lt = absurd (omega (arith, lt))
chosen_place n chosen (k ∷ ks) zero d lt = ap (λ (j : ℕ). cond (chosen j) (Some k.cond) None) (omega arith)
chosen_place n chosen (k ∷ ks) (suc i) d lt =
    let same : n + 1 + i ≡ n + suc i = omega arith in
    chosen_place (n + 1) chosen ks i d (omega (arith, lt)) ∙ ap (λ (j : ℕ). cond (chosen j) (Some (slice_index_or ks i d).cond) None) same

-- a place has its clause's condition where the set has its number
pub chosen_at : (chosen : ℕ → Bool) (ks : List Clause) (i : ℕ) (d : Clause) → i < length ks →
    slice_index_or (chosen_from 0 chosen ks) i None ≡ cond (chosen i) (Some (slice_index_or ks i d).cond) None
chosen_at chosen ks i d lt =
    let same : 0 + i ≡ i = omega arith in
    chosen_place 0 chosen ks i d lt ∙ ap (λ (j : ℕ). cond (chosen j) (Some (slice_index_or ks i d).cond) None) same

pub ruleset chosen = (chosen_length, chosen_at)

-- one number more, beside what was there
pub grown_by : (o : Bool) (test : ℕ → Bool) (k n : ℕ) → (o || (nat_lt k n && test k)) || (nat_eq k n && test n) ≡ o || (nat_lt k (n + 1) && test k)
grown_by o test k n = or_assoc o (nat_lt k n && test k) (nat_eq k n && test n) ∙ ap (λ (b : Bool). o || b) (grown test k n)

pub ruleset growing = (grown_by)

module _ (chosen : ℕ → Bool) (ks : List Clause) (i : ℕ) where
  within_clauses : i < length (chosen_from 0 chosen ks) → i < length ks
  within_clauses lt = subst (λ (n : ℕ). i < n) (chosen_length 0 chosen ks) lt

  by_choice : i < length (chosen_from 0 chosen ks) → (b : Bool) → chosen i ≡ b → slice_index_or (chosen_from 0 chosen ks) i None ≡ cond b (Some (clause_at ks i).cond) None
  by_choice lt b is = chosen_at chosen ks i _ (within_clauses lt) ∙ ap (λ (a : Bool). cond a (Some (clause_at ks i).cond) None) is

  pub chosen_some : (e : Cond) → i < length (chosen_from 0 chosen ks) → chosen i ≡ true → e ≡ (clause_at ks i).cond → Some e ≡ slice_index_or (chosen_from 0 chosen ks) i None
  chosen_some e lt is same = ap (λ (x : Cond). Some x) same ∙ sym (by_choice lt true is)

  pub chosen_none : i < length (chosen_from 0 chosen ks) → chosen i ≡ false → None ≡ slice_index_or (chosen_from 0 chosen ks) i None
  chosen_none lt is = sym (by_choice lt false is)

-- a place within a list has an element
pub is_there : {A : Type 0} (xs : List A) (n : ℕ) → n < length xs → slice_get xs n ≡ None → ⊥
is_there [] n lt e = absurd (omega (arith, lt))
is_there (x ∷ xs) zero lt e = absurd (some_none e)
  where
    some_none : {A : Type 0} {y : A} → Some y ≡ None → ⊥
    some_none w = cc
is_there (x ∷ xs) (suc n) lt e = is_there xs n (omega (arith, lt)) e

-- at most as many conditions as places
pub placed_few : (slots : List (Option Cond)) → length (placed slots) ≤ length slots
placed_few [] = omega arith
placed_few (None ∷ slots) = let h = placed_few slots in omega (arith, h)
placed_few (Some e ∷ slots) = let h = placed_few slots in omega (arith, h)
