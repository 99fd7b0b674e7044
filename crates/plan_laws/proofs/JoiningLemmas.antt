-- The numbers of the classes that join two sets are numbers of classes.
use Rattle.std.proofs.Common.{◌≡◌, ℕ, zero, suc, ◌+◌, ◌<◌, Bool, true, false, cond, ◌||◌, nat_eq, List, [], ◌∷◌, length, take, All, refl, sym, ap, arith, inl, inr, ⊎_elim}
use Rattle.std.specs.Prelude.{slice_index_or}
use Rattle.std.specs.List.{list_all, list_any}
use Rattle.std.proofs.lemmas.Bool.{and_parts, eqb-true, or_cases, or_right, true≢false}
use Rattle.eq_classes.specs.Classes.{Class}
use Rattle.eq_classes.specs.Clauses.{Set}
use Rattle.eq_classes.specs.Listing.{blank}
use Rattle.eq_classes.specs.Parts.{is_joining, joining_from}
use Rattle.eq_classes.proofs.ListLemmas.{IsIn, all_from}
use Rattle.pg_base.proofs.ListLemmas.{any-taken as any_taken}

-- the class of a number in a list of joining ones
pub joining_at : (a b : Set) (m : ℕ) (cs : List Class) (n : ℕ) → list_any (nat_eq n) (joining_from a b m cs) ≡ true → (k : ℕ) × (n ≡ m + k) × (k < length cs) × (is_joining a b (slice_index_or cs k blank) ≡ true)
joining_at a b m [] n h = absurd (true≢false (sym h))
joining_at a b m (c ∷ cs) n h = by (joining_at a b (suc m) cs n) (is_joining a b c) refl h
  where
    shift : (k : ℕ) × (n ≡ suc m + k) × (k < length cs) × (is_joining a b (slice_index_or cs k blank) ≡ true) → (k : ℕ) × (n ≡ m + k) × (k < length (c ∷ cs)) × (is_joining a b (slice_index_or (c ∷ cs) k blank) ≡ true)
    shift f = (suc f.0, omega (arith, f.1), omega (arith, f.2), f.3)

    by : (list_any (nat_eq n) (joining_from a b (suc m) cs) ≡ true → (k : ℕ) × (n ≡ suc m + k) × (k < length cs) × (is_joining a b (slice_index_or cs k blank) ≡ true))
        → (v : Bool) → is_joining a b c ≡ v → list_any (nat_eq n) (cond v (m ∷ joining_from a b (suc m) cs) (joining_from a b (suc m) cs)) ≡ true
        → (k : ℕ) × (n ≡ m + k) × (k < length (c ∷ cs)) × (is_joining a b (slice_index_or (c ∷ cs) k blank) ≡ true)
    by later true e h = ⊎_elim
        (λ (here : nat_eq n m ≡ true). let same : n ≡ m = eqb-true n m here in (0, omega arith, omega arith, e))
        (λ (more : list_any (nat_eq n) (joining_from a b (suc m) cs) ≡ true). shift (later more))
        (or_cases (nat_eq n m) (list_any (nat_eq n) (joining_from a b (suc m) cs)) h)
    by later false e h = shift (later h)

module _ (a b : Set) (cs : List Class) where
  abbrev joins : ℕ → Bool
  joins n = list_any (nat_eq n) (take 4 (joining_from a b 0 cs))

  -- each number of a list of joining classes is that of a class
  pub joining_classes : (keys : List ℕ) → list_all joins keys ≡ true → All (λ n. n < length cs) keys
  joining_classes keys h = all_from (λ n. n < length cs) keys (each keys h)
    where
      each : (ks : List ℕ) → list_all joins ks ≡ true → (n : ℕ) → IsIn n ks → n < length cs
      each [] h n i = absurd i
      each (k ∷ ks) h n (inl same) =
          let at = joining_at a b 0 cs k (any_taken (nat_eq k) 4 (joining_from a b 0 cs) (and_parts (joins k) (list_all joins ks) h).0) in
          omega (arith, at.1, at.2, same)
      each (k ∷ ks) h n (inr later) = each ks (and_parts (joins k) (list_all joins ks) h).1 n later
