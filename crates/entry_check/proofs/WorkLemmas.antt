-- What the joins of two sets have in common, and at entries of these sets.
use Rattle.std.proofs.Common.{◌≡◌, ◌≤◌, ◌&&◌, ◌||◌, ℕ, zero, suc, Bool, true, false, List, [], ◌∷◌, bit_and, set, refl, sym, ◌∙◌, ap₂, arith, subst, subst₂}
use Rattle.std.specs.Prelude.{Option, Some, None, replicate, slice_get}
use Rattle.std.proofs.lemmas.Nat.{and_le_r}
use Rattle.std.proofs.lemmas.Option.{slice_get_within}
use Rattle.pg_base.specs.Sets.{has}
use Rattle.pg_base.proofs.SetLaws.{has-and, same_set}
use Rattle.catalog.specs.Contents.{Contents}
use Rattle.sql_query.specs.Queries.{Query}
use Rattle.pathkeys.specs.Keys.{Keys}
use Rattle.plan_tree.specs.Space.{IsMergeList}
use Rattle.pg_base.proofs.BoolLemmas.{and-within}

-- the members of both, by the sets of the entries
pub both-sets : (u a b x y : ℕ) → a ≡ x → b ≡ y → ((k : ℕ) → has u k ≡ has x k || has y k) → (k : ℕ) → has u k ≡ has a k || has b k
both-sets u a b x y e f h k = h k ∙ ap₂ (λ (m n : ℕ). has m k || has n k) (sym e) (sym f)

-- a list of a merge of two sets
pub list-of : (c : Contents) (q : Query) (keys : Keys) (a b x y : ℕ) → a ≡ x → b ≡ y → IsMergeList c q (has x) (has y) keys → IsMergeList c q (has a) (has b) keys
list-of c q keys a b x y e f h = subst₂ (λ (m n : ℕ). IsMergeList c q (has m) (has n) keys) (sym e) (sym f) h

-- none is worked out in an array of nothing
pub none-given : (count p n : ℕ) → slice_get (replicate count None) p ≡ Some (Some n) → ⊥
none-given zero p n e = let lt = slice_get_within {A = Option ℕ} [] p (Some n) e in absurd (omega (arith, lt))
none-given (suc count) zero n e = inside None (Some n) refl refl e
  where
    inside : (a b : Option ℕ) → a ≡ None → b ≡ Some n → Some a ≡ Some b → ⊥
    inside a b f g h = cc
none-given (suc count) (suc p) n e = none-given count p n e

some-same : (m n : ℕ) → Some (Some m) ≡ Some (Some n) → m ≡ n
some-same m n e = cc

-- one more that is worked out
pub given-more : (xs : List (Option ℕ)) (p m : ℕ) (P : ℕ → ℕ → Type 0) → ((k n : ℕ) → slice_get xs k ≡ Some (Some n) → P k n) → P p m → (k n : ℕ) → slice_get (set xs p (Some m)) k ≡ Some (Some n) → P k n
given-more [] zero m P h here k n e = h k n e
given-more [] (suc p) m P h here k n e = h k n e
given-more (x ∷ xs) zero m P h here zero n e = subst (P zero) (some-same m n e) here
given-more (x ∷ xs) zero m P h here (suc k) n e = h (suc k) n e
given-more (x ∷ xs) (suc p) m P h here zero n e = h zero n e
given-more (x ∷ xs) (suc p) m P h here (suc k) n e = given-more xs p m (λ (j i : ℕ). P (suc j) i) (λ j i. h (suc j) i) here k n e
