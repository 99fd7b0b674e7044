-- The relations that plans read, as sets.
use Rattle.std.proofs.Common.{◌≡◌, ℕ, true, ◌||◌, refl, ap, ◌-◌, ◌≤◌, bit_and, ◌∙◌, subst}
use Rattle.std.proofs.lemmas.Bool.{eq-eqb}
use Rattle.plan_tree.specs.Plans.{Plan, seq, index, index_only, bitmap, sort, nest, merge, set_of}
use Rattle.eq_classes.specs.Clauses.{Set}
use Rattle.plan_tree.specs.Space.{IsSameSet}
use Rattle.std.proofs.lemmas.Nat.{and_le_r}
use Rattle.pg_base.specs.Sets.{has}
use Rattle.pg_base.proofs.SetLaws.{has-and, same_set}
use Rattle.pg_base.proofs.BoolLemmas.{and-within}

-- a plan reads some relation
pub reads-some : (t : Plan) → (k : ℕ) × (set_of t k ≡ true)
reads-some (seq r) = (r.0, eq-eqb r.0 r.0 refl)
reads-some (index r i backward p) = (r.0, eq-eqb r.0 r.0 refl)
reads-some (index_only r i backward p) = (r.0, eq-eqb r.0 r.0 refl)
reads-some (bitmap r p bits) = (r.0, eq-eqb r.0 r.0 refl)
reads-some (sort keys input) = reads-some input
reads-some (nest outer inner) = let h = reads-some outer in (h.0, ap (λ b. b || set_of inner h.0) h.1)
reads-some (merge keys outer inner) = let h = reads-some outer in (h.0, ap (λ b. b || set_of inner h.0) h.1)

pub sets-same : (a b : Set) → IsSameSet a b → a ≡ b
sets-same a b h = λ i k. h k i

-- the number of a set is no greater than that of one that it is within
pub within-most : (a b : ℕ) → ((k : ℕ) → has a k ≡ true → has b k ≡ true) → a ≤ b
within-most a b h =
    let same : bit_and a b ≡ a = same_set (bit_and a b) a (λ k. has-and a b k ∙ and-within (has a k) (has b k) (h k)) in
    subst (λ n. n ≤ b) same (and_le_r a b)
