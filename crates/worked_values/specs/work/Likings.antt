-- Two queries of the tests: each is cheaper where one candidate is there.
use Rattle.std.specs.Prelude.{◌≡◌, ℕ, Bool, true, false, cond, nat_eq, bit_and, Option, Some}
use Rattle.std.proofs.Common.{refl, sym, ap, ◌∙◌, subst, true≢false}
use Rattle.std.proofs.lemmas.Nat.{and_assoc}
use Rattle.std.specs.Int.Bits.{and_self}
use Rattle.pg_base.specs.Sets.{has}
use Rattle.pg_base.proofs.SetLaws.{same_set}
use Rattle.advisor.specs.work.Choices.{IsPart}

-- the candidate that concerns a query, as a set: the first one query 0, the second query 1
abbrev pub concern : ℕ → ℕ
concern q = cond (nat_eq q 0) 1 2

-- what a query costs with a set: 3 with its candidate, else 5
abbrev pub liked : ℕ → ℕ → ℕ
liked q s = cond (nat_eq (bit_and s (concern q)) 0) 5 3

-- with each set a query has a plan, of this price
abbrev pub IsLiked : ℕ → ℕ → Option ℕ → Type 0
IsLiked q s o = o ≡ Some (liked q s)

-- a query has one price with a set, as is asked of all that tells prices
pub liked-unique : (q s : ℕ) (a b : Option ℕ) → IsLiked q s a → IsLiked q s b → a ≡ b
liked-unique q s a b e f = e ∙ sym f

-- of a set only the members that concern a query change its price
pub liked-depends : (q s : ℕ) (o : Option ℕ) → IsLiked q (bit_and s (concern q)) o → IsLiked q s o
liked-depends q s o e = e ∙ ap (λ n. Some (cond (nat_eq n 0) 5 3)) (and_assoc (concern q) s (concern q) ∙ ap (bit_and s) (and_self (concern q)))

-- two sets of which each is a part of the other are one
same-member : (s t k : ℕ) → IsPart s t → IsPart t s → (a b : Bool) → has s k ≡ a → has t k ≡ b → a ≡ b
same-member s t k h g true true e f = refl
same-member s t k h g false false e f = refl
same-member s t k h g true false e f = absurd (true≢false (sym (h k e) ∙ f))
same-member s t k h g false true e f = absurd (true≢false (sym (g k f) ∙ e))

-- what a query costs with a set it costs with each set between that and itself
pub liked-between : (q s : ℕ) (o : Option ℕ) (t : ℕ) → IsLiked q s o → IsPart s t → IsPart t s → IsLiked q t o
liked-between q s o t e h g = subst (λ (n : ℕ). IsLiked q n o) (same_set s t (λ k. same-member s t k h g (has s k) (has t k) refl refl)) e
