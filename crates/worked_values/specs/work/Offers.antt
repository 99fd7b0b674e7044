-- Offers of the tests: one is at most another where it is at most in both of its numbers.
use Rattle.std.specs.Prelude.{ℕ, Bool, ◌&&◌, nat_le, IsTrue}
use Rattle.std.proofs.Common.{arith}
use Rattle.std.proofs.lemmas.Grind.{common_steps}

-- an offer asks no higher price and no more days than another
abbrev pub is_offer_at_most : ℕ → ℕ → ℕ → ℕ → Bool
is_offer_at_most price days price' days' = nat_le price price' && nat_le days days'

-- an offer is at most itself
pub offers-reflexive : (p d : ℕ) → IsTrue (is_offer_at_most p d p d)
offers-reflexive p d = grind (arith, common_steps)

-- what is at most an offer is at most each that this one is at most
pub offers-transitive : (p d p' d' q e : ℕ) → IsTrue (is_offer_at_most p d p' d') → IsTrue (is_offer_at_most p' d' q e) → IsTrue (is_offer_at_most p d q e)
offers-transitive p d p' d' q e lower higher = grind (arith, common_steps)
