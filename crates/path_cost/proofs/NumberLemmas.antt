-- The numbers of a set, one after the other.
use Rattle.std.proofs.Common.{◌≡◌, ◌<◌, ◌≤◌, ◌∙◌, ℕ, zero, suc, ◌+◌, ◌-◌, Bool, cond, [], ◌∷◌, refl, ap, arith}
use Rattle.path_cost.specs.Estimates.{set_numbers_from}

-- a number that is in the set or not, and those behind it
pub numbers-at : (set : ℕ → Bool) (n len : ℕ) (b : Bool) → n < len → set n ≡ b → set_numbers_from n (len - n) set ≡ cond b (n ∷ set_numbers_from (n + 1) (len - (n + 1)) set) (set_numbers_from (n + 1) (len - (n + 1)) set)
numbers-at set n len b lt e =
    ap (λ k. set_numbers_from n k set) (let more : len - n ≡ suc (len - (n + 1)) = omega (arith, lt) in more)
    ∙ ap (λ d. cond d (n ∷ set_numbers_from (n + 1) (len - (n + 1)) set) (set_numbers_from (n + 1) (len - (n + 1)) set)) e

pub numbers-none : (set : ℕ → Bool) (n len : ℕ) → len ≤ n → set_numbers_from n (len - n) set ≡ []
numbers-none set n len past = ap (λ k. set_numbers_from n k set) (let none : len - n ≡ 0 = omega (arith, past) in none)

-- sets that agree at so many numbers
pub numbers-same : (f g : ℕ → Bool) (n len : ℕ) → ((k : ℕ) → n ≤ k → k < n + len → f k ≡ g k) → set_numbers_from n len f ≡ set_numbers_from n len g
numbers-same f g n zero h = refl
numbers-same f g n (suc len) h =
    ap (λ b. cond b (n ∷ set_numbers_from (n + 1) len f) (set_numbers_from (n + 1) len f)) (h n (omega arith) (omega arith))
    ∙ ap (λ ns. cond (g n) (n ∷ ns) ns) (numbers-same f g (n + 1) len (λ k low high. h k (omega (arith, low)) (omega (arith, high))))
