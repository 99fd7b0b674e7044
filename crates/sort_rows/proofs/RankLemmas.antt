-- How many relations of a set stand before one of them.
use Rattle.std.proofs.Common.{◌≡◌, ℕ, zero, suc, ◌+◌, ◌<◌, ◌≤◌, Bool, true, ap, arith, ⊎_elim}
use Rattle.std.proofs.lemmas.Bool.{cases_lt}
use Rattle.heap.specs.Tuples.{rank}
use Rattle.heap.proofs.RankLemmas.{rank-in}

rank-next : (set : ℕ → Bool) (r : ℕ) → rank set r ≤ rank set (suc r)
unfolding rank
rank-next set r = omega arith

pub rank-rises : (set : ℕ → Bool) (k r : ℕ) → k ≤ r → rank set k ≤ rank set r
rank-rises set k zero le = let same : k ≡ 0 = omega arith in omega (arith, ap (rank set) same)
rank-rises set k (suc r) le = ⊎_elim
    (λ (before : r < k). let same : k ≡ suc r = omega arith in omega (arith, ap (rank set) same))
    (λ (within : k ≤ r). omega (arith, rank-rises set k r within, rank-next set r))
    (cases_lt r k)

pub rank-below : (set : ℕ → Bool) (k r : ℕ) → k < r → set k ≡ true → rank set k < rank set r
rank-below set k r lt is = omega (arith, rank-in set k is, rank-rises set (k + 1) r (omega arith))
