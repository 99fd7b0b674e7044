-- How many clauses of a list have a number of a set.
use Rattle.std.proofs.Common.{◌≡◌, ◌<◌, ◌≤◌, ℕ, ◌+◌, Bool, true, false, List, ap, arith, length, drop}
use Rattle.eq_classes.specs.Clauses.{Clause}
use Rattle.path_cost.specs.Estimates.{conditions_from}
use Rattle.path_cost.proofs.CostLemmas.{none-left}
use Rattle.path_cost.proofs.KeptLemmas.{conditions-at}

module _ (ks : List Clause) (chosen : ℕ → Bool) (n count next whole : ℕ) where
  pub count-yes : n < length ks → chosen n ≡ true → next ≡ count + 1 → count + length (conditions_from n chosen (drop n ks)) ≡ whole → next + length (conditions_from (n + 1) chosen (drop (n + 1) ks)) ≡ whole
  count-yes lt e f h = omega (arith, ap length (conditions-at ks chosen n true lt e), f, h)

  pub count-no : n < length ks → chosen n ≡ false → next ≡ count → count + length (conditions_from n chosen (drop n ks)) ≡ whole → next + length (conditions_from (n + 1) chosen (drop (n + 1) ks)) ≡ whole
  count-no lt e f h = omega (arith, ap length (conditions-at ks chosen n false lt e), f, h)

pub count-all : (ks : List Clause) (chosen : ℕ → Bool) (n count whole : ℕ) → length ks ≤ n → count + length (conditions_from n chosen (drop n ks)) ≡ whole → count ≡ whole
count-all ks chosen n count whole past h = omega (arith, ap (λ xs. length (conditions_from n chosen xs)) (none-left ks n past), h)
