-- Which of two prices is no worse. Own.
use Rattle.std.specs.Prelude.{◌≡◌, ◌≤◌, true, false}
use Rattle.cost_rules.specs.declared.prices.Price.{Price}

-- one price is no worse than another: it is admissible where the other is and no greater then, and where it is not it is no
-- greater either
pub record IsNoWorse (a b : Price) : Type 0 where
  pub admissible : b.admissible ≡ true → (a.admissible ≡ true) × (a.amount ≤ b.amount)
  pub dearer : a.admissible ≡ false → a.amount ≤ b.amount
