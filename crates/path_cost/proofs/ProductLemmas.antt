-- Rows of a product of relations, one relation after the other.
use Rattle.std.proofs.Common.{◌≡◌, ◌<◌, ◌≤◌, ◌∙◌, ℕ, ◌+◌, ◌-◌, ◌*◌, ◌^◌, true, false, sym, ap, arith, le_trans}
use Rattle.catalog.specs.Contents.{Contents}
use Rattle.catalog.specs.Range.{Range}
use Rattle.eq_classes.specs.Clauses.{Set}
use Rattle.cost_rules.proofs.RisingLemmas.{once-at_least}
use Rattle.exact_rows.specs.work.Rows.{most_of}
use Rattle.exact_rows.specs.declared.rows.TheConstants.{MOST_FACTORS}
use Rattle.exact_rows.proofs.RoomLemmas.{one-more, rises}
use Rattle.path_cost.specs.Estimates.{set_numbers_from, product_from, table_rows}
use Rattle.path_cost.proofs.NumberLemmas.{numbers-at, numbers-none}

module _ (c : Contents) (range : Range) (set : Set) (n len m next : ℕ) where
  pub product-yes : n < len → set n ≡ true → next ≡ m * table_rows c range n → product_from c range m (set_numbers_from n (len - n) set) ≡ product_from c range next (set_numbers_from (n + 1) (len - (n + 1)) set)
  product-yes lt e f =
      ap (product_from c range m) (numbers-at set n len true lt e)
      ∙ ap (λ x. product_from c range x (set_numbers_from (n + 1) (len - (n + 1)) set)) (sym f)

  pub product-no : n < len → set n ≡ false → next ≡ m → product_from c range m (set_numbers_from n (len - n) set) ≡ product_from c range next (set_numbers_from (n + 1) (len - (n + 1)) set)
  product-no lt e f =
      ap (product_from c range m) (numbers-at set n len false lt e)
      ∙ ap (λ x. product_from c range x (set_numbers_from (n + 1) (len - (n + 1)) set)) (sym f)

pub product-all : (c : Contents) (range : Range) (set : Set) (n len m whole : ℕ) → len ≤ n → product_from c range m (set_numbers_from n (len - n) set) ≡ whole → m ≡ whole
product-all c range set n len m whole past h = ap (product_from c range m) (sym (numbers-none set n len past)) ∙ h

-- a table more has room, and the product a row
pub has-room : (n len v x : ℕ) → n < len → len ≤ MOST_FACTORS → v ≤ most_of n → x < 2 ^ 32 → v * x ≤ most_of MOST_FACTORS
has-room n len v x lt few h small = le_trans (one-more n v x h small) (rises (n + 1) MOST_FACTORS (omega (arith, lt, few)))

pub one-less : (n v : ℕ) → v ≤ most_of n → v ≤ most_of (n + 1)
one-less n v h = le_trans h (rises n (n + 1) (omega arith))

pub some-more : (v x : ℕ) → 1 ≤ v → 1 ≤ x → 1 ≤ v * x
some-more v x h k = le_trans k (once-at_least v x h)
