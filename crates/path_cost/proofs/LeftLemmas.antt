-- Rows that are left are no more than there were.
use Rattle.std.proofs.Common.{◌≤◌, ℕ, ◌*◌, max, List, [], ◌∷◌, All, arith, le_trans, mul-le-mul_left}
use Rattle.std.specs.Prelude.{fold}
use Rattle.std.specs.Int.{div_ceil}
use Rattle.pg_expr.specs.Cond.{Cond}
use Rattle.catalog.specs.Contents.{Contents, IsLawful}
use Rattle.catalog.specs.Range.{Range}
use Rattle.cost_rules.specs.Powers.{clamped}
use Rattle.cost_rules.proofs.RisingLemmas.{ceil-least}
use Rattle.exact_rows.specs.Rows.{share_kept}
use Rattle.exact_rows.specs.declared.digits.TheConstants.{BASE}
use Rattle.path_cost.specs.work.Columns.{AreTables}
use Rattle.path_cost.specs.Estimates.{kept}
use Rattle.path_cost.specs.work.Limits.{HasColumns}
use Rattle.path_cost.specs.Selectivity.{weight, weights}
use Rattle.path_cost.proofs.WeightLemmas.{weight-most}

-- a share of some rows is no more than they are
part-of-rows : (n share : ℕ) → 1 ≤ n → share ≤ BASE → (1 ≤ share_kept n share) × (share_kept n share ≤ n)
part-of-rows n share some most =
    let up = ceil-least (n * share) n BASE (omega arith) (mul-le-mul_left n most) in
    (omega arith, least (div_ceil (n * share) BASE) up)
  where
    least : (x : ℕ) → x ≤ n → max 1 x ≤ n
    least x h = omega (arith, h, some)

-- the least of a number of rows and the most that is estimated
clamped-most : (m n : ℕ) → (1 ≤ m) × (m ≤ n) → (1 ≤ clamped m) × (clamped m ≤ n)
clamped-most m n h = (omega arith, omega (arith, h.0, h.1))

module _ (c : Contents) (range : Range) (lawful : IsLawful c) (tables : AreTables c range) where
  -- conditions of a list leave no more rows than there were, and one at least
  pub weighed-most : (n : ℕ) (es : List Cond) (ns : List ℕ) → All (HasColumns c range) es → 1 ≤ n → (1 ≤ fold share_kept n (weights c range es ns)) × (fold share_kept n (weights c range es ns) ≤ n)
  weighed-most n es [] h some = (some, omega arith)
  weighed-most n es (k ∷ ks) h some =
      let first = part-of-rows n (weight c range es k) some (weight-most c range lawful tables es k h) in
      let later = weighed-most (share_kept n (weight c range es k)) es ks h first.0 in
      (later.0, le_trans later.1 first.1)

  pub kept-most : (n : ℕ) (es : List Cond) (ns : List ℕ) → All (HasColumns c range) es → 1 ≤ n → (1 ≤ kept n (weights c range es ns)) × (kept n (weights c range es ns) ≤ n)
  kept-most n es ns h some = clamped-most (fold share_kept n (weights c range es ns)) n (weighed-most n es ns h some)

-- one share alone
pub kept-share : (n share : ℕ) → share ≤ BASE → 1 ≤ n → (1 ≤ kept n (share ∷ [])) × (kept n (share ∷ []) ≤ n)
kept-share n share h some = clamped-most (share_kept n share) n (part-of-rows n share some h)
