-- What a path keeps of the costs of its plan, as the query has a window or not.
use Rattle.std.proofs.Common.{◌≡◌, ◌<◌, ◌≤◌, ◌+◌, ℕ, None, Option, Some, refl, sym, ◌∙◌, ap, ap₂, le_refl, arith}
use Rattle.sql_query.specs.catalog_Contents.{Contents}
use Rattle.cost_rules.specs.Costs.{merge_cost, nest_cost, pair, sort_cost, sort_work}
use Rattle.cost_rules.specs.work.Costs.{capped, capped_pair}
use Rattle.cost_rules.specs.declared.pair.Pair.{Pair}
use Rattle.cost_rules.specs.declared.parameters.TheConstants.{MOST_COST}
use Rattle.cost_rules.proofs.CapLemmas.{sort-capped}
use Rattle.sql_query.specs.Queries.{Query}
use Rattle.sql_query.specs.declared.window.Window.{Window}
use Rattle.plan_tree.specs.Costs.{cost}
use Rattle.plan_tree.specs.work.Costs.{HaveRows}
use Rattle.plan_tree.specs.Least.{IsAdmissible, IsStartupAtMost}
use Rattle.plan_tree.specs.Paths.{startup_kept}
use Rattle.plan_tree.specs.work.Paths.{HasItsNumbers, Path, kept_cost}
use Rattle.plan_tree.proofs.BoundLemmas.{startup-most}

-- the startup that is kept is no greater, and counts where there is a window
pub kept-least : (w : Option Window) (n : ℕ) → startup_kept w n ≤ n
kept-least None n = omega arith
kept-least (Some w) n = le_refl n

pub kept-most : (w : Option Window) (a b : ℕ) → startup_kept w a ≤ startup_kept w b → IsStartupAtMost w a b
kept-most None a b h = tt
kept-most (Some w) a b h = h

pub kept-rises : (w : Option Window) (a b : ℕ) → a ≤ b → startup_kept w a ≤ startup_kept w b
kept-rises None a b h = omega arith
kept-rises (Some w) a b h = h

pub startup-from : (w : Option Window) (a b : ℕ) → a ≤ b → IsStartupAtMost w a b
startup-from None a b h = tt
startup-from (Some w) a b h = h

-- what two sides cost before their first rows
pub startup-both : (w : Option Window) (a b d e : ℕ) → IsStartupAtMost w a b → IsStartupAtMost w d e → IsStartupAtMost w (a + d) (b + e)
startup-both None a b d e h k = tt
startup-both (Some w) a b d e h k = omega (arith, h, k)

capped-kept : (w : Option Window) (p : Pair) → p.startup ≤ p.total → p.total < MOST_COST → capped_pair (kept_cost w p) ≡ kept_cost w p
capped-kept w p startup below =
    let least = kept-least w p.startup in
    let one : capped (startup_kept w p.startup) ≡ startup_kept w p.startup = omega (arith, least, startup, below) in
    let two : capped p.total ≡ p.total = omega (arith, below) in
    ap₂ pair one two

-- a cut cost below the limit is the cost
pub uncut-kept : (w : Option Window) (p n : Pair) → p.startup ≤ p.total → n ≡ capped_pair (kept_cost w p) → n.total < MOST_COST → n ≡ kept_cost w p
uncut-kept w p n startup e below =
    let total = ap (λ (x : Pair). x.total) e in
    e ∙ capped-kept w p startup (omega (arith, total, below))

-- the kept cost of a sort, of a nested loop and of a merge
pub sort-kept : (w : Option Window) (p : Pair) (rows : ℕ) → kept_cost w (capped_pair (sort_cost (capped_pair (kept_cost w p)) rows)) ≡ capped_pair (kept_cost w (sort_cost p rows))
sort-kept None p rows = ap (pair 0) (again p.total (sort_work rows) rows)
  where
    again : (n m k : ℕ) → capped (capped n + m + k) ≡ capped (n + m + k)
    again n m k = omega arith
sort-kept (Some w) p rows = sort-capped p rows

pub nest-kept : (w : Option Window) (a b : Pair) (ro ri n : ℕ) → nest_cost (kept_cost w a) (kept_cost w b) ro ri n ≡ kept_cost w (nest_cost a b ro ri n)
nest-kept None a b ro ri n = refl
nest-kept (Some w) a b ro ri n = refl

pub merge-kept : (w : Option Window) (a b : Pair) (ro ri k m n : ℕ) → merge_cost (kept_cost w a) (kept_cost w b) ro ri k m n ≡ kept_cost w (merge_cost a b ro ri k m n)
merge-kept None a b ro ri k m n = refl
merge-kept (Some w) a b ro ri k m n = refl

module _ (c : Contents) (q : Query) where
  -- what the cost of an admissible path is
  pub path-cost : (x : Path) → HaveRows c q → HasItsNumbers c q x → IsAdmissible c q x.tree → (pair x.startup x.cost ≡ capped_pair (kept_cost q.window (cost c q x.tree))) × (x.startup ≤ x.cost)
  path-cost x some h admissible =
      let most = startup-most c q some x.tree in
      let least = kept-least q.window (cost c q x.tree).startup in
      (ap₂ pair h.startup h.cost ∙ sym (capped-kept q.window (cost c q x.tree) most admissible), omega (arith, h.startup, h.cost, most, least))
