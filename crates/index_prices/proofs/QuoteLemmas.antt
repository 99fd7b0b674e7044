-- A price, and the candidates with which alone it is the same.
use Rattle.std.proofs.Common.{◌≡◌, ℕ, Bool, true, false, List, length, Option, Some, None, refl, sym, ap, ◌∙◌, subst, true≢false}
use Rattle.pg_base.specs.Sets.{has}
use Rattle.advisor.specs.work.Choices.{IsPart}
use Rattle.catalog.specs.Contents.{Contents, NamedIndex}
use Rattle.sql_query.specs.Queries.{Query}
use Rattle.plan_tree.specs.Costs.{price}
use Rattle.plan_tree.specs.Least.{IsBestPlan, HasNoPlan}
use Rattle.plan_tree.specs.Plans.{Plan}
use Rattle.plan_laws.specs.work.Fewer.{HasRoom}
use Rattle.plan_laws.specs.Moved.{HasPrice}
use Rattle.index_prices.specs.Candidates.{with_added}
use Rattle.index_prices.specs.Prices.{IsLeastPrice}
use Rattle.index_prices.specs.work.Quotes.{HasAllRead, IsQuoteOver}
use Rattle.index_prices.proofs.PartLemmas.{none-between, price-between}

module _ (m : Contents) (candidates : List NamedIndex) (q : Query) (set : ℕ) where
  -- what a plan costs, and what it reads
  pub quote-read : (p : Plan) (n used : ℕ) → HasRoom m q → IsBestPlan m q p → n ≡ price m q p → HasAllRead m candidates set p (length candidates) used → IsQuoteOver m candidates q set (record { cost = Some n; used = used })
  quote-read p n used room best is all c made t least most =
      subst (λ (k : ℕ). HasPrice (with_added c candidates (has t)) q k) (ap (λ (d : Contents). price d q p) (sym made) ∙ sym is)
      (price-between c candidates q set t most (subst (λ (d : Contents). HasRoom d q) made room) p used
      (subst (λ (d : Contents). IsBestPlan d q p) made best)
      (subst (λ (d : Contents). HasAllRead d candidates set p (length candidates) used) made all) least)

  -- no plan
  pub quote-none : (used : ℕ) → HasRoom m q → HasNoPlan m q → IsQuoteOver m candidates q set (record { cost = None; used = used })
  quote-none used room none c made t least most =
      none-between c candidates q set t most (subst (λ (d : Contents). HasRoom d q) made room) (subst (λ (d : Contents). HasNoPlan d q) made none)

  same-members : (t : ℕ) → IsPart set t → IsPart t set → (k : ℕ) → has set k ≡ has t k
  same-members t h g k = by (has set k) (has t k) refl refl
    where
      by : (a b : Bool) → has set k ≡ a → has t k ≡ b → a ≡ b
      by true true e f = refl
      by false false e f = refl
      by true false e f = absurd (true≢false (sym (h k e) ∙ f))
      by false true e f = absurd (true≢false (sym (g k f) ∙ e))

  -- the whole set
  pub quote-whole : (cost : Option ℕ) → IsLeastPrice m q cost → IsQuoteOver m candidates q set (record { cost = cost; used = set })
  quote-whole cost h c made t least most =
      subst (λ (s : ℕ → Bool). IsLeastPrice (with_added c candidates s) q cost) (λ i k. same-members t least most k i)
      (subst (λ (d : Contents). IsLeastPrice d q cost) made h)
