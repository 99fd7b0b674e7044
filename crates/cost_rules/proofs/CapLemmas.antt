-- Costs cut before a rule give what they give uncut, once that is cut.
use Rattle.std.proofs.Common.{◌≡◌, ◌≤◌, ℕ, ◌+◌, ◌*◌, arith, ◌⊎◌, inl, inr}
use Rattle.std.proofs.lemmas.Bool.{cases_lt}
use Rattle.std.proofs.lemmas.Grind.{common_steps}
use Rattle.cost_rules.specs.declared.pair.Pair.{Pair}
use Rattle.cost_rules.specs.declared.parameters.TheConstants.{MOST_COST, OPERATOR}
use Rattle.cost_rules.specs.Costs.{pair, row_cost, sort_work, sort_cost, nest_cost, merge_cost}
use Rattle.cost_rules.specs.work.Costs.{IsAtMost, IsCost, capped, capped_pair}
use Rattle.cost_rules.proofs.RisingLemmas.{once-at_least}

pairs-are : (a b c d : ℕ) → a ≡ c → b ≡ d → pair a b ≡ pair c d
pairs-are a b c d h k = cc

plus : (x y : ℕ) → capped (capped x + y) ≡ capped (x + y)
plus x y = omega arith

plus-two : (x y z : ℕ) → capped (capped x + y + z) ≡ capped (x + y + z)
plus-two x y z = omega arith

pub sort-capped : (a : Pair) (n : ℕ) → capped_pair (sort_cost (capped_pair a) n) ≡ capped_pair (sort_cost a n)
sort-capped a n = pairs-are _ _ _ _ (plus a.total (sort_work n)) (plus-two a.total (sort_work n) n)

both : (x y : ℕ) → capped (capped x + capped y) ≡ capped (x + y)
both x y = omega arith

both-more : (x y z w : ℕ) → capped (capped x + capped y + z + w) ≡ capped (x + y + z + w)
both-more x y z w = omega arith

pub merge-capped : (o i : Pair) (ro ri k pairs ops : ℕ) → capped_pair (merge_cost (capped_pair o) (capped_pair i) ro ri k pairs ops) ≡ capped_pair (merge_cost o i ro ri k pairs ops)
merge-capped o i ro ri k pairs ops = pairs-are _ _ _ _ (both o.startup i.startup) (both-more o.total i.total ((ro + 2 * ri) * (k * OPERATOR)) (pairs * row_cost ops))

times-by : (x y u v z : ℕ) → (capped u ≡ capped v) → capped (capped x + u + z) ≡ capped (x + v + z)
times-by x y u v z h = omega (arith, h)

-- a multiple of a cost that was cut
times : (k x : ℕ) → 1 ≤ k → capped (k * capped x) ≡ capped (k * x)
times k x some = by (once-at_least k MOST_COST some) (once-at_least k x some) (least x)
  where
    least : (x : ℕ) → (capped x ≡ x) ⊎ ((capped x ≡ MOST_COST) × (MOST_COST ≤ x))
    least x = elim (cases_lt x MOST_COST) [ inl less ↦ inl (omega (arith, less)) | inr more ↦ inr (omega (arith, more), more) ]

    by : MOST_COST ≤ k * MOST_COST → x ≤ k * x → (capped x ≡ x) ⊎ ((capped x ≡ MOST_COST) × (MOST_COST ≤ x)) → capped (k * capped x) ≡ capped (k * x)
    by h l (inl e) = cc
    by h l (inr e) = grind (arith, common_steps, h, l, e)

pub nest-capped : (o i : Pair) (ro ri ops : ℕ) → 1 ≤ ro → capped_pair (nest_cost (capped_pair o) (capped_pair i) ro ri ops) ≡ capped_pair (nest_cost o i ro ri ops)
nest-capped o i ro ri ops some = pairs-are _ _ _ _ (both o.startup i.startup) (times-by o.total i.total (ro * capped i.total) (ro * i.total) (ro * ri * row_cost ops) (times ro i.total some))

rising : (x y : ℕ) → x ≤ y → capped x ≤ capped y
rising x y h = omega (arith, h)

pub capped-rises : (a b : Pair) → IsAtMost a b → IsAtMost (capped_pair a) (capped_pair b)
capped-rises a b h = record { startup = rising a.startup b.startup h.startup; total = rising a.total b.total h.total }

most : (x : ℕ) → capped x ≤ MOST_COST
most x = omega arith

pub capped-cost : (a : Pair) → a.startup ≤ a.total → IsCost (capped_pair a)
capped-cost a h = record { startup = rising a.startup a.total h; most = most a.total }
