use Rattle.std.proofs.Common.{arith}
use Rattle.cost_rules.specs.Costs.{pair}
use Rattle.cost_rules.specs.work.Costs.{IsAtMost}
use Rattle.cost_rules.specs.declared.pair.Pair.{Pair}
use Rattle.join_search.proofs.OfferLemmas.{floor-rises}
use Rattle.join_search.proofs.PastLemmas.{not-true}
use Rattle.join_search.proofs.past.is_past.Goals as goal

pub returns : goal.returns
returns c = λ is n startup total below floor.
    let sum : Pair = pair c.saturating_add-startup.result c.saturating_add-total.result in
    let first = c.saturating_add-startup.ensures in
    let all = c.saturating_add-total.ensures in
    let most : IsAtMost sum n = record { startup = omega (arith, startup, first); total = omega (arith, total, all) } in
    let less = most.total in
    let rises = floor-rises c.args.q.now.window c.args.whole sum n c.requires.some most in
    c.is_below.ensures.no (not-true c.is_below.result is) (omega (arith, less, below)) (omega (arith, rises, floor))
