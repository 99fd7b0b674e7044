use Rattle.plan_check.specs.Views.{side}
use Rattle.plan_check.specs.work.Views.{certificate, entry}
use Rattle.certificate_check.proofs.CostLemmas.{side-priced}
use Rattle.certificate_check.proofs.sides.price_of_side.Goals as goal

pub price_of_entry-requires-clause-side : goal.price_of_entry-requires-clause-side
price_of_entry-requires-clause-side c = let h = c.in-Some.ensures.some in record { input = h.input; right = h.right; finished = h.finished }

pub returns-in-Some-clause-some : goal.returns-in-Some-clause-some
returns-in-Some-clause-some c =
    let h = c.in-Some.ensures.some in
    side-priced c.args.cat.now c.args.q.now (certificate c.args.t.now) (side c.args.s) (entry c.in-Some.e.now) c.price_of_entry.result h (c.price_of_entry.ensures h.input h.right h.finished)
