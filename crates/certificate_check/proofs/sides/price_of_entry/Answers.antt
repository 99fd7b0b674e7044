use Rattle.pathkeys.specs.Keys.{order_keys}
use Rattle.plan_check.specs.Certificates.{sorted_if}
use Rattle.certificate_check.proofs.CostLemmas.{has-price}
use Rattle.certificate_check.proofs.sides.price_of_entry.Goals as goal

pub returns : goal.returns
returns c = λ p right finished.
    let contents = c.args.cat.now in
    let q = c.args.q.now in
    let plan = sorted_if c.args.sort (order_keys q.classes q.order) p in
    let kept = c.finished_cost-cost.ensures.kept p right finished in
    has-price contents q plan c.finished_cost-cost.result c.price_of.result kept (c.price_of.ensures.price contents plan kept c.requires.rows)
