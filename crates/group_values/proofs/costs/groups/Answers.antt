use Rattle.std.proofs.Common.{◌≡◌, ◌≤◌, ap, ◌∙◌, arith}
use Rattle.std.specs.Prelude.{min}
use Rattle.group_values.specs.GroupCosts.{combinations}
use Rattle.group_values.proofs.CostLemmas.{product-some}
use Rattle.group_values.proofs.costs.groups.Goals as goal

pub returns-clause-estimate : goal.returns-clause-estimate
returns-clause-estimate c =
    let t = c.args.task.now in
    let is : c.lists_of_values.result ≡ min t.rows (combinations t.distinct.items) = c.lists_of_values.ensures ∙ ap (λ ns. min t.rows (combinations ns)) c.deref.ensures.value in
    let some : 1 ≤ combinations t.distinct.items = product-some t.distinct.items c.requires.distinct in
    record { some = omega (arith, is, some, c.requires.rows.some); most = omega (arith, is, c.requires.rows.most) }
