use Rattle.std.proofs.Common.{◌-◌, ◌^◌, ◌∙◌, ap, min}
use Rattle.eq_classes.specs.Clauses.{ClassTable}
use Rattle.path_cost.specs.Costs.{operators}
use Rattle.path_cost.specs.Estimates.{conditions_where}
use Rattle.plan_tree.specs.Plans.{set_of, joins}
use Rattle.plan_tree.specs.work.Views.{plan}
use Rattle.plan_tree.proofs.JoinLemmas.{join_operators_are}
use Rattle.plan_tree.proofs.joins.join_operators.Goals as goal

pub returns : goal.returns
returns c =
    let test = joins (set_of (plan c.args.outer.now)) (plan c.args.inner.now) in
    c.operators_of.ensures
    ∙ ap (λ n. min n (2 ^ 64 - 1)) (join_operators_are test c.classes_of-classes.result.now.clauses c.joining-tested.result c.empty-none.result c.joining-tested.ensures c.empty-none.ensures)
    ∙ ap (λ (t : ClassTable). min (operators (conditions_where test t.clauses)) (2 ^ 64 - 1)) c.classes_of-classes.ensures
