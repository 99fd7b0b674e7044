use Rattle.std.proofs.Common.{◌-◌, ◌^◌, ◌∙◌, ap, min}
use Rattle.pg_base.specs.Sets.{has}
use Rattle.eq_classes.specs.Clauses.{ClassTable}
use Rattle.path_cost.specs.Costs.{operators}
use Rattle.path_cost.specs.Estimates.{conditions_from}
use Rattle.path_cost.specs.work.Estimates.{either_but}
use Rattle.plan_tree.specs.Plans.{joins}
use Rattle.plan_tree.specs.work.Views.{path}
use Rattle.plan_tree.proofs.JoinLemmas.{join_operators_are}
use Rattle.join_search.proofs.nests.nest_ops.Goals as goal

pub returns : goal.returns
returns c =
    let tested = c.clauses_tested-tested.result in
    let none = c.empty-none.result in
    let j = c.args.j.now in
    c.operators_of.ensures
    ∙ ap (λ (t : ClassTable). min (operators (conditions_from 0 (either_but tested none none) t.clauses)) (2 ^ 64 - 1)) c.classes_of-classes.ensures
    ∙ ap (λ n. min n (2 ^ 64 - 1)) (join_operators_are (joins (has j.outer.0) (path c.args.inner.now).tree) j.q.now.classes.clauses tested none c.clauses_tested-tested.ensures c.empty-none.ensures)
