use Rattle.std.proofs.Common.{◌-◌, ◌^◌, ◌&&◌, ◌∙◌, ap, min, not}
use Rattle.eq_classes.specs.Clauses.{ClassTable}
use Rattle.eq_classes.specs.Parts.{is_join}
use Rattle.path_cost.specs.Costs.{operators}
use Rattle.path_cost.specs.Estimates.{conditions_where, is_pair_of}
use Rattle.pathkeys.specs.work.Finding.{class_numbers}
use Rattle.plan_tree.specs.Plans.{set_of}
use Rattle.plan_tree.specs.work.Views.{plan}
use Rattle.plan_tree.proofs.JoinLemmas.{merge_operators_are}
use Rattle.plan_tree.proofs.joins.merge_operators.Goals as goal

pub returns : goal.returns
returns c =
    let s = set_of (plan c.args.outer.now) in
    let t = set_of (plan c.args.inner.now) in
    let keys = class_numbers c.args.keys.now in
    c.operators_of.ensures
    ∙ ap (λ n. min n (2 ^ 64 - 1)) (merge_operators_are c.classes_of-classes.result.now.clauses c.set_of-a.result c.set_of-b.result s t keys c.join_clauses-tested.result c.empty-none.result c.key_pairs-equal.result
    c.set_of-a.ensures.members c.set_of-b.ensures.members c.join_clauses-tested.ensures c.empty-none.ensures c.key_pairs-equal.ensures)
    ∙ ap (λ (table : ClassTable). min (operators (conditions_where (λ k. is_join s t k && not (is_pair_of keys k)) table.clauses)) (2 ^ 64 - 1)) c.classes_of-classes.ensures
