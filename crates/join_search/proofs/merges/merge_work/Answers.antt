use Rattle.std.proofs.Common.{◌-◌, ◌^◌, ◌&&◌, ◌∙◌, ap, min, not, refl}
use Rattle.pg_base.specs.Sets.{has}
use Rattle.eq_classes.specs.Parts.{is_join}
use Rattle.path_cost.specs.Costs.{operators}
use Rattle.path_cost.specs.Estimates.{conditions_where, is_pair_of, pairs}
use Rattle.pathkeys.specs.work.Finding.{class_numbers}
use Rattle.plan_tree.proofs.JoinLemmas.{merge_operators_are}
use Rattle.join_search.proofs.merges.merge_work.Goals as goal

pub returns : goal.returns
returns c =
    let a = c.args.j.now.outer in
    let b = c.args.j.now.inner in
    let list = c.items-list.ensures.list in
    let same = c.classes_of-classes.ensures in
    let range = c.range_of.ensures in
    record {
      pairs = c.pairs-rows.ensures.rows ∙ (λ z. pairs c.args.j.now.cat.now (range z) (same z) (has a.0) (has b.0) (list z));
      estimate = c.pairs-rows.ensures.estimate;
      ops = c.operators_of-ops.ensures
          ∙ ap (λ n. min n (2 ^ 64 - 1)) (merge_operators_are c.classes_of-classes.result.now.clauses a b (has a.0) (has b.0) (class_numbers c.items-list.result.now) c.join_clauses-tested.result c.empty-none.result c.key_pairs-equal.result
          (λ n. refl) (λ n. refl) c.join_clauses-tested.ensures c.empty-none.ensures c.key_pairs-equal.ensures)
          ∙ (λ z. min (operators (conditions_where (λ k. is_join (has a.0) (has b.0) k && not (is_pair_of (list z) k)) (same z).clauses)) (2 ^ 64 - 1));
    }
