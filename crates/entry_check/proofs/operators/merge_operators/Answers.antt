use Rattle.pathkeys.specs.work.Finding.{class_numbers}
use Rattle.entry_check.proofs.CostLemmas.{merge-operators-are}
use Rattle.entry_check.proofs.operators.merge_operators.Goals as goal

pub returns : goal.returns
returns c = record {
  operators = merge-operators-are c.args.q.now c.classes_of-classes.result.now (class_numbers c.args.keys.now) c.join_clauses-tested.result c.empty-none.result c.key_pairs-equal.result c.args.a c.args.b c.operators_of.result
      c.classes_of-classes.ensures c.join_clauses-tested.ensures c.empty-none.ensures c.key_pairs-equal.ensures c.operators_of.ensures;
}
