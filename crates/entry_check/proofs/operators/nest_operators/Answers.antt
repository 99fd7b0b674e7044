use Rattle.entry_check.proofs.CostLemmas.{nest-operators-are}
use Rattle.entry_check.proofs.operators.nest_operators.Goals as goal

pub returns : goal.returns
returns c = record {
  operators = λ o i reads inner given.
      nest-operators-are c.args.q.now c.classes_of-classes.result.now c.clauses_tested-tested.result c.empty-none.result c.args.a o i c.operators_of.result c.classes_of-classes.ensures reads
      (c.clauses_tested-tested.ensures i inner given) c.empty-none.ensures c.operators_of.ensures;
}
