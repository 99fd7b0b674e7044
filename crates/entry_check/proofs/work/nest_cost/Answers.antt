use Rattle.entry_check.proofs.CostLemmas.{nest-rule}
use Rattle.entry_check.proofs.work.nest_cost.Goals as goal

pub returns-clause-rule : goal.returns-clause-rule
returns-clause-rule c = λ contents o i h k.
    nest-rule contents c.args.q.now c.args.outer c.args.inner o i c.nest_operators-ops.result c.nest.result c.requires.outer c.requires.inner h k
    (c.nest_operators-ops.ensures.operators o i h.set k.set k.param) c.nest.ensures.rule
