use Rattle.group_values.proofs.CallLemmas.{IsJoined}
use Rattle.group_values.proofs.kept.join_each.Given as goal

abbrev pub invariant-loop-n : goal.invariant-loop-n
invariant-loop-n l = IsJoined l.calls l.fn.called l.fn.args l.called l.args l.n
