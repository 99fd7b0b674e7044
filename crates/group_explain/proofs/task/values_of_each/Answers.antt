use Rattle.reply.specs.explain_KeyLemmas.{key-class}
use Rattle.group_explain.proofs.task.values_of_each.Goals as goal

pub values_of-requires-clause-class : goal.values_of-requires-clause-class
values_of-requires-clause-class c = key-class c.args.keys.now c.loop-n.n _ _ c.loop-n-test.true c.requires.classes
