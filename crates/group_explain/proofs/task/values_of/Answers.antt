use Rattle.pg_base.specs.Sets.{has}
use Rattle.group_explain.proofs.TaskLemmas.{member-column}
use Rattle.group_explain.proofs.task.values_of.Goals as goal

pub distinct-requires-clause-column : goal.distinct-requires-clause-column
distinct-requires-clause-column c =
    member-column c.args.cat.now c.args.q.now c.requires.bound c.args.class.0 (has c.args.all.0) c.classes_of.result.now c.range_of.result.now c.in-Some.x
    c.classes_of.ensures c.range_of.ensures c.requires.all c.in-Some.ensures
