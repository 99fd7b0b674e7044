use Rattle.std.proofs.Common.{length}
use Rattle.plan_tree.proofs.estimates.estimate.Goals as goal

pub rows_param-requires-clause-relation : goal.rows_param-requires-clause-relation
rows_param-requires-clause-relation c = rw c.range_of.ensures (c.in-Some.ensures.below (length c.args.q.now.range) c.requires.reads)
