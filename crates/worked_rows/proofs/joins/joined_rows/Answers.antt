use Rattle.std.proofs.Common.{subst, sym}
use Rattle.pg_base.specs.Sets.{has}
use Rattle.heap.specs.work.Tuples.{padded_tuples}
use Rattle.sql_query.specs.Queries.{width}
use Rattle.sql_query.specs.Worlds.{world}
use Rattle.plan_tree.specs.work.Sorted.{AreSorted}
use Rattle.worked_rows.proofs.joins.joined_rows.Goals as goal

pub merge_rows-requires-clause-outer_sorted : goal.merge_rows-requires-clause-outer_sorted
merge_rows-requires-clause-outer_sorted g c =
    subst (λ s. AreSorted (world c.args.at.now.cat.now s) c.args.at.now.q.now (has c.args.outer.now.set.0) c.args.keys.now (padded_tuples (width c.args.at.now.q.now) c.args.outer.now)) (sym c.heaps-heaps.ensures) c.requires.outer_sorted

pub merge_rows-requires-clause-inner_sorted : goal.merge_rows-requires-clause-inner_sorted
merge_rows-requires-clause-inner_sorted g c =
    subst (λ s. AreSorted (world c.args.at.now.cat.now s) c.args.at.now.q.now (has c.args.inner.now.set.0) c.args.keys.now (padded_tuples (width c.args.at.now.q.now) c.args.inner.now)) (sym c.heaps-heaps.ensures) c.requires.inner_sorted
