use Rattle.sql_query.specs.Worlds.{world}
use Rattle.plan_tree.specs.Plans.{set_of}
use Rattle.plan_tree.specs.work.Views.{plan}
use Rattle.executor.proofs.StartLemmas.{join_sides}
use Rattle.worked_rows.proofs.SideLemmas.{side_held, side_up}
use Rattle.worked_rows.proofs.joins.see_joined.Goals as goal

pub joined_rows-requires-clause-sides : goal.joined_rows-requires-clause-sides
joined_rows-requires-clause-sides g c =
    let s = c.requires.sides in
    join_sides (world c.args.at.now.cat.now c.args.at.now.store.now.stored) c.args.at.now.q.now (plan c.args.sides.now.outer.now) (plan c.args.sides.now.inner.now) c.in_ok-outer.outer.set c.in_ok-inner.inner.set
    c.requires.store.world c.requires.bound s.outer_built s.inner_built s.merge.sides c.in_ok-outer.ensures.set c.in_ok-inner.ensures.set

pub joined_rows-requires-clause-keys : goal.joined_rows-requires-clause-keys
joined_rows-requires-clause-keys g c =
    rw (c.in_ok-outer.ensures.set, c.in_ok-inner.ensures.set)
    (c.merge_lists_join.ensures c.args.at.now.cat.now c.args.at.now.q.now (set_of (plan c.args.sides.now.outer.now)) (set_of (plan c.args.sides.now.inner.now)) c.args.sides.now.keys.now c.requires.sides.merge.list)

pub joined_rows-requires-clause-outer : goal.joined_rows-requires-clause-outer
joined_rows-requires-clause-outer g c =
    side_held (world c.args.at.now.cat.now c.args.at.now.store.now.stored) c.args.at.now.q.now (plan c.args.sides.now.outer.now) c.in_ok-outer.outer c.requires.store.world c.requires.bound c.requires.sides.outer_built c.in_ok-outer.ensures.set c.in_ok-outer.ensures.rows c.requires.sides.merge.sides.outer_whole

pub joined_rows-requires-clause-inner : goal.joined_rows-requires-clause-inner
joined_rows-requires-clause-inner g c =
    side_held (world c.args.at.now.cat.now c.args.at.now.store.now.stored) c.args.at.now.q.now (plan c.args.sides.now.inner.now) c.in_ok-inner.inner c.requires.store.world c.requires.bound c.requires.sides.inner_built c.in_ok-inner.ensures.set c.in_ok-inner.ensures.rows c.requires.sides.merge.inner_whole

pub joined_rows-requires-clause-outer_sorted : goal.joined_rows-requires-clause-outer_sorted
joined_rows-requires-clause-outer_sorted g c =
    side_up (world c.args.at.now.cat.now c.args.at.now.store.now.stored) c.args.at.now.q.now (plan c.args.sides.now.outer.now) c.in_ok-outer.outer c.requires.store.world c.requires.bound c.requires.sides.outer_built c.in_ok-outer.ensures.set c.in_ok-outer.ensures.rows c.args.sides.now.keys.now c.requires.sides.merge.outer_keys

pub joined_rows-requires-clause-inner_sorted : goal.joined_rows-requires-clause-inner_sorted
joined_rows-requires-clause-inner_sorted g c =
    side_up (world c.args.at.now.cat.now c.args.at.now.store.now.stored) c.args.at.now.q.now (plan c.args.sides.now.inner.now) c.in_ok-inner.inner c.requires.store.world c.requires.bound c.requires.sides.inner_built c.in_ok-inner.ensures.set c.in_ok-inner.ensures.rows c.args.sides.now.keys.now c.requires.sides.merge.inner_keys
