use Rattle.std.proofs.Common.{◌+◌, length}
use Rattle.pg_base.specs.Sets.{has}
use Rattle.heap.specs.work.Tuples.{padded}
use Rattle.sql_query.specs.Queries.{width}
use Rattle.sql_query.specs.Worlds.{world}
use Rattle.plan_tree.specs.Counts.{fetches, looks}
use Rattle.plan_tree.specs.Run.{run}
use Rattle.plan_tree.specs.work.Views.{plan}
use Rattle.scan_exec.specs.work.Plans.{param_set, relation_of}
use Rattle.scan_exec.proofs.DrainLemmas.{IsDraining}
use Rattle.scan_exec.proofs.drain.scan.Given as goal

abbrev pub invariant-loop-tid : goal.invariant-loop-tid
invariant-loop-tid g l =
    let w = world l.cat l.store.stored in
    let o = padded (width l.q) (has (param_set (plan l.p)).0) l.outer in
    IsDraining l.q (relation_of (plan l.p)).0 l.initial.tuples.set (run w l.q (plan l.p) o) (l.fn.fetches + fetches w l.q (plan l.p) o) (l.fn.reads + looks w l.q (plan l.p) o) l.tuples l.rows l.fetches l.reads

abbrev pub decreases-loop-tid : goal.decreases-loop-tid
decreases-loop-tid g l = length l.rows
