use Rattle.std.proofs.Common.{drop, map}
use Rattle.pg_expr.specs.work.View.{cond}
use Rattle.scan_exec.specs.work.Scene.{tuple_of, world_of}
use Rattle.scan_exec.proofs.SetLemmas.{IsMarkingArms}
use Rattle.scan_exec.proofs.bitmap.mark_arms.Given as goal

abbrev pub invariant-loop-n : goal.invariant-loop-n
invariant-loop-n g l =
    IsMarkingArms (world_of l.at) l.at.q.now l.at.rel l.at.param (tuple_of l.at) (map cond l.arms) l.indexes (map cond (drop l.n l.arms)) (drop l.n l.indexes) l.fn.held l.held l.fn.reads l.reads
