use Rattle.std.proofs.Common.{List, take}
use Rattle.std.specs.Prelude.{All}
use Rattle.pg_base.specs.declared.rel_set.RelSet.{RelSet}
use Rattle.plan_tree.specs.work.Paths.{Path}
use Rattle.join_search.specs.work.Offers.{AreNestsServed}
use Rattle.join_search.specs.work.Tables.{none, paths_at}
use Rattle.join_search.proofs.past.are_nests_past.Given as goal

-- the nested loops with the inner paths of the parameterisations so far are past the limit
abbrev pub invariant-loop-p : goal.invariant-loop-p
invariant-loop-p l = (front : List Path) → All (λ (p : RelSet). AreNestsServed l.task.cat.now l.task.q.now l.task.asked front (paths_at l.table l.outer.set none) (paths_at l.table l.inner p)) (take l.p-index l.p-items)
