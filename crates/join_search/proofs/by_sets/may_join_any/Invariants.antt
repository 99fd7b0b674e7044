use Rattle.std.proofs.Common.{take}
use Rattle.std.specs.Prelude.{All}
use Rattle.join_search.specs.work.Past.{HasNoJoins}
use Rattle.join_search.specs.work.Tables.{paths_at}
use Rattle.join_search.proofs.by_sets.may_join_any.Given as goal

-- no joins of the parts so far are wanted
abbrev pub invariant-loop-part : goal.invariant-loop-part
invariant-loop-part l = All (HasNoJoins l.task.cat.now l.task.q.now l.task.asked (paths_at l.table) l.set) (take l.part-index l.parts)
