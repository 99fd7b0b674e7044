use Rattle.std.proofs.Common.{◌≡◌, ◌≤◌, ◌+◌, length, take}
use Rattle.pg_base.specs.declared.limits.TheConstants.{MOST_INDEXES}
use Rattle.catalog.specs.Contents.{indexes_of}
use Rattle.catalog.specs.Candidates.{with_candidates}
use Rattle.index_reader.proofs.room.indexes_on.Given as goal

abbrev pub invariant-loop-x : goal.invariant-loop-x
invariant-loop-x l = (l.count ≡ length (indexes_of (with_candidates l.cat (take l.x-index l.candidates)) l.table)) × (l.count ≤ MOST_INDEXES + l.x-index)
