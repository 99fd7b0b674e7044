use Rattle.std.proofs.Common.{◌≡◌, [], take, drop}
use Rattle.catalog.specs.Candidates.{with_candidates}
use Rattle.index_reader.specs.AdviseCandidates.{with_room}
use Rattle.index_reader.specs.work.Walk.{HaveRoom}
use Rattle.index_reader.proofs.room.room_fault.Given as goal

abbrev pub invariant-loop-n : goal.invariant-loop-n
invariant-loop-n l =
    (with_room l.cat (take l.n l.candidates) (drop l.n l.names) (drop l.n l.candidates) ≡ with_room l.cat [] l.names l.candidates) ×
    HaveRoom (with_candidates l.cat (take l.n l.candidates))
