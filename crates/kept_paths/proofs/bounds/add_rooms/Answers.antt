use Rattle.std.proofs.Common.{arith}
use Rattle.std.proofs.lemmas.Result.{on_ok_weaker}
use Rattle.kept_paths.proofs.ReadLemmas.{rooms-all}
use Rattle.kept_paths.proofs.bounds.add_rooms.Goals as goal

pub returns-clause-rooms : goal.returns-clause-rooms
returns-clause-rooms c =
    on_ok_weaker c.add_room-2.result
    (rooms-all c.add_room-2.new.bounds c.args.list.now (λ m lt. c.add_room-2.ensures.rooms _ (c.loop-n.invariant.rooms m (omega (arith, lt, c.loop-n-test.false)))))
    c.add_room-2.ensures.room
