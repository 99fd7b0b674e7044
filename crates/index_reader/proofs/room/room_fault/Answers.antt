use Rattle.std.proofs.Common.{ap, arith}
use Rattle.catalog.specs.Contents.{NamedIndex}
use Rattle.index_reader.proofs.RoomLemmas.{room-step}
use Rattle.index_reader.proofs.room.room_fault.Goals as goal

pub loop-n-preserved : goal.loop-n-preserved
loop-n-preserved c =
    room-step c.args.cat.now c.args.names.now c.args.candidates.now c.loop-n.n c.index-candidates-n.result c.x.inside.def.table c.indexes_on.result c.loop-n-test.true c.requires.named c.index-candidates-n.is (ap (λ (y : NamedIndex). y.index.table) c.x.view_is) c.indexes_on.ensures
    (omega (arith, c.if-indexes_on-ge-MOST_INDEXES.false)) c.loop-n.invariant.0 c.loop-n.invariant.1
