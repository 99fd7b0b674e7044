use Rattle.std.proofs.Common.{◌∙◌, true, false, ap, sym, arith}
use Rattle.catalog.specs.Contents.{NamedIndex}
use Rattle.index_reader.proofs.RoomLemmas.{count-step}
use Rattle.index_reader.proofs.room.indexes_on.Goals.{then-eq, else-eq}
use Rattle.index_reader.proofs.room.indexes_on.Goals as goal

pub overflow_add-count : goal.overflow_add-count
overflow_add-count c = omega (arith, c.loop-x.invariant.1, c.loop-x-test.true, c.requires.few)

pub loop-x-preserved : goal.loop-x-preserved
loop-x-preserved c =
    elim c.if-eq.branch [
      | then-eq w ↦ count-step c.args.cat.now c.args.candidates.now c.loop-x.x-index c.loop-x.count c.if-eq.count c.x-item.result c.x.inside.def.table.0 c.args.table true c.loop-x-test.true c.x-item.is (ap (λ (y : NamedIndex). y.index.table.0) c.x.view_is) (sym c.eq.ensures ∙ w.if-eq.true) c.loop-x.invariant.0 c.loop-x.invariant.1 (omega (arith, w.count-is))
      | else-eq w ↦ count-step c.args.cat.now c.args.candidates.now c.loop-x.x-index c.loop-x.count c.if-eq.count c.x-item.result c.x.inside.def.table.0 c.args.table false c.loop-x-test.true c.x-item.is (ap (λ (y : NamedIndex). y.index.table.0) c.x.view_is) (sym c.eq.ensures ∙ w.if-eq.false) c.loop-x.invariant.0 c.loop-x.invariant.1 (omega (arith, w.count-is))
    ]
