use Rattle.expr_reader.proofs.PlaceLemmas.{noted-next}
use Rattle.expr_reader.proofs.places.ColumnPlaces.of.Goals as goal

pub loop-n-preserved : goal.loop-n-preserved
loop-n-preserved c = noted-next c.args.columns.now c.loop-n.n _ c.loop-n.first c.note.new.first c.loop-n-test.true c.loop-n.invariant c.note.ensures
