use Rattle.std.proofs.Common.{ap, ◌∙◌}
use Rattle.std.specs.Prelude.{is_some}
use Rattle.expr_reader.specs.work.Places.{is_it}
use Rattle.expr_reader.proofs.PlaceLemmas.{some-any}
use Rattle.expr_reader.proofs.places.ColumnPlaces.has.Goals as goal

pub returns : goal.returns
returns c = c.is_some.ensures ∙ (ap is_some c.place.ensures.is ∙ some-any (is_it c.args.x) c.args.self.now)
