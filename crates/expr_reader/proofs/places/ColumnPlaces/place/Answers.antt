use Rattle.expr_reader.proofs.PlaceLemmas.{within-list}
use Rattle.expr_reader.proofs.places.ColumnPlaces.place.Goals as goal

pub returns-clause-within : goal.returns-clause-within
returns-clause-within c = within-list c.args.self.now c.args.x _ c.noted.ensures
