use Rattle.sql_query.proofs.OrderLemmas.{own_directions}
use Rattle.sql_query.proofs.laws.own_classes_have_their_directions.Goals as goal

pub returns : goal.returns
returns g c q is = own_directions c q is
