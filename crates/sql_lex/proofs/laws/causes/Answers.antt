use Rattle.sql_lex.proofs.StopLaws.{why, because, not_closed_stops, stops_not_closed}
use Rattle.sql_lex.proofs.laws.causes.Goals as goal

pub returns : goal.returns
returns c = record {
  token = λ text. (why text, because text);
  comment = λ rest. (stops_not_closed rest, not_closed_stops rest);
}
