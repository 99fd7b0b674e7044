use Rattle.query_reader.proofs.PlaceLemmas.{statement-select}
use Rattle.query_reader.proofs.laws.a_statement_has_its_select.Goals as goal

pub returns : goal.returns
returns c = statement-select
