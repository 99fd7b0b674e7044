use Rattle.query_reader.proofs.GrammarLemmas.{forms-apart}
use Rattle.query_reader.proofs.laws.forms_are_apart.Goals as goal

pub returns : goal.returns
returns c = forms-apart
