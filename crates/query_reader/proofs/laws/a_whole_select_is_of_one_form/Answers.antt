use Rattle.query_reader.proofs.GrammarLemmas.{whole-query}
use Rattle.query_reader.proofs.laws.a_whole_select_is_of_one_form.Goals as goal

pub returns : goal.returns
returns c = whole-query
