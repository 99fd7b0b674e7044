use Rattle.query_reader.proofs.GrammarLemmas.{explained-by}
use Rattle.query_reader.proofs.select.explains.Goals as goal

pub returns : goal.returns
returns c = explained-by c.takes_free.result _ c.new-from.result c.takes_free.new.self c.new-from.ensures c.takes_free.ensures.took c.takes_free.ensures.other
