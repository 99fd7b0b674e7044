use Rattle.index_reader.proofs.StatementLemmas.{begins-by}
use Rattle.index_reader.proofs.advise.is_advise.Goals as goal

pub returns : goal.returns
returns c = begins-by _ _ _ _ c.new-from.ensures c.takes_free.ensures.took c.takes_free.ensures.other
