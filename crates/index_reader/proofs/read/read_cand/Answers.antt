use Rattle.index_reader.specs.Meaning.{meaning_of_cand}
use Rattle.index_reader.proofs.IndexLemmas.{cand-read, cand-refused}
use Rattle.index_reader.proofs.read.read_cand.Goals as goal

pub returns-clause-read : goal.returns-clause-read
returns-clause-read c = λ x start later whole at. cand-read (meaning_of_cand c.args.cat.now start x) c.cand.result (c.cand.ensures.meaning x start later whole at)

pub returns-clause-refused : goal.returns-clause-refused
returns-clause-refused c = λ x start later whole at. cand-refused (meaning_of_cand c.args.cat.now start x) c.cand.result (c.cand.ensures.meaning x start later whole at)
