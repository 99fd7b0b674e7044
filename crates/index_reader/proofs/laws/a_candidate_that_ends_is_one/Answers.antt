use Rattle.index_reader.proofs.CandLemmas.{cand-that-ends}
use Rattle.index_reader.proofs.laws.a_candidate_that_ends_is_one.Goals as goal

pub returns : goal.returns
returns c = cand-that-ends
