use Rattle.query_reader.proofs.PlaceLemmas.{part-that-ends}
use Rattle.query_reader.proofs.laws.a_select_that_ends_is_a_part.Goals as goal

pub returns : goal.returns
returns c = part-that-ends
