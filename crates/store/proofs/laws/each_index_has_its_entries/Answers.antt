use Rattle.store.proofs.StoreLemmas.{built-at}
use Rattle.store.proofs.laws.each_index_has_its_entries.Goals as goal

pub returns : goal.returns
returns c = λ contents k i of is. built-at contents k of i is
