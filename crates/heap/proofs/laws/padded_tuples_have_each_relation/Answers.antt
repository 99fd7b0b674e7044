use Rattle.heap.proofs.PaddingLemmas.{length-padded, padded-inside, padded-outside}
use Rattle.heap.proofs.laws.padded_tuples_have_each_relation.Goals as goal

pub returns-clause-each : goal.returns-clause-each
returns-clause-each c = length-padded

pub returns-clause-inside : goal.returns-clause-inside
returns-clause-inside c = padded-inside

pub returns-clause-outside : goal.returns-clause-outside
returns-clause-outside c = padded-outside
