use Rattle.pathkeys.proofs.CoveringLemmas.{covers-prefix, prefix-covers}
use Rattle.pathkeys.proofs.laws.prefixes_are_covered.Goals as goal

pub returns : goal.returns
returns c = record { prefix = covers-prefix; converse = prefix-covers }
