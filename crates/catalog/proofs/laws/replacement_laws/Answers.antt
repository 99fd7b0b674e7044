use Rattle.catalog.proofs.ReplacementLemmas.{known-other, known-there, sizes-replaced, stats-replaced}
use Rattle.catalog.proofs.laws.replacement_laws.Goals as goal

pub returns-clause-sizes : goal.returns-clause-sizes
returns-clause-sizes c cat t rows pages more held lt = sizes-replaced cat t lt rows pages more held

pub returns-clause-known : goal.returns-clause-known
returns-clause-known c cat t x s h lt within = known-there cat t lt x s h within

pub returns-clause-columns : goal.returns-clause-columns
returns-clause-columns c cat t x y s lt ne = known-other cat t lt x y s ne

pub returns-clause-replaced : goal.returns-clause-replaced
returns-clause-replaced c cat t x s u lt = stats-replaced cat t lt x s u
