use Rattle.statements.proofs.NeverRefusedLemmas.{analysis-fault, analysis-allowed}
use Rattle.statements.proofs.laws.analysis_is_never_refused.Goals as goal

pub returns-clause-fault : goal.returns-clause-fault
returns-clause-fault c = analysis-fault

pub returns-clause-allowed : goal.returns-clause-allowed
returns-clause-allowed c = analysis-allowed
