use Rattle.analyze.proofs.LawLemmas.{columns-lawful, columns-fit, table-allowed}
use Rattle.analyze.proofs.laws.analysis_is_lawful.Goals as goal

pub returns-clause-columns : goal.returns-clause-columns
returns-clause-columns c = columns-lawful

pub returns-clause-fit : goal.returns-clause-fit
returns-clause-fit c = columns-fit

pub returns-clause-allowed : goal.returns-clause-allowed
returns-clause-allowed c = table-allowed
