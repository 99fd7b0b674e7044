use Rattle.catalog.proofs.NamedLemmas.{known-lawful}
use Rattle.catalog.proofs.StatisticsLemmas.{allowed-lawful, lawful-allowed, prefix-whole}
use Rattle.catalog.proofs.laws.statistics_laws.Goals as goal

pub returns-clause-lawful : goal.returns-clause-lawful
returns-clause-lawful c = allowed-lawful

pub returns-clause-prefix : goal.returns-clause-prefix
returns-clause-prefix c = prefix-whole

pub returns-clause-of_column : goal.returns-clause-of_column
returns-clause-of_column c = known-lawful

pub returns-clause-allowed : goal.returns-clause-allowed
returns-clause-allowed c = lawful-allowed
