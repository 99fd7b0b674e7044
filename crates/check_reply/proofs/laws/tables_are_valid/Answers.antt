use Rattle.check_reply.proofs.LineLemmas.{table-valid, valid-table}
use Rattle.check_reply.proofs.laws.tables_are_valid.Goals as goal

pub returns-clause-valid : goal.returns-clause-valid
returns-clause-valid z = λ c q block bytes rest h e. valid-table c q block bytes rest h e

pub returns-clause-table : goal.returns-clause-table
returns-clause-table z = λ c q block bytes h t. table-valid c q block bytes h t
