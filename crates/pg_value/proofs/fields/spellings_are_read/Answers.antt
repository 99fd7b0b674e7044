use Rattle.pg_value.proofs.Spelled.{number_law, flag_law}
use Rattle.pg_value.proofs.fields.spellings_are_read.Goals as goal

pub returns-clause-number : goal.returns-clause-number
returns-clause-number c = number_law

pub returns-clause-flag : goal.returns-clause-flag
returns-clause-flag c = flag_law
