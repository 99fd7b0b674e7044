use Rattle.script_laws.proofs.RightLemmas.{printed-right}
use Rattle.script_laws.proofs.right.a_printed_table_is_right.Goals as goal

pub returns : goal.returns
returns z = λ text before behind s q first is. printed-right text before behind s q first is
