use Rattle.sql_grammar.specs.Faults.{terminals}
use Rattle.query_reader.proofs.GrammarLemmas.{no-other}
use Rattle.query_reader.proofs.laws.selects_are_no_other.Goals as goal

pub returns : goal.returns
returns c = λ text tokens begins x is. no-other x (terminals text tokens) is begins
