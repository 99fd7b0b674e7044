use Rattle.sql_lex.proofs.UniqueLaws.{one_list, one_fault, no_fault}
use Rattle.sql_lex.proofs.laws.one_reading.Goals as goal

pub returns : goal.returns
returns c = record {
  words = one_list;
  fault = λ text from a b (ts, s) (us, q). one_fault text from ts us a b s q;
  apart = λ text from ts at w (before, s). no_fault text from ts before at w s;
}
