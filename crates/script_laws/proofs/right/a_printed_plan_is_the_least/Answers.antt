use Rattle.script_laws.proofs.RightLemmas.{answer-right, explanation-right}
use Rattle.script_laws.proofs.right.a_printed_plan_is_the_least.Goals as goal

pub returns : goal.returns
returns z = record {
  answered = λ text before behind s q first is. answer-right text before behind s q first is;
  explained = λ text before behind s q first is. explanation-right text before behind s q first is;
}
