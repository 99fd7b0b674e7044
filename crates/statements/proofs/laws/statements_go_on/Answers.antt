use Rattle.statements.proofs.PlaceLemmas.{read-behind}
use Rattle.statements.proofs.laws.statements_go_on.Goals as goal

pub returns : goal.returns
returns c = record {
  ahead = λ w text from next action within read. (read-behind w text from read.0 action next read.1 read.2).ahead within;
  inside = λ w text from next action within read. (read-behind w text from read.0 action next read.1 read.2).inside;
}
