use Rattle.path_cost.proofs.LeftLemmas.{kept-most}
use Rattle.path_cost.proofs.WeightLemmas.{share-most, weight-most}
use Rattle.path_cost.proofs.laws.shares_of_rows.Goals as goal

pub returns : goal.returns
returns c = record {
  share = λ k range e lawful tables columns. share-most k range lawful tables e columns;
  weight = λ k range es n lawful tables columns. weight-most k range lawful tables es n columns;
  kept = λ k range n es ns lawful tables columns some. kept-most k range lawful tables n es ns columns some;
}
