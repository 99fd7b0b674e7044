use Rattle.catalog.specs.Contents.{index_at}
use Rattle.pathkeys.proofs.OnceLemmas.{order_keys_are_keys}
use Rattle.pathkeys.proofs.StepLemmas.{keys_by_are_keys}
use Rattle.pathkeys.proofs.laws.keys_are_different_classes.Goals as goal

pub returns : goal.returns
returns c = record {
  index = λ contents t i r backward. keys_by_are_keys t r backward (index_at contents i).method (index_at contents i).keys;
  order = order_keys_are_keys;
}
