use Rattle.std.proofs.Common.{ap}
use Rattle.eq_classes.specs.Clauses.{Set}
use Rattle.path_cost.specs.Estimates.{param_rows, set_rows}
use Rattle.path_cost.proofs.laws.rows_of_equal_sets.Goals as goal

pub returns : goal.returns
returns c = record {
  set = λ k range t a b same. ap (λ (s : Set). set_rows k range t s) (λ i n. same n i);
  param = λ k range t r p q same. ap (λ (s : Set). param_rows k range t r s) (λ i n. same n i);
}
