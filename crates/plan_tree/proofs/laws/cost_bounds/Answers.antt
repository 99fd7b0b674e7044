use Rattle.plan_tree.proofs.BoundLemmas.{some-estimated, startup-most, sort-most, nest-most, merge-most}
use Rattle.plan_tree.proofs.laws.cost_bounds.Goals as goal

pub returns : goal.returns
returns z = record {
  rows = λ c q p some. some-estimated c q some p;
  startup = λ c q p some. startup-most c q some p;
  sort = sort-most;
  nest = λ c q o i some. nest-most c q some o i;
  merge = merge-most;
}
