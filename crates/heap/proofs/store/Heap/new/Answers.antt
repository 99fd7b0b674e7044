use Rattle.std.proofs.Common.{refl, arith, rules}
use Rattle.std.proofs.lemmas.List.Elements.{All-nil}
use Rattle.heap.specs.work.Tuples.{runs_of}
use Rattle.heap.proofs.store.Heap.new.Goals as goal

pub invariant_of-result : goal.invariant_of-result
unfolding runs_of
invariant_of-result g c = (record { few = omega arith; each = All-nil _ }, search rules)

pub returns : goal.returns
unfolding runs_of
returns g c = refl
