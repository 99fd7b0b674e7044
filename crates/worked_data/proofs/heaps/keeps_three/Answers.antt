use Rattle.std.proofs.Common.{refl}
use Rattle.pg_base.specs.Sets.{has}
use Rattle.heap.specs.Tuples.{rank}
use Rattle.worked_data.proofs.heaps.keeps_three.Goals as goal

pub pairs-three-requires : goal.pairs-three-requires
unfolding has rank
pairs-three-requires c = refl
