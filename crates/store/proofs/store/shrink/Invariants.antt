use Rattle.std.proofs.Common.{◌≡◌, length, map, take}
use Rattle.store.specs.work.Kept.{cut_back}
use Rattle.store.specs.work.View.{built}
use Rattle.store.proofs.store.shrink.Given as goal

abbrev pub invariant-loop-n : goal.invariant-loop-n
invariant-loop-n g l = record {
  long : length l.indexes.items ≡ length l.cat.indexes;
  cut : map built l.indexes.items ≡ cut_back l.t l.before (take l.n l.cat.indexes) (map built l.fn.indexes.items);
}
