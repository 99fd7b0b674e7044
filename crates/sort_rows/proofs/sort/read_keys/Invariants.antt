use Rattle.std.proofs.Common.{◌≡◌, ◌≤◌, ◌+◌, ◌*◌, map, take}
use Rattle.std.specs.List.{flat_map}
use Rattle.heap.specs.Tuples.{relation_count}
use Rattle.sort_rows.specs.work.KeySource.{key_of}
use Rattle.sort_rows.proofs.sort.read_keys.Given as goal

abbrev pub invariant-loop-n : goal.invariant-loop-n
invariant-loop-n g l = record {
  keys : map (λ v. v.now) l.keys.items ≡ flat_map (key_of l.at) (take l.n l.input.rows);
  reads : l.reads ≤ l.fn.reads + relation_count l.input.set * l.n;
}
