use Rattle.std.proofs.Common.{◌≡◌, drop}
use Rattle.std.specs.List.{fold, flat_map}
use Rattle.std.specs.Hash.FoldHasher.{initial, write}
use Rattle.group_values.specs.work.Hash.{fed}
use Rattle.group_values.proofs.hash.hash_keys.Given as goal

abbrev pub invariant-loop-key : goal.invariant-loop-key
invariant-loop-key l = fold write l.state (flat_map fed (drop l.key-index l.keys)) ≡ fold write initial (flat_map fed l.keys)
