use Rattle.std.proofs.Common.{◌≡◌, ◌*◌, length, take}
use Rattle.group_values.specs.work.Chains.{IsChained}
use Rattle.group_values.proofs.chains.Chains.widened.Given as goal

abbrev pub invariant-loop-hash : goal.invariant-loop-hash
invariant-loop-hash l = record {
  chained : IsChained l.wider;
  buckets : length l.wider.firsts.items ≡ 2 * length l.self.firsts.items;
  hashes : l.wider.hashes.items ≡ take l.hash-index l.self.hashes.items;
}
