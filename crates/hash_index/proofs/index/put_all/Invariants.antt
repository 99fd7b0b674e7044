use Rattle.hash_index.specs.work.Chains.{AreChained}
use Rattle.hash_index.proofs.PlaceLemmas.{AreAdded}
use Rattle.hash_index.proofs.index.put_all.Given as goal

abbrev pub invariant-loop-row : goal.invariant-loop-row
invariant-loop-row l = AreAdded l.key l.fn.chains.groups.items l.fn.added.items l.row-iterator.rest.items l.places.items l.chains.groups.items × AreChained l.key l.chains.heads.items l.chains.groups.items l.chains.links
