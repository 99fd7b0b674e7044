use Rattle.std.proofs.Common.{◌≡◌, ◌<◌, length}
use Rattle.std.specs.Prelude.{All}
use Rattle.hash_index.specs.declared.chains.Place.{Place}
use Rattle.hash_index.specs.work.Chains.{taken_back}
use Rattle.hash_index.proofs.index.take_back.Given as goal

abbrev pub invariant-loop-place : goal.invariant-loop-place
invariant-loop-place l =
    All (λ (p : Place). p.slot < length l.chains.groups.items) l.places.items
    × (taken_back l.places.items l.chains.groups.items ≡ taken_back l.fn.places.items l.fn.chains.groups.items)
    × (l.chains.heads ≡ l.fn.chains.heads)
    × (l.chains.links ≡ l.fn.chains.links)

abbrev pub decreases-loop-place : goal.decreases-loop-place
decreases-loop-place l = length l.places.items
