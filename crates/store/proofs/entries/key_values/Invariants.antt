use Rattle.std.proofs.Common.{◌≡◌, map, take}
use Rattle.plan_tree.specs.Entries.{cell}
use Rattle.store.proofs.entries.key_values.Given as goal

abbrev pub invariant-loop-key : goal.invariant-loop-key
invariant-loop-key l = l.values.items ≡ map (λ k. cell l.row k.col) (take l.key-index l.keys)
