use Rattle.std.proofs.Common.{◌≡◌, [], ◌++◌, drop, map}
use Rattle.index_reader.specs.declared.keys.KeyRead.{KeyRead}
use Rattle.index_reader.proofs.index.index_keys.Given as goal

-- what is put so far, with what is left, is all
abbrev pub invariant-loop-key : goal.invariant-loop-key
invariant-loop-key l = l.all.items ++ map (λ (k : KeyRead). k.key) (drop l.key-index l.keys) ≡ ([]) ++ map (λ (k : KeyRead). k.key) l.keys
