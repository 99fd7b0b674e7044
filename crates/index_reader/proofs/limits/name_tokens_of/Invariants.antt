use Rattle.std.proofs.Common.{◌≡◌, [], ◌++◌, drop, map}
use Rattle.index_reader.specs.declared.keys.KeyRead.{KeyRead}
use Rattle.index_reader.specs.declared.names.NamedColumn.{NamedColumn}
use Rattle.index_reader.proofs.limits.name_tokens_of.Given as goal

-- what is put so far, with what is left, is all
abbrev pub invariant-loop-key : goal.invariant-loop-key
invariant-loop-key l = l.all.items ++ map (λ (k : KeyRead). k.token) (drop l.key-index l.keys) ≡ [] ++ map (λ (k : KeyRead). k.token) l.keys

abbrev pub invariant-loop-name : goal.invariant-loop-name
invariant-loop-name l = l.all.items ++ map (λ (n : NamedColumn). n.token) (drop l.name-index l.names) ≡ map (λ (k : KeyRead). k.token) l.fn.keys ++ map (λ (n : NamedColumn). n.token) l.names
