use Rattle.std.proofs.Common.{◌≡◌, [], ◌++◌, drop, map}
use Rattle.index_reader.specs.declared.names.NamedColumn.{NamedColumn}
use Rattle.index_reader.proofs.index.columns.Given as goal

-- what is put so far, with what is left, is all
abbrev pub invariant-loop-name : goal.invariant-loop-name
invariant-loop-name l = l.all.items ++ map (λ (n : NamedColumn). n.col) (drop l.name-index l.names) ≡ ([]) ++ map (λ (n : NamedColumn). n.col) l.names
