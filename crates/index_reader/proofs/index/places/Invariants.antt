use Rattle.std.proofs.Common.{◌≡◌, [], ◌∷◌, ◌++◌, drop, map}
use Rattle.sql_lex.specs.declared.tokens.Token.{Token}
use Rattle.index_reader.proofs.index.places.Given as goal

-- what is put so far, with what is left, is all
abbrev pub invariant-loop-name : goal.invariant-loop-name
invariant-loop-name l = l.all.items ++ map (λ (u : Token). u.start) (drop l.name-index l.names) ≡ (l.fn.title.start ∷ []) ++ map (λ (u : Token). u.start) l.names
