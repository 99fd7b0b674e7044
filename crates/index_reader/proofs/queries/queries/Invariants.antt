use Rattle.std.proofs.Common.{◌≡◌, ◌≤◌, ◌-◌, ◌∷◌, List, length}
use Rattle.sql_lex.specs.declared.tokens.Token.{Token}
use Rattle.index_reader.specs.work.Walk.{ArePlannable, QueryRow, QueryRowAt}
use Rattle.index_reader.proofs.QueryLemmas.{Going}
use Rattle.index_reader.proofs.queries.queries.Given as goal

abbrev pub invariant-each : goal.invariant-each
invariant-each l =
    ((w : QueryRow) (start : Token) (later : List Token) → l.tokens ≡ start ∷ later → QueryRowAt l.text l.tokens l.first w → Going l.cat start l.text l.tokens l.queries.items l.at w) ×
    ArePlannable l.cat l.queries.items × (l.at ≤ length l.tokens)

abbrev pub decreases-each : goal.decreases-each
decreases-each l = length l.tokens - l.at
