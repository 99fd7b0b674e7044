use Rattle.std.proofs.Common.{◌≡◌, ◌-◌, ◌∷◌, List, length}
use Rattle.sql_lex.specs.declared.tokens.Token.{Token}
use Rattle.index_reader.specs.work.Walk.{AreApart, Row, RowAt}
use Rattle.index_reader.proofs.CandidateLemmas.{Going}
use Rattle.index_reader.proofs.candidates.candidates.Given as goal

abbrev pub invariant-each : goal.invariant-each
invariant-each l =
    ((w : Row) (start : Token) (later : List Token) → l.tokens ≡ start ∷ later → RowAt l.text l.tokens l.first w → Going l.cat start l.text l.tokens l.candidates.items l.names.items l.at w) ×
    AreApart l.cat l.candidates.items × (length l.names.items ≡ length l.candidates.items)

abbrev pub decreases-each : goal.decreases-each
decreases-each l = length l.tokens - l.at
