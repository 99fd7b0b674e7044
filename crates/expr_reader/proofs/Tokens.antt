-- The words of a statement stand within its text, and numbers are digits.
use Rattle.std.proofs.Common.{◌≡◌, ℕ, suc, Bool, true, false, ◌&&◌, List, [], ◌∷◌, length, get_or, All, ap₂, subst, sym, MatchBool, nat_lt, arith}
use Rattle.std.proofs.lemmas.Bool.Decides.{nat_tests}
use Rattle.std.proofs.lemmas.List.Elements.{All-cons, All-nil}
use Rattle.sql_lex.specs.declared.tokens.Token.{Token}
use Rattle.sql_lex.specs.declared.tokens.Kind.{Kind}
use Rattle.sql_lex.specs.declared.tokens.Kind.TheVariants.{Word as WordKind, Number as NumberKind, Quoted as QuotedKind, Symbol as SymbolKind, End as EndKind}
use Rattle.sql_lex.specs.Forms.{IsToken}
use Rattle.sql_lex.specs.Words.{AreWords, is_last}
use Rattle.pg_value.specs.Fields.{is_numeral}
use Rattle.sql_grammar.specs.Reading.{bytes_of_token}
use Rattle.sql_grammar.specs.work.Reading.{IsWithin}
use Rattle.expr_reader.specs.work.Reading.{HasDigits}
use Rattle.expr_reader.proofs.Named.{formed}
use Rattle.sql_grammar.proofs.StatementWords.{inside-by}

some-bytes : (n : ℕ) → nat_lt 0 (suc n) ≡ true
some-bytes n = grind (arith, nat_tests)

number-digits : (kind : Kind) (bytes rest : List ℕ) → IsToken kind bytes rest → kind ≡ NumberKind → is_numeral bytes ≡ true
number-digits NumberKind [] rest form is = absurd (form.0)
number-digits NumberKind (b ∷ bs) rest form is = ap₂ ◌&&◌ (some-bytes (length bs)) form.0
number-digits WordKind bytes rest form is = absurd (cc (is))
number-digits QuotedKind bytes rest form is = absurd (cc (is))
number-digits SymbolKind bytes rest form is = absurd (cc (is))
number-digits EndKind bytes rest form is = absurd (cc (is))

pub words-digits : (text : List ℕ) (from : ℕ) (tokens : List Token) → AreWords text from tokens → All (HasDigits text) tokens
words-digits text from tokens w = λ k d lt.
    let (rest, form) = formed text from tokens w k d lt in
    number-digits (get_or tokens k d).kind (bytes_of_token text (get_or tokens k d)) rest form
