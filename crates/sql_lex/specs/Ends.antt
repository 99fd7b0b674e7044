-- Tokens by their number, and where the last one ends. Own.
use Rattle.std.specs.Prelude.{ℕ, ◌-◌, List, length, slice_index_or}
use Rattle.sql_lex.specs.declared.tokens.Kind.TheVariants.{End}
use Rattle.sql_lex.specs.declared.tokens.Token.{Token}

-- the token of this number; past the last one, one without bytes at the text's begin
abbrev pub token_at : List Token → ℕ → Token
token_at tokens k = slice_index_or tokens k (record { kind = End; start = 0; end = 0 })

-- where the last token ends
abbrev pub end_of : List Token → ℕ
end_of tokens = (token_at tokens (length tokens - 1)).end
