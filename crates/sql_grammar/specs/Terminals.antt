-- The terminals of the grammar: words with what they say and where they stand.
use Rattle.std.specs.Prelude.{ℕ, List}
use Rattle.sql_lex.specs.declared.tokens.Token.{Token}
use Rattle.sql_grammar.specs.declared.class.Word.{Word}
use Rattle.sql_grammar.specs.declared.class.Symbol.{Symbol}
use Rattle.sql_grammar.specs.declared.class.Free.{Free}

-- a name with its token: a word with a place of its own in the grammar, or another one by its bytes in small letters (own)
pub data Ident : Type 0 where
  free : Free → Token → Ident
  other : List ℕ → Token → Ident

-- what a word says, with its token
pub record Said : Type 0 where
  pub value : List ℕ
  pub token : Token

-- a terminal with its token: numbers and operators by their bytes, quoted texts by their value (PostgreSQL manual, chapter SQL Syntax)
pub data Terminal : Type 0 where
  t_key : Word → Token → Terminal
  t_mark : Symbol → Token → Terminal
  t_name : Ident → Terminal
  t_number : Said → Terminal
  t_quoted : Said → Terminal
  t_operator : Said → Terminal
  t_semicolon : Token → Terminal
  t_end : Token → Terminal

-- its token
abbrev pub token_of : Ident → Token
token_of (free _ t) = t
token_of (other _ t) = t
