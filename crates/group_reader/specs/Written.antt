-- What the parts of a grouped SELECT's syntax tree say: each name in small letters, with its token (own).
use Rattle.sql_lex.specs.declared.tokens.Token.{Token}
use Rattle.sql_grammar.specs.Syntax.{Col, bare, qualified, Output, every, every_of, one}
use Rattle.sql_grammar.specs.Terminals.{token_of}

-- the last word of a column
abbrev pub word_of_col : Col → Token
word_of_col (bare n) = token_of n
word_of_col (qualified q d n) = token_of n

-- the word of the error of the columns of an item that are not grouped: a star, or the column's name
abbrev pub word_of_output : Output → Token
word_of_output (every m) = m
word_of_output (every_of q d m) = m
word_of_output (one c) = word_of_col c
