-- What a step of a cursor says of the words that were left and of those that are left (own).
use Rattle.sql_grammar.specs.Terminals.{Ident, token_of}
use Rattle.sql_grammar.specs.Faults.{bytes_of}
use Rattle.expr_reader.specs.declared.cursor.Spelled.{Spelled}

-- what a name says
abbrev pub spelled : Ident → Spelled
spelled n = record { bytes = bytes_of n; token = token_of n }
