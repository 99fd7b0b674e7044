-- What stands behind a part of a grouped SELECT: by these words its reading knows where it ends (own).
use Rattle.std.specs.Prelude.{List, [], ◌∷◌, Bool, true, false}
use Rattle.sql_grammar.specs.Terminals.{Terminal, t_key, t_mark, t_semicolon, t_end}
use Rattle.sql_grammar.specs.declared.class.Word.TheVariants.{Order}
use Rattle.sql_grammar.specs.declared.class.Symbol.TheVariants.{Dot, Open}

-- neither `.` nor `(` stands next
abbrev pub ends_listed : List Terminal → Bool
ends_listed (t_mark Dot _ ∷ _) = false
ends_listed (t_mark Open _ ∷ _) = false
ends_listed _ = true

-- nothing is left, or a word that stands behind GROUP BY is next: ORDER, or the one that ends the statement
abbrev pub ends_columns : List Terminal → Bool
ends_columns [] = true
ends_columns (t_key Order _ ∷ _) = true
ends_columns (t_semicolon _ ∷ _) = true
ends_columns (t_end _ ∷ _) = true
ends_columns _ = false
