-- Working words beside those of `Sorts`.
use Rattle.std.specs.Prelude.{Bool, true, false, List, ◌∷◌}
use Rattle.sql_grammar.specs.declared.class.Word.TheVariants.{Asc, Desc}
use Rattle.sql_grammar.specs.declared.class.Free.TheVariants.{Nulls}
use Rattle.sql_grammar.specs.Terminals.{Terminal, free, t_key, t_name}

-- neither ASC nor DESC stands next
abbrev pub ends_direction : List Terminal → Bool
ends_direction (t_key Asc _ ∷ _) = false
ends_direction (t_key Desc _ ∷ _) = false
ends_direction _ = true

-- `nulls` does not
abbrev pub ends_nulls_end : List Terminal → Bool
ends_nulls_end (t_name (free Nulls _) ∷ _) = false
ends_nulls_end _ = true
