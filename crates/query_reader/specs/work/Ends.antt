-- What stands behind a part of a SELECT: by these words its reading knows where it ends (own).
use Rattle.std.specs.Prelude.{List, [], ◌∷◌, Bool, true, false, not, ◌&&◌}
use Rattle.sql_grammar.specs.Terminals.{Terminal, free, t_key, t_mark, t_name, t_semicolon, t_end}
use Rattle.sql_grammar.specs.work.Unique.{ends_expr}
use Rattle.sql_grammar.specs.declared.class.Word.TheVariants.{As, Asc, Desc, Group, Limit, Offset, Order, Where}
use Rattle.sql_grammar.specs.declared.class.Free.TheVariants.{Nulls}
use Rattle.sql_grammar.specs.declared.class.Symbol.TheVariants.{Comma, Dot}

-- no `.` stands next
abbrev pub ends_item : List Terminal → Bool
ends_item (t_mark Dot _ ∷ _) = false
ends_item _ = true

-- neither AS nor a name stands next
abbrev pub ends_alias : List Terminal → Bool
ends_alias (t_key As _ ∷ _) = false
ends_alias (t_name _ ∷ _) = false
ends_alias _ = true

-- nothing is left, or a word that stands behind all of FROM is next
abbrev pub ends_from : List Terminal → Bool
ends_from [] = true
ends_from (t_key Where _ ∷ _) = true
ends_from (t_key Group _ ∷ _) = true
ends_from (t_key Order _ ∷ _) = true
ends_from (t_key Limit _ ∷ _) = true
ends_from (t_key Offset _ ∷ _) = true
ends_from (t_semicolon _ ∷ _) = true
ends_from (t_end _ ∷ _) = true
ends_from _ = false

-- a comma is next, or nothing that goes on the group before it
abbrev pub ends_group : List Terminal → Bool
ends_group (t_mark Comma _ ∷ _) = true
ends_group ts = ends_from ts

-- WHERE stands next
abbrev pub begins_where : List Terminal → Bool
begins_where (t_key Where _ ∷ _) = true
begins_where _ = false

-- neither WHERE stands next nor a word that goes on an expression
abbrev pub ends_where : List Terminal → Bool
ends_where ts = not (begins_where ts) && ends_expr ts

-- no word that goes on an item of ORDER BY stands next: no dot, ASC, DESC or `nulls`
abbrev pub ends_ordering : List Terminal → Bool
ends_ordering (t_mark Dot _ ∷ _) = false
ends_ordering (t_key Asc _ ∷ _) = false
ends_ordering (t_key Desc _ ∷ _) = false
ends_ordering (t_name (free Nulls _) ∷ _) = false
ends_ordering _ = true

-- nothing is left, or a word that stands behind an order is next: LIMIT, OFFSET, or the one that ends the statement
abbrev pub ends_order : List Terminal → Bool
ends_order [] = true
ends_order (t_key Limit _ ∷ _) = true
ends_order (t_key Offset _ ∷ _) = true
ends_order (t_semicolon _ ∷ _) = true
ends_order (t_end _ ∷ _) = true
ends_order _ = false

-- no LIMIT stands next
abbrev pub ends_limit : List Terminal → Bool
ends_limit (t_key Limit _ ∷ _) = false
ends_limit _ = true

-- nothing is left, or the word that ends the statement is next
abbrev pub ends_window : List Terminal → Bool
ends_window [] = true
ends_window (t_semicolon _ ∷ _) = true
ends_window (t_end _ ∷ _) = true
ends_window _ = false
