-- The parts of a FROM list, from the left.
use Rattle.std.specs.Prelude.{List, [], ◌∷◌}
use Rattle.sql_grammar.specs.Syntax.{Mark, Group}

-- the groups behind the first of FROM
abbrev pub groups_after : List (Mark × Group) → List Group
groups_after [] = []
groups_after ((_, g) ∷ gs) = g ∷ groups_after gs
