-- Working words beside those of `Terminals`.
use Rattle.std.specs.Prelude.{Option, Some, None}
use Rattle.sql_grammar.specs.declared.class.Free.{Free}
use Rattle.sql_grammar.specs.declared.class.Class.{Class}
use Rattle.sql_grammar.specs.declared.class.Class.TheVariants.{Key, Mark, Name, Number, Quoted, Operator, Semicolon, End}
use Rattle.sql_grammar.specs.Terminals.{Ident, Terminal, free, other, t_key, t_mark, t_name, t_number, t_quoted, t_operator, t_semicolon, t_end}

-- a name's place in the grammar, where it has one
abbrev pub place_of : Ident → Option Free
place_of (free w _) = Some w
place_of (other _ _) = None

-- what the grammar sees of a terminal
abbrev pub class_of : Terminal → Class
class_of (t_key w _) = Key w
class_of (t_mark s _) = Mark s
class_of (t_name i) = Name (place_of i)
class_of (t_number _) = Number
class_of (t_quoted _) = Quoted
class_of (t_operator _) = Operator
class_of (t_semicolon _) = Semicolon
class_of (t_end _) = End
