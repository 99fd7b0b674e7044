-- Working words beside those of `Binding`.
use Rattle.std.specs.Prelude.{Bool, true, false, List, ◌++◌, filter_map}
use Rattle.sql_lex.specs.declared.tokens.Token.{Token}
use Rattle.sql_grammar.specs.Syntax.{GroupBy}
use Rattle.group_reader.specs.Binding.{Grouper, ungrouped_part, ungrouped_items, BoundLists, columns_of, shown}

-- what a SELECT is grouped by, with DISTINCT before its list or not, where this GROUP BY is written
abbrev pub grouper : Bool → GroupBy → Grouper
grouper true b = shown
grouper false b = columns_of b

-- the words of the errors of bound lists where they are not grouped, those of ORDER BY beside their last words
abbrev pub ungrouped_words : BoundLists → List Token → List Token
ungrouped_words l words = filter_map (ungrouped_part l.keys) l.parts ++ ungrouped_items l.keys l.order words
