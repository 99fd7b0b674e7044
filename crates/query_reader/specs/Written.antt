-- What the parts of a SELECT's syntax tree say: each name in small letters, with its token (own).
use Rattle.std.specs.Prelude.{List, [], ◌∷◌, Option, Some, None}
use Rattle.sql_grammar.specs.Syntax.{Mark, bare, qualified, Output, every, every_of, one, Alias, no_alias, bare_alias, as_alias, Relation, relation}
use Rattle.expr_reader.specs.declared.cursor.Spelled.{Spelled}
use Rattle.expr_reader.specs.Reading.{spelled}
use Rattle.query_reader.specs.declared.written.Item.{Item}
use Rattle.query_reader.specs.declared.written.Item.TheVariants.{Every, EveryOf, Bare, Qualified}
use Rattle.query_reader.specs.declared.written.Source.{Source}

-- an item
abbrev pub item_of : Output → Item
item_of (every _) = Every
item_of (every_of q _ _) = EveryOf (spelled q)
item_of (one (bare n)) = Bare (spelled n)
item_of (one (qualified q _ n)) = Qualified (spelled q) (spelled n)

-- further items
abbrev pub items_of : List (Mark × Output) → List Item
items_of [] = []
items_of ((_, o) ∷ os) = item_of o ∷ items_of os

-- an alias, with or without AS
abbrev pub alias_of : Alias → Option Spelled
alias_of no_alias = None
alias_of (bare_alias n _) = Some (spelled n)
alias_of (as_alias _ n) = Some (spelled n)

-- a relation
abbrev pub source_of : Relation → Source
source_of (relation n a) = record { table = spelled n; alias = alias_of a }
