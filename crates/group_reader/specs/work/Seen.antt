-- What contracts see of the parts of a grouped query (own).
use Rattle.std.specs.Prelude.{◌≡◌, List, [], ◌∷◌, ◌++◌, map, Option, Some, None, Result}
use Rattle.pg_base.specs.declared.faults.Fault.{Fault}
use Rattle.pg_expr.specs.declared.operand.ColRef.{ColRef}
use Rattle.pg_expr.specs.Cond.{Cond}
use Rattle.catalog.specs.Range.{Range, type_in}
use Rattle.eq_classes.specs.Classes.{conjuncts_in}
use Rattle.eq_classes.specs.Holding.{IsClassTable}
use Rattle.sql_query.specs.Grouped.{GroupedQuery}
use Rattle.group_query.specs.Grouping.{plain_item}
use Rattle.query_reader.specs.work.Scope.{Sight, visible_in}
use Rattle.group_reader.specs.declared.group.Ready.{Ready}
use Rattle.group_reader.specs.declared.lists.Lists.{Lists}
use Rattle.group_reader.specs.declared.written.Words.{Words}
use Rattle.group_reader.specs.Binding.{BoundLists, item_in, named_in_lists}
use Rattle.group_reader.specs.work.Meaning.{lists_said}

-- bound lists
abbrev pub lists_of : Lists → BoundLists
lists_of l = record { parts = l.parts.items; order = l.order.items; keys = l.keys.items }

-- a list with what is found
abbrev pub with_found : List ColRef → Option ColRef → List ColRef
with_found xs None = xs
with_found xs (Some x) = xs ++ x ∷ []

-- what a grouped query over these relations is made of is made of these lists and these conjuncts
pub record IsReady (s : Sight) (ws : List Cond) (l : BoundLists) (r : Ready) : Type 0 where
  pub lists : lists_of r.lists ≡ l
  pub classes : IsClassTable (record { conjuncts = conjuncts_in ws; order = l.order ++ map plain_item l.keys; type_of = type_in s.contents s.range }) r.classes
  pub used : r.used.items ≡ named_in_lists l ws
  pub items : r.items.items ≡ map (item_in l.keys) l.parts

-- the grouped query of these relations and conjuncts
abbrev pub grouped_of : Range → List Cond → Ready → GroupedQuery
grouped_of range ws r = record {
  base = record { range = range; classes = r.classes; select = []; order = []; used = r.used.items; where_all = ws; window = None };
  keys = r.lists.keys.items;
  items = r.items.items;
  order = r.lists.order.items;
}

-- the lists of some words, bound over relations, or their first fault
abbrev pub words_said : Sight → Words → Result BoundLists Fault
words_said s w = lists_said (visible_in s) (type_in s.contents s.range) w.listed.items w.distinct w.columns.items w.sorts.items
