-- A query whose names are bound to a catalogue (PostgreSQL manual, chapter Queries, and Data Types; the limits and the list of
-- used columns are own).
use Rattle.std.specs.Prelude.{◌≡◌, Bool, false, List, Some, ◌<◌, ◌≤◌, length, find, map, All, Contains, IsTrue}
use Rattle.catalog.specs.pg_base_limits_TheConstants.{MOST_ATOMS, MOST_CONJUNCTS}
use Rattle.pg_expr.specs.Columns.{each_column, atom_count_of}
use Rattle.pg_expr.specs.Cond.{Cond, conds_of}
use Rattle.pg_expr.specs.Typed.{IsTyped}
use Rattle.pg_expr.specs.declared.operand.ColRef.{ColRef}
use Rattle.catalog.specs.Contents.{Contents, IsColumn}
use Rattle.catalog.specs.Range.{Range, IsRange, table_of, type_in}
use Rattle.eq_classes.specs.declared.order.OrderItem.{OrderItem}
use Rattle.eq_classes.specs.Classes.{Class, Premises, conjuncts_in, direction_by, orders_by}
use Rattle.eq_classes.specs.Clauses.{has_constant}
use Rattle.eq_classes.specs.Holding.{IsClassTable}
use Rattle.sql_query.specs.Queries.{Query}

-- a column of a relation of the query: one of that relation's table
pub record IsColumnOf (c : Contents) (range : Range) (named : ColRef) : Type 0 where
  pub relation : named.rel.0 < length range
  pub column : IsColumn c (table_of range named) named.col

-- a condition names these columns alone: a test that all of these pass, each column of the condition passes
abbrev pub NamesOnly : List ColRef → Cond → Type 0
NamesOnly columns e = (test : ColRef → Bool) → All (λ x. IsTrue (test x)) columns → IsTrue (each_column test e)

-- what the classes of a query are made of: its conjuncts in pushed form, a list of order items and the types of its columns
abbrev pub given_with : Contents → Query → List OrderItem → Premises
given_with c q items = record { conjuncts = conjuncts_in q.where_all; order = items; type_of = type_in c q.range }

-- of a query by itself these items are those of its ORDER BY
abbrev pub given_of : Contents → Query → Premises
given_of c q = given_with c q q.order

-- the columns of order items
abbrev pub ordered_columns : List OrderItem → List ColRef
ordered_columns items = map (λ (i : OrderItem). i.col) items

-- the first item of ORDER BY that is by a class has the class's direction; a class that has a constant leaves it free
abbrev pub IsDirected : Contents → Query → Class → Type 0
IsDirected c q k = has_constant k ≡ false → (item : OrderItem) → find (orders_by (type_in c q.range) k) q.order ≡ Some item →
    direction_by (Some item) ≡ (k.descending, k.nulls_first)

-- the conjuncts in pushed form, a constant among them, and the atoms of these conditions are not too many
pub record IsWithinLimits (es : List Cond) : Type 0 where
  pub conjuncts : length (conjuncts_in es) ≤ MOST_CONJUNCTS
  pub atoms : atom_count_of (conds_of es) ≤ MOST_ATOMS

-- the query is one over the catalogue: it has a relation at least, its relations are tables there, each column that it names
-- is one of a relation, it names every column of the select list, of ORDER BY and of its conditions, its conditions are
-- well typed and keep the limits, and its classes are theirs and those of a list of order items that it names, in which each
-- column of ORDER BY stands; an item of ORDER BY whose class has no constant and belongs to no earlier item has its direction
pub record IsWellBound (c : Contents) (q : Query) : Type 0 where
  pub range : IsRange c q.range
  pub used : All (IsColumnOf c q.range) q.used
  pub select : All (Contains q.used) q.select
  pub order : All (λ i. Contains q.used i.col) q.order
  pub conditions : All (NamesOnly q.used) q.where_all
  pub typed : All (IsTyped (type_in c q.range)) q.where_all
  pub limits : IsWithinLimits q.where_all
  -- the order items of which its classes are made
  pub items : List OrderItem
  pub named : All (λ i. Contains q.used i.col) items
  pub classes : IsClassTable (given_with c q items) q.classes
  pub stands : All (λ i. Contains (ordered_columns items) i.col) q.order
  pub directions : All (IsDirected c q) q.classes.classes
