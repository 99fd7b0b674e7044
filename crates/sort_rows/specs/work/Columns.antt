-- The columns by which tuples of a set of relations are sorted, and the order of their values (PostgreSQL,
-- src/backend/executor/nodeSort.c; PostgreSQL manual, chapter Queries, Sorting Rows).
use Rattle.std.specs.Prelude.{◌≡◌, true, List, [], ◌∷◌, map, Option, option_map, ℕ, slice_index_or}
use Rattle.std.specs.List.{filter_map}
use Rattle.std.specs.Ordering.{on, then_cmp}
use Rattle.std.specs.declared.cmp.Ordering.{Ordering}
use Rattle.std.specs.declared.cmp.Ordering.TheVariants.{Equal}
use Rattle.pg_value.specs.declared.value.Value.{Value}
use Rattle.pg_value.specs.ColumnOrder.{column_order}
use Rattle.opfamily.specs.KeyOrder.{first_value, later_values}
use Rattle.pg_expr.specs.declared.operand.ColRef.{ColRef}
use Rattle.sql_query.specs.catalog_Contents.{Contents}
use Rattle.eq_classes.specs.Classes.{Class}
use Rattle.eq_classes.specs.Clauses.{Set, ClassTable, first_in}
use Rattle.eq_classes.specs.Listing.{class_at}
use Rattle.heap.specs.Tuples.{rank}
use Rattle.sql_query.specs.Queries.{Query}
use Rattle.sql_query.specs.WellBound.{IsColumnOf}
use Rattle.pathkeys.specs.Keys.{Keys}
use Rattle.sort_rows.specs.declared.columns.SortColumn.{SortColumn}
use Rattle.std.specs.Borrow.{Bor}
use Rattle.pg_base.specs.Sets.{has}
use Rattle.pg_base.specs.declared.rel_set.RelSet.{RelSet}
use Rattle.pg_value.specs.declared.value.Value.TheVariants.{Null}
use Rattle.eq_classes.specs.declared.classes.ClassNo.{ClassNo}
use Rattle.pathkeys.specs.work.Finding.{class_numbers}

-- the column of a class: its first member inside a set, with what the class says of the order of its values
abbrev pub sorting_by : Class → Set → ColRef → SortColumn
sorting_by c set x = record { column = x; place = rank set x.rel.0; family = c.family; descending = c.descending; nulls_first = c.nulls_first }

-- the column that stands for a class where tuples of a set are sorted; none where the class has no member there
abbrev pub column_in : Class → Set → Option SortColumn
column_in c set = option_map (sorting_by c set) (first_in c set)

-- the columns that stand for the classes of a key list where tuples of a set are sorted
abbrev pub sorted_columns : ClassTable → Set → Keys → List SortColumn
sorted_columns t set keys = filter_map (λ n. column_in (class_at t.classes n) set) keys

-- the columns that stand for the classes of a list where tuples of a set of relations are sorted
abbrev pub sorting_columns : ClassTable → RelSet → List ClassNo → List SortColumn
sorting_columns t set keys = sorted_columns t (has set.0) (class_numbers keys)

-- two values of a column
abbrev pub values_order : SortColumn → Value → Value → Ordering
values_order c = column_order c.family c.descending c.nulls_first

-- two lists of values, by the first column that tells them apart; NULL past the end of a list
abbrev pub columns_order : List SortColumn → List Value → List Value → Ordering
columns_order [] = λ a b. Equal
columns_order (c ∷ cs) = then_cmp (on first_value (values_order c)) (on later_values (columns_order cs))

-- the values of a row at columns, where the columns of the query have these values
abbrev pub key_at : List SortColumn → (ColRef → Value) → List Value
key_at cs value = map (λ (c : SortColumn). value c.column) cs

-- a column of one of the relations of a set, with the number of those that stand before it
pub record IsSortColumn (c : Contents) (q : Query) (set : Set) (s : SortColumn) : Type 0 where
  pub inside : set s.column.rel.0 ≡ true
  pub column : IsColumnOf c q.range s.column
  pub place : s.place ≡ rank set s.column.rel.0

-- the values that a list of references to values stands for
abbrev pub lent_key_values : List (Bor Value) → List Value
lent_key_values vs = map (λ v. v.now) vs

-- the value at a place of a key, and NULL past its end
abbrev pub lent_value : List (Bor Value) → ℕ → Value
lent_value key place = slice_index_or (lent_key_values key) place Null
