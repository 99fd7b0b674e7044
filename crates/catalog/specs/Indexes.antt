-- Definitions of indexes (PostgreSQL manual, CREATE INDEX; the limits are own).
use Rattle.std.specs.Prelude.{◌≡◌, ◌≢◌, ◌<◌, ◌+◌, ◌≤◌, ◌&&◌, ◌++◌, ℕ, Bool, true, false, not, List, length, map, take, nat_eq, nat_lt, All, AllPairs, Contains, IsTrue, slice_index_or, Option, Some, None}
use Rattle.std.specs.List.{list_all}
use Rattle.pg_base.specs.declared.limits.TheConstants.{MOST_COLUMNS}
use Rattle.pg_base.specs.declared.numbers.ColNo.{ColNo}
use Rattle.pg_base.specs.declared.numbers.TableNo.{TableNo}
use Rattle.opfamily.specs.pg_value_columns_Column.{Column}
use Rattle.opfamily.specs.pg_value_value_SqlType.{SqlType}
use Rattle.opfamily.specs.pg_value_value_SqlType_TheVariants.{Bool as BoolType}
use Rattle.opfamily.specs.declared.classes.IndexKey.{IndexKey}
use Rattle.opfamily.specs.declared.classes.Method.{Method}
use Rattle.opfamily.specs.declared.classes.Method.TheVariants.{Btree, Hash}
use Rattle.opfamily.specs.Answers.{accepted}
use Rattle.pg_expr.specs.Cond.{Cond}
use Rattle.pg_expr.specs.Columns.{each_column}
use Rattle.pg_expr.specs.Pushed.{IsPushed}
use Rattle.pg_expr.specs.Typed.{IsTyped}

-- the definition of an index: its table, its access method, its key columns, the columns that it holds beside them (INCLUDE), and the condition of the rows that it has; the condition's columns are those of relation 0
pub record Index : Type 0 where
  pub table : TableNo
  pub method : Method
  pub keys : List IndexKey
  pub include : List ColNo
  pub predicate : Option Cond

-- the key columns, and after them those of INCLUDE
abbrev pub columns_of : Index → List ColNo
columns_of x = map (λ (k : IndexKey). k.col) x.keys ++ x.include

-- no two of some columns are the same
abbrev pub AreDifferentColumns : List ColNo → Type 0
AreDifferentColumns cs = AllPairs (λ a b. a ≢ b) cs

-- the first column that stands before already is at a place
pub record IsFirstTwice (cs : List ColNo) (place : ℕ) : Type 0 where
  pub within : place < length cs
  pub before : AreDifferentColumns (take place cs)
  pub twice : Contains (take place cs) (slice_index_or cs place (record { 0 = 0 }))

-- the method has indexes of this form: a hash index has one key, ascending with NULLs last, and no INCLUDE column
abbrev pub is_plain : IndexKey → Bool
is_plain k = not k.descending && not k.nulls_first

-- the form of a definition suits its method (CREATE INDEX: a hash index has one column, no order and no INCLUDE)
abbrev pub has_form : Index → Bool
has_form x = form x.method
  where
    form : Method → Bool
    form Btree = true
    form Hash = nat_eq (length x.keys) 1 && (nat_eq (length x.include) 0 && list_all is_plain x.keys)

-- the type of a column; what stands where a number is none of a column
abbrev pub no_column : Column
no_column = record { typed = BoolType; not_null = false }

-- the declared type of a column, by its number from 0
abbrev pub type_at : List Column → ColNo → SqlType
type_at columns c = (slice_index_or columns c.0 no_column).typed

-- a key is a column of the table, and its class accepts the method and the column's type
pub record IsKeyOf (columns : List Column) (m : Method) (k : IndexKey) : Type 0 where
  pub column : k.col.0 < length columns
  pub class : accepted k.class m (type_at columns k.col) ≡ true

-- a condition over the columns of one table, as those of relation 0: well typed and in pushed form
pub record IsConditionOf (columns : List Column) (e : Cond) : Type 0 where
  pub within : IsTrue (each_column (λ x. nat_eq x.rel.0 0 && nat_lt x.col.0 (length columns)) e)
  pub typed : IsTyped (λ x. type_at columns x.col) e
  pub pushed : IsPushed e

-- the predicate of a partial index, where there is one, is a condition over the columns of its table alone
abbrev pub IsPredicateOf : List Column → Option Cond → Type 0
IsPredicateOf columns None = Unit {0}
IsPredicateOf columns (Some e) = IsConditionOf columns e

-- a definition fits a table's columns: it has 1 to MOST_COLUMNS columns, all the table's, with a key among them
pub record FitsColumns (columns : List Column) (x : Index) : Type 0 where
  pub some : 0 < length x.keys
  pub few : length x.keys + length x.include ≤ MOST_COLUMNS
  pub keys : All (IsKeyOf columns x.method) x.keys
  pub include : All (λ (c : ColNo). c.0 < length columns) x.include
  pub predicate : IsPredicateOf columns x.predicate

-- a lawful definition: it fits, no column stands twice, and the method has its form
pub record IsLawfulIndex (columns : List Column) (x : Index) : Type 0 where
  pub fits : FitsColumns columns x
  pub distinct : AreDifferentColumns (columns_of x)
  pub form : has_form x ≡ true
