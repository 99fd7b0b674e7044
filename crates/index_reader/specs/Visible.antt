-- The columns that the condition of an index may name: those of its table, under the table's name, as those of relation 0
-- (PostgreSQL manual, CREATE INDEX, Partial Indexes).
use Rattle.std.specs.Prelude.{ℕ, List}
use Rattle.pg_base.specs.declared.numbers.TableNo.{TableNo}
use Rattle.pg_value.specs.declared.value.SqlType.{SqlType}
use Rattle.pg_expr.specs.declared.operand.ColRef.{ColRef}
use Rattle.catalog.specs.Contents.{Contents, table_at}
use Rattle.catalog.specs.Indexes.{type_at}
use Rattle.expr_reader.specs.Scope.{Scope}
use Rattle.query_reader.specs.Scope.{columns_from}

-- what names are looked up in: the contents of a catalogue, and a table there under a name
pub record Sight : Type 0 where
  pub contents : Contents
  pub table : TableNo
  pub alias : List ℕ

-- the columns of the table under its name, as names are looked up in them
abbrev pub visible_in : Sight → Scope
visible_in s = columns_from s.alias (record { 0 = 0 }) 0 (table_at s.contents s.table).names

-- the type of a column
abbrev pub sight_type : Sight → ColRef → SqlType
sight_type s x = type_at (table_at s.contents s.table).columns x.col
