-- The limits within which every scan costs far less than a cost may. Own.
use Rattle.std.specs.Prelude.{◌≤◌, length, map, All, IsTrue}
use Rattle.pg_base.specs.declared.numbers.TableNo.{TableNo}
use Rattle.pg_expr.specs.Columns.{each_column, each_column_of}
use Rattle.pg_expr.specs.Cond.{Cond, Conds}
use Rattle.catalog.specs.Contents.{Contents, IsLawful, IsTable, table_at}
use Rattle.catalog.specs.Range.{Range}
use Rattle.catalog.specs.declared.limits.TheConstants.{MOST_NUMBER}
use Rattle.eq_classes.specs.Clauses.{Clause, ClassTable}
use Rattle.path_cost.specs.work.Columns.{AreTables, is_column_in}
use Rattle.path_cost.specs.Costs.{operators}

-- the columns of a condition are those of the relations
abbrev pub HasColumns : Contents → Range → Cond → Type 0
HasColumns c range e = IsTrue (each_column (is_column_in c range) e)

-- the columns of conditions are those of the relations
abbrev pub HaveColumns : Contents → Range → Conds → Type 0
HaveColumns c range es = IsTrue (each_column_of (is_column_in c range) es)

-- lawful contents with at most 10^9 rows loaded into each table; relations that are its tables; and at most 512 clauses
-- over their columns, with at most 1024 operators together
pub record AreWithinLimits (c : Contents) (range : Range) (t : ClassTable) : Type 0 where
  pub lawful : IsLawful c
  pub loaded : (n : TableNo) → IsTable c n → (table_at c n).loaded ≤ MOST_NUMBER
  pub tables : AreTables c range
  pub columns : All (λ (k : Clause). HasColumns c range k.cond) t.clauses
  pub few : length t.clauses ≤ 512
  pub operators : operators (map (λ (k : Clause). k.cond) t.clauses) ≤ 1024
