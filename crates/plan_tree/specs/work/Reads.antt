-- The relations that a plan reads, and what is asked of the query that it is of. Own.
use Rattle.std.specs.Prelude.{◌≤◌, ◌<◌, ℕ, All, length}
use Rattle.pg_base.specs.declared.numbers.RelNo.{RelNo}
use Rattle.pg_base.specs.declared.rel_set.RelSet.{RelSet}
use Rattle.pg_base.specs.declared.limits.TheConstants.{MOST_ATOMS}
use Rattle.pg_expr.specs.Columns.{atom_count}
use Rattle.sql_query.specs.catalog_Contents.{Contents}
use Rattle.eq_classes.specs.Clauses.{Clause}
use Rattle.path_cost.specs.work.Columns.{AreTables, IsOver}
use Rattle.sql_query.specs.Queries.{Query}
use Rattle.plan_tree.specs.Plans.{Plan, seq, index, index_only, bitmap, sort, nest, merge, GivenScan}

-- each relation that a plan reads is below a number
abbrev pub ReadsBelow : ℕ → Plan → Type 0
ReadsBelow n (seq r) = r.0 < n
ReadsBelow n (index r i backward p) = r.0 < n
ReadsBelow n (index_only r i backward p) = r.0 < n
ReadsBelow n (bitmap r p bits) = r.0 < n
ReadsBelow n (sort keys input) = ReadsBelow n input
ReadsBelow n (nest outer inner) = ReadsBelow n outer × ReadsBelow n inner
ReadsBelow n (merge keys outer inner) = ReadsBelow n outer × ReadsBelow n inner

-- a query over a catalogue: its relations are tables there, no more than a set holds, and its clauses are over them, each
-- of no more atoms than a statement may have
pub record IsOverTables (c : Contents) (q : Query) : Type 0 where
  pub tables : AreTables c q.range
  pub few : length q.range ≤ 16
  pub clauses : All (λ (k : Clause). IsOver c q.range k.cond) q.classes.clauses
  pub atoms : All (λ (k : Clause). atom_count k.cond ≤ MOST_ATOMS) q.classes.clauses

-- a scan that is given rows, by its relation and its parameterisation
abbrev pub scan_of : RelNo × RelSet → GivenScan
scan_of s = record { relation = s.0; param = s.1 }
