-- Indexes that may be used for a relation. Source: PostgreSQL manual, Partial Indexes and Index-Only Scans and Covering Indexes.
use Rattle.std.specs.Prelude.{ℕ, Bool, not, ◌||◌, nat_eq, List, Option, Some, None}
use Rattle.std.specs.List.{list_any, list_all}
use Rattle.pg_base.specs.declared.numbers.ColNo.{ColNo}
use Rattle.pg_base.specs.declared.numbers.IndexNo.{IndexNo}
use Rattle.pg_expr.specs.declared.operand.ColRef.{ColRef}
use Rattle.pg_expr.specs.Cond.{Cond}
use Rattle.predicate_proof.specs.Derivation.{IsImplied}
use Rattle.catalog.specs.Contents.{Contents, index_at, table_at}
use Rattle.catalog.specs.Indexes.{Index, columns_of}
use Rattle.eq_classes.specs.Clauses.{ClassTable}
use Rattle.index_match.specs.Numbered.{base, conditions_of}

-- without a predicate always; else where the clauses of the relation alone imply it
abbrev pub IsUsableBy : Contents → ClassTable → ℕ → Index → Option Cond → Type 0
IsUsableBy c t r d None = Unit {0}
IsUsableBy c t r d (Some predicate) = IsImplied (table_at c d.table).columns (conditions_of (base t r)) predicate

-- an index may be used for a relation: it is known to have every row at which the relation's own clauses are True
-- (PostgreSQL, predtest.c)
abbrev pub IsUsable : Contents → ClassTable → IndexNo → ℕ → Type 0
IsUsable c t i r = IsUsableBy c t r (index_at c i) (index_at c i).predicate

-- an index holds each column of the relation that a list names, as a key column or an included one
abbrev pub holds_columns : Index → ℕ → List ColRef → Bool
holds_columns d r used = list_all (λ (x : ColRef). not (nat_eq x.rel.0 r) || list_any (λ (n : ColNo). nat_eq x.col.0 n.0) (columns_of d)) used
