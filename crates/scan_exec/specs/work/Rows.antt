-- The rows that a scan of some kind has still to come to. Own.
use Rattle.std.specs.Prelude.{List}
use Rattle.scan_exec.specs.Coming.{Coming}
use Rattle.scan_exec.specs.declared.rows.Kind.{Kind}
use Rattle.scan_exec.specs.declared.rows.Kind.TheVariants.{Seq, Index, Only, Hash, Bits}

-- the rows that a scan has still to come to, by whichever way it reads its relation
abbrev pub rows_of_kind : {C F L : Type 0} → Kind C F L → List Coming
rows_of_kind (Seq rows) = rows
rows_of_kind (Index rows) = rows
rows_of_kind (Only rows) = rows
rows_of_kind (Hash rows) = rows
rows_of_kind (Bits rows) = rows
