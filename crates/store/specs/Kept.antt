-- What is kept of a catalogue: the rows of its tables, and its indexes built over them (PostgreSQL manual, chapter Indexes;
-- the order of equal keys is own).
use Rattle.std.specs.Prelude.{ℕ, ◌-◌, ◌*◌, length}
use Rattle.pg_base.specs.declared.numbers.TableNo.{TableNo}
use Rattle.heap.specs.Stored.{Stored}
use Rattle.catalog.specs.Contents.{Contents, indexes_of}

-- the looks of a load by which this comes to be stored of a table: one at each new row for each index of the table
abbrev pub load_looks : Contents → TableNo → (old new : Stored) → ℕ
load_looks c t old new = length (indexes_of c t) * (length new.rows - length old.rows)
