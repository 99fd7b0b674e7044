-- Working words beside those of `Contents`.
use Rattle.std.specs.Prelude.{◌≡◌, ◌+◌, length, take}
use Rattle.pg_base.specs.declared.numbers.TableNo.{TableNo}
use Rattle.pg_base.specs.declared.numbers.IndexNo.{IndexNo}
use Rattle.catalog.specs.Contents.{Contents}

-- the number is that of the last table, or of the last index
abbrev pub IsLastTable : Contents → TableNo → Type 0
IsLastTable c t = t.0 + 1 ≡ length c.tables

-- the number is that of the index made last
abbrev pub IsLastIndex : Contents → IndexNo → Type 0
IsLastIndex c i = i.0 + 1 ≡ length c.indexes

-- the tables before one alone, or the indexes before one; all else as it is
abbrev pub tables_before : Contents → TableNo → Contents
tables_before c t = record c { tables = take t.0 c.tables }

-- the catalogue without an index and those that were made after it
abbrev pub indexes_before : Contents → IndexNo → Contents
indexes_before c i = record c { indexes = take i.0 c.indexes }
