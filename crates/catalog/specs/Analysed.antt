-- What was found of a table by its rows, in place of what statements gave for it (PostgreSQL manual, ANALYZE).
use Rattle.std.specs.Prelude.{map, Some}
use Rattle.pg_base.specs.declared.numbers.TableNo.{TableNo}
use Rattle.catalog.specs.declared.statistics.TableStats.{TableStats}
use Rattle.catalog.specs.Contents.{Contents, table_at, with_definition}

-- the sizes and the statistics of all columns, in place of any former ones
abbrev pub with_analysis : Contents → TableNo → TableStats → Contents
with_analysis c t s = with_definition c t (record (table_at c t) { sizes = Some (record { rows = s.rows; pages = s.pages }); stats = map Some s.columns })
