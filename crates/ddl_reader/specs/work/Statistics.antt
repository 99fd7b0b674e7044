-- Working words beside those of `Statistics`.
use Rattle.std.specs.Prelude.{Result}
use Rattle.pg_base.specs.declared.numbers.TableNo.{TableNo}
use Rattle.pg_base.specs.declared.numbers.ColNo.{ColNo}
use Rattle.pg_base.specs.declared.faults.Code.TheVariants.{S2, S3}
use Rattle.pg_base.specs.declared.faults.Fault.{Fault}
use Rattle.expr_reader.specs.declared.cursor.Spelled.{Spelled}
use Rattle.catalog.specs.Contents.{Contents}
use Rattle.catalog.specs.Tables.{table_named, column_named}
use Rattle.ddl_reader.specs.Statistics.{known}

-- the table of a name that was read
abbrev pub table_spelled : Contents → Spelled → Result TableNo Fault
table_spelled cat name = known S2 name.token (table_named cat name.bytes)

-- the column of a name that was read, of a table
abbrev pub column_spelled : Contents → TableNo → Spelled → Result ColNo Fault
column_spelled cat t name = known S3 name.token (column_named cat t name.bytes)
