-- Working words beside those of `Tables`.
use Rattle.std.specs.Prelude.{ℕ, Result}
use Rattle.pg_base.specs.declared.faults.Fault.{Fault}
use Rattle.sql_grammar.specs.Terminals.{Ident, Said, token_of}
use Rattle.sql_grammar.specs.Faults.{bytes_of}
use Rattle.catalog.specs.Contents.{Contents}
use Rattle.catalog.specs.Tables.{table_named}
use Rattle.expr_reader.specs.declared.cursor.Spelled.{Spelled}
use Rattle.ddl_reader.specs.Tables.{Reading, data_for_named}

-- COPY into the table of a name, with this text for NULL, both as they were read
abbrev pub data_spelled : Contents → Spelled → Spelled → ℕ → Result Reading Fault
data_spelled cat name null start = data_for_named (table_named cat name.bytes) name.token null.bytes null.token start

-- COPY into the table of a name, with this text for NULL, both as they are written
abbrev pub data_named : Contents → Ident → Said → ℕ → Result Reading Fault
data_named cat n null start = data_for_named (table_named cat (bytes_of n)) (token_of n) null.value null.token start
