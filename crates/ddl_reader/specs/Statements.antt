-- What a statement that defines a table, gives or finds statistics, or loads data means, and its first fault (PostgreSQL manual,
-- CREATE TABLE, COPY and ANALYZE; STATISTICS is own).
use Rattle.std.specs.Prelude.{◌≡◌, ℕ, List, ◌∷◌, Result}
use Rattle.pg_base.specs.declared.faults.Fault.{Fault}
use Rattle.sql_grammar.specs.Terminals.{token_of}
use Rattle.sql_grammar.specs.Syntax.{Statement, empty, create_table, create_index, query, copy, sizes, column_statistics, analyze, advise, check, use_plan, grouped}
use Rattle.sql_grammar.specs.Faults.{bytes_of}
use Rattle.sql_grammar.specs.CopyLine.{IsDataStart}
use Rattle.catalog.specs.Contents.{Contents}
use Rattle.catalog.specs.Tables.{table_named}
use Rattle.ddl_reader.specs.Columns.{defined_column, further, bound_all}
use Rattle.ddl_reader.specs.Tables.{Reading, bound_table, data_after}
use Rattle.ddl_reader.specs.Statistics.{stated_rows, column_statistics_of, commons_of, bounds_of, analysis}

-- what a statement means, or its first fault after its syntax: of COPY the rest of its line comes first, from the `;` on
abbrev pub Means : Contents → List ℕ → Statement → Result Reading Fault → Type 0
Means cat text (create_table _ _ n _ c cs _ _) r = r ≡ bound_table (bytes_of n) (token_of n) (bound_all (defined_column c ∷ further cs))
Means cat text (copy k n null) r =
    (start : Result ℕ Fault) × IsDataStart text k.stop.end start × (r ≡ data_after (table_named cat (bytes_of n)) (token_of n) null.value null.token start)
Means cat text (sizes k n rows pages e) r = r ≡ stated_rows cat n rows pages
Means cat text (column_statistics k n c distinct nulls commons bounds e) r = r ≡ column_statistics_of cat n c distinct nulls (commons_of commons) (bounds_of bounds)
Means cat text (analyze offered k n e) r = r ≡ analysis cat n
Means cat text (empty e) r = ⊥
Means cat text (create_index x) r = ⊥
Means cat text (query x) r = ⊥
Means cat text (advise x) r = ⊥
Means cat text (check offered k x e) r = ⊥
Means cat text (use_plan offered u p x y e) r = ⊥
Means cat text (grouped offered u p x) r = ⊥
