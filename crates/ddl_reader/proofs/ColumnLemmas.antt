-- The columns of CREATE TABLE as a list of parts.
use Rattle.std.proofs.Common.{◌≡◌, true, List, [], ◌∷◌, ◌++◌, refl}
use Rattle.sql_grammar.specs.declared.class.Symbol.TheVariants.{Close}
use Rattle.sql_grammar.specs.Terminals.{Terminal, t_mark}
use Rattle.sql_grammar.specs.Syntax.{Mark, ColDef}
use Rattle.sql_grammar.specs.Words.{words_of_coldef, words_of_columns}
use Rattle.ddl_reader.specs.Columns.{Written, BoundColumn, defined_column, bound_column}
use Rattle.ddl_reader.specs.work.AsMeant.{ends_column}
use Rattle.ddl_reader.proofs.ListLemmas.{Parts}

abbrev pub column_parts : Parts ColDef Written BoundColumn
column_parts = record { part = defined_column; bind = bound_column; words = words_of_coldef; further = words_of_columns; none = refl; some = λ m x xs. refl }

pub columns-end : (ys : List (Mark × ColDef)) (m : Mark) (rest : List Terminal) → ends_column (words_of_columns ys ++ t_mark Close m ∷ rest) ≡ true
columns-end [] m rest = refl
columns-end ((_, _) ∷ _) m rest = refl
