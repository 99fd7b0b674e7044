use Rattle.std.proofs.Common.{◌≡◌, ◌<◌, List, ◌∷◌, length, map}
use Rattle.sql_grammar.specs.Terminals.{Terminal}
use Rattle.sql_grammar.specs.Syntax.{Mark, ColDef}
use Rattle.ddl_reader.specs.Columns.{defined_column, further}
use Rattle.ddl_reader.specs.work.AsMeant.{words_of_body, seen}
use Rattle.ddl_reader.proofs.ListLemmas.{So}
use Rattle.ddl_reader.proofs.ColumnLemmas.{column_parts}
use Rattle.ddl_reader.proofs.columns.columns.Given as goal

abbrev pub invariant-more : goal.invariant-more
invariant-more l = (0 < length l.all.items) × ((x : ColDef) (xs : List (Mark × ColDef)) (m : Mark) (rest : List Terminal) → l.fn.from ≡ words_of_body x xs m rest →
    So column_parts (defined_column x ∷ further xs) (map seen l.all.items) l.from m rest)

abbrev pub decreases-more : goal.decreases-more
decreases-more l = length l.from
