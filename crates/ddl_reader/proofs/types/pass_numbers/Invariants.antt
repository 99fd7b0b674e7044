use Rattle.std.proofs.Common.{◌≡◌, List, length}
use Rattle.sql_grammar.specs.Syntax.{Mark}
use Rattle.sql_grammar.specs.Terminals.{Terminal, Said}
use Rattle.ddl_reader.specs.work.Columns.{words_left}
use Rattle.ddl_reader.proofs.types.pass_numbers.Given as goal

abbrev pub invariant-more : goal.invariant-more
invariant-more l = (ns : List (Mark × Said)) (m : Mark) (rest : List Terminal) → l.fn.from ≡ words_left ns m rest → (left : List (Mark × Said)) × (l.from ≡ words_left left m rest)

abbrev pub decreases-more : goal.decreases-more
decreases-more l = length l.from
