use Rattle.std.proofs.Common.{◌≡◌, List, ◌∷◌, length}
use Rattle.sql_grammar.specs.Terminals.{Terminal, Ident}
use Rattle.sql_grammar.specs.Syntax.{Mark}
use Rattle.expr_reader.specs.Lists.{further_parts}
use Rattle.ddl_reader.proofs.ListLemmas.{So}
use Rattle.index_reader.specs.work.Reads.{words_of_names_left}
use Rattle.index_reader.proofs.ListPartLemmas.{name_parts}
use Rattle.index_reader.proofs.names.names.Given as goal

abbrev pub invariant-more : goal.invariant-more
invariant-more l = (x : Ident) (xs : List (Mark × Ident)) (m : Mark) (rest : List Terminal) → l.fn.from ≡ words_of_names_left x xs m rest → So (name_parts l.cat l.table) (x ∷ further_parts (λ n. n) xs) l.all.items l.from m rest

abbrev pub decreases-more : goal.decreases-more
decreases-more l = length l.from
