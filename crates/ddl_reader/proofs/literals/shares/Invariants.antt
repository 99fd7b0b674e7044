use Rattle.std.proofs.Common.{◌≡◌, List, ◌∷◌, length}
use Rattle.sql_grammar.specs.Terminals.{Terminal}
use Rattle.sql_grammar.specs.Syntax.{Mark, Share}
use Rattle.expr_reader.specs.Lists.{further_parts}
use Rattle.ddl_reader.specs.Statistics.{common_words}
use Rattle.ddl_reader.specs.work.AsMeant.{words_of_shares_left}
use Rattle.ddl_reader.proofs.ListLemmas.{So}
use Rattle.ddl_reader.proofs.LiteralListLemmas.{share_parts}
use Rattle.ddl_reader.proofs.literals.shares.Given as goal

abbrev pub invariant-more : goal.invariant-more
invariant-more l = (x : Share) (xs : List (Mark × Share)) (m : Mark) (rest : List Terminal) → l.fn.from ≡ words_of_shares_left x xs m rest → So (share_parts l.t) (common_words x ∷ further_parts common_words xs) l.all.items l.from m rest

abbrev pub decreases-more : goal.decreases-more
decreases-more l = length l.from
