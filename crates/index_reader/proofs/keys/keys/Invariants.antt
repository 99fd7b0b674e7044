use Rattle.std.proofs.Common.{◌≡◌, List, length}
use Rattle.sql_grammar.specs.Terminals.{Terminal}
use Rattle.sql_grammar.specs.Syntax.{KeyTree, Mark}
use Rattle.ddl_reader.proofs.ListLemmas.{So}
use Rattle.index_reader.specs.Keys.{all_key_trees}
use Rattle.index_reader.specs.work.Reads.{words_of_keys_left}
use Rattle.index_reader.proofs.ListPartLemmas.{key_parts}
use Rattle.index_reader.proofs.keys.keys.Given as goal

abbrev pub invariant-more : goal.invariant-more
invariant-more l = (x : KeyTree) (xs : List (Mark × KeyTree)) (m : Mark) (rest : List Terminal) → l.fn.from ≡ words_of_keys_left x xs m rest → So (key_parts l.cat l.table l.method) (all_key_trees x xs) l.all.items l.from m rest

abbrev pub decreases-more : goal.decreases-more
decreases-more l = length l.from
