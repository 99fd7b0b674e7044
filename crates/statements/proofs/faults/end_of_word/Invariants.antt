use Rattle.std.proofs.Common.{◌≡◌, drop}
use Rattle.index_reader.specs.Places.{end_of_word as end_of_word_at}
use Rattle.statements.proofs.faults.end_of_word.Given as goal

abbrev pub invariant-loop-token : goal.invariant-loop-token
invariant-loop-token l = end_of_word_at (drop l.token-index l.tokens) l.at ≡ end_of_word_at l.tokens l.at
