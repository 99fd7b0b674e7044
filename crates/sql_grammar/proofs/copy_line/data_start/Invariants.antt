use Rattle.std.proofs.Common.{◌≡◌, ◌-◌, ◌≤◌, length}
use Rattle.sql_grammar.specs.CopyLine.{after_blanks}
use Rattle.sql_grammar.proofs.copy_line.data_start.Given as goal

abbrev pub invariant-loop-at : goal.invariant-loop-at
invariant-loop-at l = record { inside : l.at ≤ length l.text; same : after_blanks l.text l.at ≡ after_blanks l.text l.from }

abbrev pub decreases-loop-at : goal.decreases-loop-at
decreases-loop-at l = length l.text - l.at
