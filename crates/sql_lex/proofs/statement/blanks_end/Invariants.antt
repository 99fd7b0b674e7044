use Rattle.std.proofs.Common.{◌-◌, ◌≤◌, length, drop}
use Rattle.sql_lex.specs.Blanks.{PassesBlanks}
use Rattle.sql_lex.proofs.statement.blanks_end.Given as goal

abbrev pub invariant-blanks : goal.invariant-blanks
invariant-blanks l = record {
  order : l.from ≤ l.at;
  within : l.at ≤ length l.text;
  passes : PassesBlanks (drop l.from l.text) (drop l.at l.text);
}

abbrev pub decreases-blanks : goal.decreases-blanks
decreases-blanks l = length l.text - l.at
