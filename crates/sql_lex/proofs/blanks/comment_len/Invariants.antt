use Rattle.std.proofs.Common.{◌≡◌, ◌+◌, ◌-◌, ◌≤◌, length, drop}
use Rattle.sql_lex.proofs.CommentLaws.{closing}
use Rattle.sql_lex.proofs.blanks.comment_len.Given as goal

abbrev pub invariant-marks : goal.invariant-marks
invariant-marks l = record {
  same : closing l.open (drop l.at l.bytes) ≡ closing 1 l.bytes;
  some : 1 ≤ l.open;
  few : l.open ≤ l.at + 1;
  within : l.at ≤ length l.bytes;
}

abbrev pub decreases-marks : goal.decreases-marks
decreases-marks l = length l.bytes - l.at
