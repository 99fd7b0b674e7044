use Rattle.std.proofs.Common.{◌≡◌, ◌-◌, ◌≤◌, length, drop}
use Rattle.sql_lex.proofs.QuoteLaws.{past_quote}
use Rattle.sql_lex.proofs.forms.quoted_len.Given as goal

abbrev pub invariant-inside : goal.invariant-inside
invariant-inside l = record {
  same : past_quote (drop l.at l.bytes) ≡ past_quote (drop 1 l.bytes);
  within : l.at ≤ length l.bytes;
}

abbrev pub decreases-inside : goal.decreases-inside
decreases-inside l = length l.bytes - l.at
