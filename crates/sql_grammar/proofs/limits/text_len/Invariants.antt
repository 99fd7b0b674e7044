use Rattle.std.proofs.Common.{◌≡◌, ◌+◌, ◌≤◌, length, drop, false}
use Rattle.sql_grammar.specs.Reading.{unquoted}
use Rattle.sql_grammar.proofs.limits.text_len.Given as goal

abbrev pub invariant-loop-byte : goal.invariant-loop-byte
invariant-loop-byte l = record {
  few : l.len ≤ l.byte-index;
  same : l.len + length (unquoted l.second (drop l.byte-index l.inside)) ≡ length (unquoted false l.inside);
}
