use Rattle.std.proofs.Common.{ℕ, List, ◌++◌, ◌-◌, ◌≤◌, length}
use Rattle.sql_lex.specs.declared.tokens.Token.{Token}
use Rattle.sql_lex.specs.Words.{AreWords, IsWordFault}
use Rattle.sql_lex.proofs.statement.lex_statement.Given as goal

abbrev pub invariant-words : goal.invariant-words
invariant-words l = record {
  words : (ts : List Token) → AreWords l.text l.at ts → AreWords l.text l.fn.from (l.tokens.items ++ ts);
  stops : (place : ℕ) → IsWordFault l.text l.at place → IsWordFault l.text l.fn.from place;
  within : l.at ≤ length l.text;
}

abbrev pub decreases-words : goal.decreases-words
decreases-words l = length l.text - l.at
