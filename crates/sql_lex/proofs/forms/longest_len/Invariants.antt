use Rattle.std.proofs.Common.{◌≡◌, max, map, drop}
use Rattle.sql_lex.specs.work.Cuts.{longest_of}
use Rattle.sql_lex.proofs.forms.longest_len.Given as goal

abbrev pub invariant-loop-text : goal.invariant-loop-text
invariant-loop-text l = max l.longest (longest_of (map (λ text. text.now) (drop l.text-index l.texts)) l.bytes) ≡ longest_of (map (λ text. text.now) l.texts) l.bytes
