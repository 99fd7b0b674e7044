use Rattle.std.proofs.Common.{◌≡◌, ◌+◌, drop}
use Rattle.certificate_text.specs.work.Words.{word_end}
use Rattle.certificate_text.proofs.cursor.word_length.Given as goal

abbrev pub invariant-loop-n : goal.invariant-loop-n
invariant-loop-n l = word_end l.text ≡ l.n + word_end (drop l.n l.text)
