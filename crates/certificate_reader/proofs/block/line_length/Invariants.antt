use Rattle.std.proofs.Common.{◌≡◌, ◌+◌, drop}
use Rattle.certificate_reader.specs.work.Reading.{line_end}
use Rattle.certificate_reader.proofs.block.line_length.Given as goal

abbrev pub invariant-loop-n : goal.invariant-loop-n
invariant-loop-n l = line_end l.text ≡ l.n + line_end (drop l.n l.text)
