use Rattle.std.proofs.Common.{◌≡◌, ◌++◌, drop, map}
use Rattle.group_reader.specs.work.Meaning.{shown_at}
use Rattle.group_reader.proofs.bind.add_shown.Given as goal

-- what is put so far, with what is left, is all
abbrev pub invariant-loop-column : goal.invariant-loop-column
invariant-loop-column l = l.parts.items ++ map (shown_at l.word) (drop l.column-index l.columns) ≡ l.fn.parts.items ++ map (shown_at l.word) l.columns
