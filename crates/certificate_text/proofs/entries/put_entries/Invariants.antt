use Rattle.std.proofs.Common.{◌≡◌, ◌++◌, ◌+◌, drop, map}
use Rattle.plan_check.specs.work.Views.{entry}
use Rattle.certificate_text.specs.Texts.{entries_text}
use Rattle.certificate_text.proofs.entries.put_entries.Given as goal

abbrev pub invariant-loop-n : goal.invariant-loop-n
invariant-loop-n l =
    l.text.items ++ entries_text l.cat l.q (l.n + 1) (map entry (drop l.n l.entries)) ≡ l.fn.text.items ++ entries_text l.cat l.q 1 (map entry l.entries)
