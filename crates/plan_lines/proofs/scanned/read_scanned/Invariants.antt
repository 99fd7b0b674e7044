use Rattle.std.proofs.Common.{◌≡◌, ◌≤◌}
use Rattle.pg_base.specs.declared.numbers.RelNo.{RelNo}
use Rattle.pg_base.specs.declared.rel_set.RelSet.{RelSet}
use Rattle.certificate_entries.specs.explain_Texts.{scanned_text}
use Rattle.plan_lines.specs.HasText.{IsScanned}
use Rattle.plan_lines.proofs.scanned.read_scanned.Given as goal

abbrev pub invariant-loop-n : goal.invariant-loop-n
invariant-loop-n l = (r : RelNo) (p : RelSet) → IsScanned l.cat l.q r p → l.text ≡ scanned_text l.cat l.q r p → l.n ≤ r.0
