use Rattle.std.proofs.Common.{◌≡◌, List}
use Rattle.std.specs.List.{list_any}
use Rattle.pg_expr.specs.work.AtomSets.{contains}
use Rattle.scan_cover.specs.declared.kept.Kept.{Kept}
use Rattle.scan_cover.proofs.MarkLemmas.{IsSplit}
use Rattle.scan_cover.proofs.marks.is_used.Given as goal

abbrev pub invariant-loop-k : goal.invariant-loop-k
invariant-loop-k l = (seen : List Kept) × IsSplit l.fn.mask l.kept l.left l.k seen × (l.found ≡ list_any (λ x. contains x.used l.n) seen)
