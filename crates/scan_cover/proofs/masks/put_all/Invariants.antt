use Rattle.std.proofs.Common.{List, ◌++◌}
use Rattle.std.specs.List.{AllZip}
use Rattle.pg_base.specs.declared.numbers.IndexNo.{IndexNo}
use Rattle.plan_tree.specs.Plans.{BitTree}
use Rattle.scan_cover.specs.work.Arms.{IsFilled}
use Rattle.scan_cover.specs.work.Trees.{IsKept}
use Rattle.scan_cover.specs.work.Limits.{arms_of_all}
use Rattle.scan_cover.specs.declared.kept.Kept.{Kept}
use Rattle.scan_cover.proofs.MarkLemmas.{IsSplit}
use Rattle.scan_cover.proofs.masks.put_all.Given as goal

abbrev pub invariant-loop-n : goal.invariant-loop-n
invariant-loop-n l = (seen : List Kept) × (bs : List BitTree) × IsSplit l.fn.mask l.kept l.left l.n seen × AllZip (IsKept l.cat l.q l.at.rel l.at.param) seen bs × ((found : List IndexNo) → IsFilled l.fn.into found → IsFilled l.into (found ++ arms_of_all bs))
