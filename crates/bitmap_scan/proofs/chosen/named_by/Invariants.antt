use Rattle.std.proofs.Common.{◌≡◌, ◌||◌, ℕ, drop}
use Rattle.pg_base.specs.Sets.{has}
use Rattle.bitmap_scan.specs.work.Chosen.{marked}
use Rattle.bitmap_scan.specs.work.ElementTrees.{named_in}
use Rattle.bitmap_scan.proofs.chosen.named_by.Given as goal

-- what the rest names, with what those so far do, is all
abbrev pub invariant-loop-e : goal.invariant-loop-e
invariant-loop-e l = (k : ℕ) → has l.named.0 k || named_in (marked l.left (drop l.e-index l.kept)) k ≡ named_in (marked l.fn.mask l.kept) k
