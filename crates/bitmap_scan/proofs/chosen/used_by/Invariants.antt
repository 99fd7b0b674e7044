use Rattle.std.proofs.Common.{◌≡◌, ◌&&◌, ℕ, nat_lt}
use Rattle.std.specs.List.{list_any}
use Rattle.pg_expr.specs.work.AtomSets.{contains}
use Rattle.bitmap_scan.proofs.chosen.used_by.Given as goal

abbrev pub invariant-loop-n : goal.invariant-loop-n
invariant-loop-n l = (k : ℕ) → contains l.set k ≡ nat_lt k l.n && list_any (λ x. contains x.now.used k) l.chosen
