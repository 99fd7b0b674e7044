use Rattle.std.proofs.Common.{◌≡◌, ◌++◌, drop, map}
use Rattle.pg_expr.specs.work.View.{cond}
use Rattle.scan_probes.specs.work.Filters.{lent_conditions}
use Rattle.scan_exec.proofs.bitmap.parts_of.Given as goal

abbrev pub invariant-loop-part : goal.invariant-loop-part
invariant-loop-part l = lent_conditions l.parts.items ++ map cond (drop l.part-index l.listed) ≡ map cond l.listed
