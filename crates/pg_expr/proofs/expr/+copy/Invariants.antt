use Rattle.std.proofs.Common.{◌≡◌, map, take}
use Rattle.pg_expr.specs.work.View.{cond}
use Rattle.pg_expr.proofs.expr.+copy.Given as goal

abbrev pub invariant-Exprs::copy-loop-part : goal.invariant-Exprs::copy-loop-part
invariant-Exprs::copy-loop-part l = map cond l.items.items ≡ map cond (take l.part-index l.part-items)
