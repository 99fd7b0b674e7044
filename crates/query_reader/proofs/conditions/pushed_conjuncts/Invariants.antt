use Rattle.std.proofs.Common.{◌≡◌, ◌++◌, drop, map}
use Rattle.pg_expr.specs.work.View.{cond}
use Rattle.eq_classes.specs.Classes.{conjuncts_in}
use Rattle.query_reader.proofs.conditions.pushed_conjuncts.Given as goal

-- the conjuncts so far, with those of what is left, are those of all
abbrev pub invariant-loop-part : goal.invariant-loop-part
invariant-loop-part l = map cond l.all.items ++ conjuncts_in (map cond (drop l.part-index l.written)) ≡ conjuncts_in (map cond l.written)
