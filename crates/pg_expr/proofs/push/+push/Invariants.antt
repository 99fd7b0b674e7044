use Rattle.std.proofs.Common.{◌≡◌}
use Rattle.pg_expr.specs.Cond.{joined}
use Rattle.pg_expr.specs.Pushed.{pushed_parts}
use Rattle.pg_expr.specs.work.View.{conds}
use Rattle.pg_expr.proofs.push.+push.Given as goal

-- the pushed parts so far, with those of what is left, are those of all
abbrev pub invariant-pushed_list-loop-part : goal.invariant-pushed_list-loop-part
invariant-pushed_list-loop-part l =
    joined (conds l.all.items) (pushed_parts l.negated l.any (conds l.part-iterator.rest.items)) ≡ pushed_parts l.negated l.any (conds l.fn.parts.items.items)
