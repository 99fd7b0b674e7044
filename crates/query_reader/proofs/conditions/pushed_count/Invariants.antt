use Rattle.std.proofs.Common.{◌≡◌, ◌+◌, ◌-◌, ◌^◌, ◌<◌, length, map, min, drop}
use Rattle.pg_expr.specs.work.View.{cond}
use Rattle.eq_classes.specs.Classes.{conjuncts_in}
use Rattle.query_reader.proofs.conditions.pushed_count.Given as goal

-- the conjuncts so far, with those of what is left, are those of all
abbrev pub invariant-loop-part : goal.invariant-loop-part
invariant-loop-part l = record {
  sum : min (l.count + length (conjuncts_in (map cond (drop l.part-index l.written)))) (2 ^ 64 - 1) ≡ min (length (conjuncts_in (map cond l.written))) (2 ^ 64 - 1);
  fits : l.count < 2 ^ 64;
}
