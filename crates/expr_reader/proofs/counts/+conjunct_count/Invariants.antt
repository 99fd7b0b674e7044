use Rattle.std.proofs.Common.{◌≡◌, ◌+◌, ◌-◌, ◌^◌, ◌<◌, min, drop}
use Rattle.pg_expr.specs.work.View.{conds}
use Rattle.expr_reader.proofs.CountLemmas.{each_counted}
use Rattle.expr_reader.proofs.counts.+conjunct_count.Given as goal

-- the conjuncts so far, with those of what is left, are those of all
abbrev pub invariant-group_count-loop-part : goal.invariant-group_count-loop-part
invariant-group_count-loop-part l = record {
  sum : min (l.all + each_counted l.negated (conds (drop l.part-index l.parts))) (2 ^ 64 - 1) ≡ min (each_counted l.negated (conds l.parts)) (2 ^ 64 - 1);
  fits : l.all < 2 ^ 64;
}
