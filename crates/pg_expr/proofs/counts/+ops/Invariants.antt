use Rattle.std.proofs.Common.{◌≡◌, ◌+◌, ◌-◌, ◌^◌, ◌<◌, min, drop}
use Rattle.pg_expr.specs.Columns.{atom_count_of}
use Rattle.pg_expr.specs.work.View.{conds}
use Rattle.pg_expr.proofs.counts.+ops.Given as goal

-- the atoms so far, with those of what is left, are those of all
abbrev pub invariant-ops_of-loop-part : goal.invariant-ops_of-loop-part
invariant-ops_of-loop-part l = record {
  sum : min (l.all + atom_count_of (conds (drop l.part-index l.parts))) (2 ^ 64 - 1) ≡ min (atom_count_of (conds l.parts)) (2 ^ 64 - 1);
  fits : l.all < 2 ^ 64;
}
