use Rattle.std.proofs.Common.{◌≡◌, ◌+◌, ◌-◌, ◌^◌, ◌<◌, min, drop}
use Rattle.pg_expr.specs.Columns.{atom_count_of}
use Rattle.pg_expr.specs.work.View.{conds}
use Rattle.query_reader.proofs.conditions.atoms.Given as goal

-- the atoms so far, with those of what is left, are those of all
abbrev pub invariant-loop-part : goal.invariant-loop-part
invariant-loop-part l = record {
  sum : min (l.count + atom_count_of (conds (drop l.part-index l.written))) (2 ^ 64 - 1) ≡ min (atom_count_of (conds l.written)) (2 ^ 64 - 1);
  fits : l.count < 2 ^ 64;
}
