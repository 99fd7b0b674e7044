use Rattle.std.proofs.Common.{◌≡◌}
use Rattle.entry_check.specs.work.Working.{IsNestWork}
use Rattle.entry_check.proofs.nests.nest_work_given.Given as goal

abbrev pub invariant-loop-bits : goal.invariant-loop-bits
invariant-loop-bits l = record {
  work : IsNestWork l.cat l.q l.work;
  outer : l.work.outer ≡ l.fn.outer;
  inner : l.work.inner ≡ l.fn.inner;
}
