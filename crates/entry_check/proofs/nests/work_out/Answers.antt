use Rattle.std.proofs.Common.{ℕ}
use Rattle.entry_check.specs.work.Working.{AreNestOperators}
use Rattle.entry_check.proofs.WorkLemmas.{given-more}
use Rattle.entry_check.proofs.nests.work_out.Goals as goal

pub returns-then-within-clause-work : goal.returns-then-within-clause-work
returns-then-within-clause-work c = λ contents h. record {
  union = h.union;
  estimated = h.estimated;
  tested = h.tested;
  given = given-more c.args.work.now.given c.args.p.0 c.nest_operators.result (λ (p n : ℕ). AreNestOperators c.args.q.now c.args.work.now.outer.0 c.args.work.now.inner.0 p n) h.given c.nest_operators.ensures.operators;
}
