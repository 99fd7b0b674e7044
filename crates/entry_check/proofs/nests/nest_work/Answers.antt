use Rattle.plan_check.specs.declared.places.TheConstants.{MOST_SETS}
use Rattle.entry_check.proofs.WorkLemmas.{none-given}
use Rattle.entry_check.proofs.nests.nest_work.Goals as goal

pub returns-clause-work : goal.returns-clause-work
returns-clause-work c = record {
  union = c.union-set.ensures;
  estimated = c.set_rows-rows.ensures.rows;
  tested = c.nest_operators-ops.ensures.operators;
  given = λ p n e. absurd (none-given MOST_SETS p n e);
}
