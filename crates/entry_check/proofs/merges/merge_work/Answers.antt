use Rattle.std.proofs.Common.{◌∙◌}
use Rattle.pg_base.specs.Sets.{has}
use Rattle.path_cost.specs.Estimates.{pairs}
use Rattle.pathkeys.specs.work.Finding.{class_numbers}
use Rattle.entry_check.proofs.merges.merge_work.Goals as goal

pub returns-clause-work : goal.returns-clause-work
returns-clause-work c = record {
  union = c.union-set.ensures;
  estimated = c.set_rows-rows.ensures.rows;
  paired = c.pairs-equal.ensures.rows ∙ (λ z. pairs c.args.cat.now (c.range_of.ensures z) (c.classes_of.ensures z) (has c.args.outer.0) (has c.args.inner.0) (class_numbers c.args.list.now));
  bounded = c.pairs-equal.ensures.estimate;
  tested = c.merge_operators-ops.ensures.operators;
}
