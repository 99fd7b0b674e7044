use Rattle.std.proofs.Common.{length}
use Rattle.executor.proofs.SortLemmas.{few_looks}
use Rattle.executor.proofs.sorting.start_sorting.Goals as goal

pub returns-in_err-kept-clause-cost : goal.returns-in_err-kept-clause-cost
returns-in_err-kept-clause-cost g c = few_looks c.args.input.now.set (length c.args.input.now.rows) c.args.reads.now c.sort_rows.new.reads c.sort_rows.ensures.cost

pub returns-clause-cost : goal.returns-clause-cost
returns-clause-cost g c = few_looks c.args.input.now.set (length c.args.input.now.rows) c.args.reads.now c.sort_rows.new.reads c.sort_rows.ensures.cost
