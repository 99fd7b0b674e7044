use Rattle.entry_check.proofs.CostLemmas.{sort-rule}
use Rattle.entry_check.proofs.work.sorted.Goals as goal

pub returns-clause-sorted : goal.returns-clause-sorted
returns-clause-sorted c = λ contents keys p h none.
    record {
      set = h.set;
      param = h.param;
      cost_is = sort-rule contents c.args.q.now c.args.x keys p c.sort.result c.kept_of-cost.result h none c.sort.ensures.rule c.kept_of-cost.ensures.kept;
      rows_are = h.rows_are;
    }
