use Rattle.certificate_laws.specs.planner_TableLemmas.{scans-handed}
use Rattle.planned_table.proofs.whole.whole_table.Goals as goal

pub returns : goal.returns
returns c =
    let found = c.in_ok-table.ensures in
    record {
      placed = found.placed;
      scans = λ r lt. scans-handed c.args.cat.now c.args.q.now c.in_ok-base.base c.in_ok-table.table found.handed r (c.in_ok-base.ensures.scans r lt);
      covered = found.covered;
      kept = found.kept;
    }
