use Rattle.std.proofs.Common.{◌∙◌}
use Rattle.pg_base.specs.Sets.{has}
use Rattle.path_cost.specs.Estimates.{param_rows}
use Rattle.entry_check.proofs.ScanLemmas.{rows-param, rows-whole}
use Rattle.entry_check.proofs.scans.rows_given.Goals as goal

pub returns-then-p-eq0 : goal.returns-then-p-eq0
returns-then-p-eq0 c = record { rows = rows-whole c.args.cat.now c.args.q.now c.args.r c.args.p c.one.result.0 c.set_rows.result c.if-p-eq0.true c.one.ensures c.set_rows.ensures.rows }

pub returns-else-p-eq0 : goal.returns-else-p-eq0
returns-else-p-eq0 c = record {
  rows = rows-param c.args.cat.now c.args.q.now c.args.r c.args.p c.rows_param.result c.if-p-eq0.false
      (c.rows_param.ensures.rows ∙ (λ z. param_rows c.args.cat.now (c.range_of.ensures z) (c.classes_of.ensures z) c.args.r.0 (has c.args.p.0)));
}
