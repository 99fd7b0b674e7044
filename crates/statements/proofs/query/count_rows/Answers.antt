use Rattle.std.proofs.Common.{◌∙◌, sym}
use Rattle.statements.specs.work.Claims.{world_at}
use Rattle.statements.proofs.AnsweringLemmas.{plan-tallied, rows-tallied, table-tallied}
use Rattle.statements.proofs.query.count_rows.Goals as goal

pub returns-in_ok-measured-in-Rows-clause-tallied : goal.returns-in_ok-measured-in-Rows-clause-tallied
returns-in_ok-measured-in-Rows-clause-tallied g c =
    rows-tallied (world_at c.args.at.now) c.args.query.now _ c.in_ok-measured-in-Rows.measured (sym c.wants.ensures ∙ c.in-Rows.is) c.in_ok-measured-in-Rows.ensures.measured

pub returns-in_ok-measure-in-Plan-clause-tallied : goal.returns-in_ok-measure-in-Plan-clause-tallied
returns-in_ok-measure-in-Plan-clause-tallied g c =
    plan-tallied (world_at c.args.at.now) c.args.query.now _ c.in_ok-measure-in-Plan.field-0 (sym c.wants.ensures ∙ c.in-Plan.is) c.in_ok-measure-in-Plan.ensures.measured

pub returns-in_ok-table_text-in-Table-clause-tallied : goal.returns-in_ok-table_text-in-Table-clause-tallied
returns-in_ok-table_text-in-Table-clause-tallied g c =
    table-tallied (world_at c.args.at.now) c.args.query.now _ c.in_ok-table_text-in-Table.field-0.items (sym c.wants.ensures ∙ c.in-Table.is) c.in_ok-table_text-in-Table.ensures.text
