use Rattle.std.proofs.Common.{◌∙◌, sym}
use Rattle.statements.specs.work.Claims.{world_at}
use Rattle.statements.proofs.ReplyLemmas.{answered-replied, answered-stopped, explained-replied, explained-stopped, tabled-replied, tabled-stopped}
use Rattle.statements.proofs.query.print_rows.Goals as goal

pub returns-in-Rows-clause-replied : goal.returns-in-Rows-clause-replied
returns-in-Rows-clause-replied g c = answered-replied (world_at c.args.at.now) c.args.query.now _ c.answer.result (sym c.wants.ensures ∙ c.in-Rows.is) _ _ c.answer.ensures.answered

pub returns-in-Rows-clause-stopped : goal.returns-in-Rows-clause-stopped
returns-in-Rows-clause-stopped g c = answered-stopped (world_at c.args.at.now) c.args.query.now _ c.answer.result (sym c.wants.ensures ∙ c.in-Rows.is) _ _ c.answer.ensures.stopped

pub returns-in-Plan-clause-replied : goal.returns-in-Plan-clause-replied
returns-in-Plan-clause-replied g c =
    explained-replied (world_at c.args.at.now) c.args.query.now _ c.explain_query.result _ _ c.args.fetches.now c.args.reads.now (sym c.wants.ensures ∙ c.in-Plan.is) c.explain_query.ensures.explained

pub returns-in-Plan-clause-stopped : goal.returns-in-Plan-clause-stopped
returns-in-Plan-clause-stopped g c =
    explained-stopped (world_at c.args.at.now) c.args.query.now _ c.explain_query.result _ _ c.args.fetches.now c.args.reads.now (sym c.wants.ensures ∙ c.in-Plan.is) c.explain_query.ensures.stopped

pub returns-in-Table-clause-replied : goal.returns-in-Table-clause-replied
returns-in-Table-clause-replied g c =
    tabled-replied (world_at c.args.at.now) c.args.query.now _ c.explain_table.result _ _ c.args.fetches.now c.args.reads.now (sym c.wants.ensures ∙ c.in-Table.is) c.explain_table.ensures.tabled

pub returns-in-Table-clause-stopped : goal.returns-in-Table-clause-stopped
returns-in-Table-clause-stopped g c =
    tabled-stopped (world_at c.args.at.now) c.args.query.now _ c.explain_table.result _ _ c.args.fetches.now c.args.reads.now (sym c.wants.ensures ∙ c.in-Table.is) c.explain_table.ensures.stopped
