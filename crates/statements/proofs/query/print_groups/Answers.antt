use Rattle.std.proofs.Common.{◌∙◌, sym}
use Rattle.statements.specs.work.Claims.{world_at}
use Rattle.statements.proofs.ReplyLemmas.{groups-replied, groups-stopped, plan-replied, plan-stopped}
use Rattle.statements.proofs.query.print_groups.Goals as goal

pub returns-then-explains-clause-replied : goal.returns-then-explains-clause-replied
returns-then-explains-clause-replied g c =
    plan-replied (world_at c.args.at.now) c.args.query _ c.explain_groups.result _ _ c.args.fetches.now c.args.reads.now (sym c.explains.ensures ∙ c.if-explains.true) c.explain_groups.ensures.explained

pub returns-then-explains-clause-stopped : goal.returns-then-explains-clause-stopped
returns-then-explains-clause-stopped g c =
    plan-stopped (world_at c.args.at.now) c.args.query _ c.explain_groups.result _ _ c.args.fetches.now c.args.reads.now (sym c.explains.ensures ∙ c.if-explains.true) c.explain_groups.ensures.stopped

pub returns-else-explains-clause-replied : goal.returns-else-explains-clause-replied
returns-else-explains-clause-replied g c =
    groups-replied (world_at c.args.at.now) c.args.query _ c.answer_groups.result (sym c.explains.ensures ∙ c.if-explains.false) _ _ c.answer_groups.ensures.answered

pub returns-else-explains-clause-stopped : goal.returns-else-explains-clause-stopped
returns-else-explains-clause-stopped g c =
    groups-stopped (world_at c.args.at.now) c.args.query _ c.answer_groups.result (sym c.explains.ensures ∙ c.if-explains.false) _ _ c.answer_groups.ensures.stopped
