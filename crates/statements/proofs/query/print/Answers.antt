use Rattle.statements.specs.work.Claims.{world_at}
use Rattle.statements.proofs.FormLemmas.{none-as, replied-as, stopped-as}
use Rattle.statements.proofs.query.print.Goals as goal

pub returns-in-Plain-clause-replied : goal.returns-in-Plain-clause-replied
returns-in-Plain-clause-replied g c =
    replied-as (world_at c.args.at.now) c.args.at.now.text.now c.args.at.now.tokens.now _ _ c.in-Plain.is c.print_rows.result _ _ c.print_rows.ensures.replied

pub returns-in-Plain-clause-stopped : goal.returns-in-Plain-clause-stopped
returns-in-Plain-clause-stopped g c =
    stopped-as (world_at c.args.at.now) c.args.at.now.text.now c.args.at.now.tokens.now _ _ c.in-Plain.is c.print_rows.result _ _ c.print_rows.ensures.stopped

pub returns-in-Plain-clause-no_plan : goal.returns-in-Plain-clause-no_plan
returns-in-Plain-clause-no_plan g c = none-as c.args.at.now.catalog.now _ _ c.print_rows.result c.in-Plain.is c.print_rows.ensures.no_plan

pub returns-in-Grouped-clause-replied : goal.returns-in-Grouped-clause-replied
returns-in-Grouped-clause-replied g c =
    replied-as (world_at c.args.at.now) c.args.at.now.text.now c.args.at.now.tokens.now _ _ c.in-Grouped.is c.print_groups.result _ _ c.print_groups.ensures.replied

pub returns-in-Grouped-clause-stopped : goal.returns-in-Grouped-clause-stopped
returns-in-Grouped-clause-stopped g c =
    stopped-as (world_at c.args.at.now) c.args.at.now.text.now c.args.at.now.tokens.now _ _ c.in-Grouped.is c.print_groups.result _ _ c.print_groups.ensures.stopped

pub returns-in-Grouped-clause-no_plan : goal.returns-in-Grouped-clause-no_plan
returns-in-Grouped-clause-no_plan g c = none-as c.args.at.now.catalog.now _ _ c.print_groups.result c.in-Grouped.is c.print_groups.ensures.no_plan
