use Rattle.std.proofs.Common.{None}
use Rattle.sql_grammar.specs.Faults.{terminals}
use Rattle.query_reader.specs.work.Select.{is_explained}
use Rattle.statements.specs.work.Claims.{world_at}
use Rattle.statements.proofs.AnsweringLemmas.{groups-tallied}
use Rattle.statements.proofs.FormLemmas.{none-as, tallied-as, tally-as}
use Rattle.statements.proofs.query.count.Goals as goal

pub returns-in-Plain-clause-tallied : goal.returns-in-Plain-clause-tallied
returns-in-Plain-clause-tallied g c =
    tallied-as (world_at c.args.at.now) c.args.at.now.text.now c.args.at.now.tokens.now _ _ c.in-Plain.is c.count_rows.result c.count_rows.ensures.tallied

pub returns-in-Plain-clause-no_plan : goal.returns-in-Plain-clause-no_plan
returns-in-Plain-clause-no_plan g c = none-as c.args.at.now.catalog.now _ _ c.count_rows.result c.in-Plain.is c.count_rows.ensures.no_plan

pub returns-in_ok-plan_groups-in-Grouped-clause-tallied : goal.returns-in_ok-plan_groups-in-Grouped-clause-tallied
returns-in_ok-plan_groups-in-Grouped-clause-tallied g c =
    let at = c.args.at.now in
    tally-as (world_at at) at.text.now at.tokens.now _ _ c.in-Grouped.is None
    (groups-tallied (world_at at) _ (is_explained (terminals at.text.now at.tokens.now)) c.in_ok-plan_groups-in-Grouped.ensures.answer c.in_ok-plan_groups-in-Grouped.ensures.explanation)
