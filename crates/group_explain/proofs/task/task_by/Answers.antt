use Rattle.std.proofs.Common.{◌<◌, length, sym, subst, ap, ◌∙◌}
use Rattle.std.specs.Prelude.{All}
use Rattle.pathkeys.specs.work.Finding.{class_numbers}
use Rattle.sql_query.specs.Grouped.{GroupedQuery}
use Rattle.group_explain.specs.GroupPlans.{group_keys}
use Rattle.group_explain.specs.Texts.{group_query}
use Rattle.group_explain.proofs.TaskLemmas.{all-within}
use Rattle.group_explain.proofs.TextLemmas.{groups-within}
use Rattle.group_explain.proofs.task.task_by.Goals as goal

pub values_of_each-requires-clause-classes : goal.values_of_each-requires-clause-classes
values_of_each-requires-clause-classes c =
    subst (λ (h : GroupedQuery). All (λ n. n < length h.base.classes.classes) (class_numbers c.items.result.now)) (sym c.g.view_is)
    (all-within (length c.args.g.now.base.classes.classes) (group_keys (group_query c.args.g.now)) (class_numbers c.items.result.now) (c.items.ensures.list ∙ c.requires.groups) (groups-within c.args.g.now))

pub returns-clause-task : goal.returns-clause-task
returns-clause-task c =
    c.group_task.ensures.is (group_query c.args.g.now) (ap (λ (h : GroupedQuery). h.base) (sym c.g.view_is))
    (record { groups = c.requires.groups; lines = c.requires.lines; calls = c.number_of_calls.ensures })
