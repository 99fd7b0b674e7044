use Rattle.std.proofs.Common.{◌∙◌, ap}
use Rattle.sql_query.specs.Grouped.{GroupedQuery}
use Rattle.group_values.specs.Shapes.{GroupShape}
use Rattle.group_values.specs.work.Grouping.{Grouping}
use Rattle.group_explain.specs.reply_Settings.{world_of}
use Rattle.group_reply.proofs.ShapeLemmas.{as-many-of, together-by}
use Rattle.group_reply.proofs.drawing.draw_lines.Goals as goal

pub group_lines-requires-clause-args : goal.group_lines-requires-clause-args
group_lines-requires-clause-args g c =
    as-many-of c.args.g.now.items c.deref.result.now c.in_ok-groups.groups.shape.calls (c.deref.ensures.value ∙ c.in_ok-args.ensures)
    (ap (λ (x : Grouping). x.shape.calls) c.in_ok-groups.ensures.is ∙ ap (λ (x : GroupShape). x.calls) c.in_ok-shape.ensures)

pub group_lines-requires-clause-together : goal.group_lines-requires-clause-together
group_lines-requires-clause-together g c =
    together-by (world_of c.args.at.now) c.args.at.now.q.now c.args.g.now c.args.rows.now.left c.items.result.now c.deref.result.now c.in_ok-groups.groups.form c.args.plan.form
    (c.items.ensures ∙ ap (λ (x : GroupedQuery). x.keys) c.g.view_is) (c.deref.ensures.value ∙ c.in_ok-args.ensures) (ap (λ (x : Grouping). x.form) c.in_ok-groups.ensures.is) c.requires.together
