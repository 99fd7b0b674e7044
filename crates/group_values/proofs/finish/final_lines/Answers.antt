use Rattle.std.proofs.Common.{◌≡◌, map, ap, ap₂, ◌∙◌}
use Rattle.std.proofs.lemmas.Result.{IfOk-weaker}
use Rattle.group_values.specs.Groups.{line, lines_of_groups}
use Rattle.group_values.specs.Shapes.{GroupShape}
use Rattle.group_values.specs.work.Grouping.{final_shape}
use Rattle.group_values.proofs.FinalLemmas.{lines-as-they-are}
use Rattle.group_values.proofs.finish.final_lines.Goals as goal

pub returns-then-not-sort_after : goal.returns-then-not-sort_after
returns-then-not-sort_after c =
    let shape = c.args.shape.now in
    let gs = c.args.groups.items in
    IfOk-weaker c.lines_in_order.result _ (λ l. l ≡ lines_of_groups (final_shape c.args.sort_after shape) gs)
    (λ l e. e ∙ ap₂ (λ is groups. map (line is) groups) (c.deref.ensures.value ∙ ap (λ (s : GroupShape). s.items) c.shape.view_is) c.deref-then-not-sort_after.ensures.value ∙ lines-as-they-are shape gs c.args.sort_after c.if-not-sort_after.true)
    c.lines_in_order.ensures
