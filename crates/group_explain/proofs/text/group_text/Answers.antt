use Rattle.std.proofs.Common.{ℕ, List, ◌++◌, ap, ◌∙◌}
use Rattle.reply.specs.explain_Texts.{text_at}
use Rattle.plan_tree.specs.work.Views.{path}
use Rattle.sql_query.specs.Grouped.{GroupedQuery}
use Rattle.group_explain.specs.work.Texts.{task_lines}
use Rattle.group_explain.proofs.TextLemmas.{text-of, whole-text}
use Rattle.group_explain.proofs.text.group_text.Goals as goal

pub returns : goal.returns
returns c first e =
    let x = c.args.x.now in
    let tree = (path x.input).tree in
    whole-text c.args.cat.now c.args.g.now x c.requires.ready c.put_lines_above.new.text.items c.extend_from_slice.new.self.items c.items.result.now c.input_depth-depth.result
    (c.in_ok-put_lines_above.ensures ∙ ap (λ (l : List ℕ). l ++ task_lines c.args.cat.now c.args.g.now x.task x.plan tree x.plan.sort_after) c.new-text.ensures.items)
    c.input_depth-depth.ensures
    (c.items.ensures ∙ c.in_ok-input.ensures.text ∙ ap (λ (h : GroupedQuery). text_at c.args.cat.now h.base c.input_depth-depth.result tree) c.g.view_is)
    c.in_ok-extend_from_slice.ensures.items
    ∙ text-of c.args.cat.now c.args.g.now first x tree e
