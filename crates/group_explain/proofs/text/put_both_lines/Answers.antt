use Rattle.std.proofs.lemmas.Result.{on_ok_weaker}
use Rattle.plan_tree.specs.work.Views.{path}
use Rattle.group_explain.proofs.CostLemmas.{node-cost}
use Rattle.group_explain.proofs.TextLemmas.{both-lines}
use Rattle.group_explain.proofs.text.put_both_lines.Goals as goal

pub returns : goal.returns
returns c =
    on_ok_weaker c.put_group_line.result
    (λ e. both-lines c.args.cat.now c.args.g.now c.args.x.now (path c.args.x.now.input).tree c.args.text.now.items c.put_sort_line.new.text.items c.extend_from_slice.new.self.items
    c.put_group_line.new.text.items c.group_cost-total.result c.in_ok-put_sort_line.ensures c.in_ok-extend_from_slice.ensures.items
    (node-cost c.args.cat.now c.args.g.now c.args.x.now c.requires.ready c.group_cost-total.result c.group_cost-total.ensures.cost) e)
    c.put_group_line.ensures
