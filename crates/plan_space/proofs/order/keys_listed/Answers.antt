use Rattle.std.proofs.Common.{◌+◌, ◌∙◌, ap}
use Rattle.pathkeys.specs.work.Finding.{class_numbers}
use Rattle.plan_tree.specs.Keys.{keys_of}
use Rattle.plan_tree.specs.work.Views.{plan}
use Rattle.plan_space.proofs.OrderLemmas.{keys-more}
use Rattle.plan_space.proofs.order.keys_listed.Goals as goal

pub loop-n-preserved : goal.loop-n-preserved
loop-n-preserved c =
    let keys = keys_of c.args.cat.now c.args.q.now (plan c.args.p.now) in
    record {
      long = c.push.ensures.len ∙ ap (λ n. n + 1) c.loop-n.invariant.long;
      first = ap class_numbers c.push.ensures.items ∙ keys-more keys c.loop-n.n c.loop-n.list.items c.in-Some.c c.loop-n.invariant.first c.in-Some.ensures.class;
    }
