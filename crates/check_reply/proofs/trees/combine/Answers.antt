use Rattle.std.proofs.Common.{◌∙◌, arith, map}
use Rattle.std.proofs.lemmas.List.{length-map}
use Rattle.plan_tree.specs.work.Views.{bits}
use Rattle.bitmap_scan.proofs.ElementLemmas.{and-is}
use Rattle.check_reply.proofs.TreeLemmas.{and-combined}
use Rattle.check_reply.proofs.trees.combine.Goals as goal

pub returns-then-len-ne1 : goal.returns-then-len-ne1
returns-then-len-ne1 c =
    let trees = c.args.trees.items in
    and-is (record { items = c.args.trees }) ∙ and-combined (map bits trees) (λ one. let long = length-map trees bits in c.if-len-ne1.true (omega (arith, one, long, c.len.ensures)))
