use Rattle.std.proofs.Common.{◌≤◌, ◌∙◌, List, ap, map, length, arith}
use Rattle.std.proofs.lemmas.List.{length-map}
use Rattle.plan_tree.specs.Plans.{BitTree, all_hold}
use Rattle.plan_tree.specs.work.Views.{trees_of}
use Rattle.bitmap_scan.specs.work.ElementTrees.{tree_in}
use Rattle.bitmap_scan.proofs.ElementLemmas.{and-is}
use Rattle.bitmap_scan.proofs.KeptLemmas.{all-taken, combined-many}
use Rattle.bitmap_scan.proofs.chosen.combine.Goals as goal

pub returns : goal.returns
returns c =
    let chosen = c.args.chosen.now in
    let trees = map (λ k. tree_in k.now) chosen in
    let many = length-map chosen (λ k. tree_in k.now) in
    let whole = all-taken c.loop-k.k-index chosen c.loop-k-test.false in
    let two : 2 ≤ length trees = omega (arith, many) in
    and-is (record { items = c.loop-k.items }) ∙ ap (λ (ts : List BitTree). all_hold (trees_of ts)) (c.loop-k.invariant ∙ ap (map (λ k. tree_in k.now)) whole) ∙ combined-many trees two
