use Rattle.std.proofs.Common.{◌+◌, map, drop, length}
use Rattle.std.proofs.lemmas.Bool.{eq-eqb}
use Rattle.plan_tree.specs.Bitmaps.{elements_of}
use Rattle.plan_space.specs.work.Ordered.{AreInOrder}
use Rattle.plan_tree.specs.work.Views.{bits, bits_all, element}
use Rattle.plan_tree.proofs.ElementLemmas.{same-number}
use Rattle.plan_space.proofs.TreeLemmas.{order-more, order-end}
use Rattle.plan_space.proofs.trees.are_in_order.Goals as goal

pub loop-e-preserved : goal.loop-e-preserved
loop-e-preserved c = record {
  within = c.next-at.ensures.within;
  order = λ x q r p.
      let trees = c.args.trees.now in
      let found = c.args.found.now in
      order-more x q r p bits element trees found c.loop-e.e-index _ c.loop-e.at c.next-at.result (AreInOrder (elements_of x q r p (bits_all trees)) (map element found)) c.loop-e-test.true (c.loop-e.invariant.order x q r p)
      (c.next-at.ensures.order x q r p (map element (drop (c.loop-e.e-index + 1) found)));
}

pub returns : goal.returns
returns c = λ x q r p.
    let trees = c.args.trees.now in
    let found = c.args.found.now in
    let done = order-end x q r p bits element trees found c.loop-e.e-index c.loop-e.at (AreInOrder (elements_of x q r p (bits_all trees)) (map element found)) c.loop-e-test.false c.loop-e.invariant.within (c.loop-e.invariant.order x q r p) in
    (λ h. done.1 (same-number c.loop-e.at (length trees) h), λ h. eq-eqb c.loop-e.at (length trees) (done.0 h))
