use Rattle.std.proofs.Common.{◌<◌, map, arith}
use Rattle.plan_tree.specs.work.Views.{path}
use Rattle.join_search.specs.work.Offers.{AreEachServed}
use Rattle.join_search.specs.work.Tables.{none, paths_at}
use Rattle.join_search.proofs.ItemLemmas.{item-there, items-all, items-more}
use Rattle.join_search.proofs.NestLemmas.{each-later}
use Rattle.join_search.proofs.OfferLemmas.{takes-none, takes-then}
use Rattle.join_search.proofs.nests.offer_early.Goals as goal

pub loop-inner-init : goal.loop-inner-init
loop-inner-init c = record {
  takes = takes-none c.args.j.now.cat.now c.args.j.now.q.now (paths_at c.args.j.now.table.now) c.args.j.now.set (map path c.args.front.now) c.requires.joins;
  served = λ k d lt. absurd (omega (arith, lt));
}

pub offer_if_early-requires-clause-inner : goal.offer_if_early-requires-clause-inner
offer_if_early-requires-clause-inner c = item-there c.args.inners.now (paths_at c.args.j.now.table.now c.args.j.now.inner c.args.p) c.loop-inner.inner-index c.inner-item.result c.requires.inners c.loop-inner-test.true c.inner-item.is

pub loop-inner-preserved : goal.loop-inner-preserved
loop-inner-preserved c =
    let contents = c.args.j.now.cat.now in
    let q = c.args.j.now.q.now in
    let outers = paths_at c.args.j.now.table.now c.args.j.now.outer none in
    let before = map path c.loop-inner.front in
    let after = map path c.offer_if_early.new.front in
    let taken = c.offer_if_early.ensures.takes in
    record {
      takes = takes-then contents q (paths_at c.args.j.now.table.now) c.args.j.now.set (map path c.args.front.now) before after c.loop-inner.invariant.takes taken;
      served = items-more (λ i. i.startup < c.args.startup → AreEachServed contents q c.args.j.now.asked before outers i.tree) (λ i. i.startup < c.args.startup → AreEachServed contents q c.args.j.now.asked after outers i.tree)
          (λ i h lt. each-later contents q c.args.j.now.asked before after outers i.tree taken.still (h lt)) c.args.inners.now c.loop-inner.inner-index c.inner-item.result c.loop-inner-test.true c.inner-item.is c.loop-inner.invariant.served c.in_ok-offer_if_early.ensures.served;
    }

pub returns-in_err-offer_if_early-clause-takes : goal.returns-in_err-offer_if_early-clause-takes
returns-in_err-offer_if_early-clause-takes c =
    takes-then c.args.j.now.cat.now c.args.j.now.q.now (paths_at c.args.j.now.table.now) c.args.j.now.set (map path c.args.front.now) (map path c.loop-inner.front) (map path c.offer_if_early.new.front) c.loop-inner.invariant.takes c.offer_if_early.ensures.takes

pub returns-clause-served : goal.returns-clause-served
returns-clause-served c =
    items-all (λ i. i.startup < c.args.startup → AreEachServed c.args.j.now.cat.now c.args.j.now.q.now c.args.j.now.asked (map path c.loop-inner.front) (paths_at c.args.j.now.table.now c.args.j.now.outer none) i.tree) c.args.inners.now c.loop-inner.inner-index (paths_at c.args.j.now.table.now c.args.j.now.inner c.args.p)
    c.requires.inners c.loop-inner-test.false c.loop-inner.invariant.served
