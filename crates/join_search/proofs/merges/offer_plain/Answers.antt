use Rattle.std.proofs.Common.{◌≡◌, map, true, arith}
use Rattle.pathkeys.specs.Keys.{covers}
use Rattle.join_search.specs.work.Sufficing.{IsServed}
use Rattle.plan_tree.specs.Plans.{merge}
use Rattle.plan_tree.specs.work.Views.{path}
use Rattle.join_search.specs.work.Merges.{side_plan}
use Rattle.join_search.specs.work.Tables.{none, paths_at}
use Rattle.join_search.proofs.ItemLemmas.{item-there, items-all, items-more}
use Rattle.join_search.proofs.OfferLemmas.{served-later, takes-none, takes-then}
use Rattle.join_search.proofs.merges.offer_plain.Goals as goal

pub loop-outer-init : goal.loop-outer-init
loop-outer-init c = record {
  takes = takes-none c.args.j.now.cat.now c.args.j.now.q.now (paths_at c.args.j.now.table.now) c.args.j.now.set (map path c.args.front.now) c.requires.joins;
  served = λ k d lt. absurd (omega (arith, lt));
}

pub offer_in_order-requires-clause-outer : goal.offer_in_order-requires-clause-outer
offer_in_order-requires-clause-outer c = item-there c.args.outers.now (paths_at c.args.j.now.table.now c.args.j.now.outer none) c.loop-outer.outer-index c.outer-item.result c.requires.outers c.loop-outer-test.true c.outer-item.is

pub loop-outer-preserved : goal.loop-outer-preserved
loop-outer-preserved c =
    let contents = c.args.j.now.cat.now in
    let q = c.args.j.now.q.now in
    let by' = c.args.by.now in
    let i = side_plan by' c.args.inner in
    let before = map path c.loop-outer.front in
    let after = map path c.offer_in_order.new.front in
    let taken = c.offer_in_order.ensures.takes in
    record {
      takes = takes-then contents q (paths_at c.args.j.now.table.now) c.args.j.now.set (map path c.args.front.now) before after c.loop-outer.invariant.takes taken;
      served = items-more (λ o. covers o.keys by' ≡ true → IsServed contents q c.args.j.now.asked before (merge by' o.tree i)) (λ o. covers o.keys by' ≡ true → IsServed contents q c.args.j.now.asked after (merge by' o.tree i))
          (λ o h e. served-later contents q c.args.j.now.asked before after (merge by' o.tree i) taken.still (h e)) c.args.outers.now c.loop-outer.outer-index c.outer-item.result c.loop-outer-test.true c.outer-item.is c.loop-outer.invariant.served c.in_ok-offer_in_order.ensures.served;
    }

pub returns-in_err-offer_in_order-clause-takes : goal.returns-in_err-offer_in_order-clause-takes
returns-in_err-offer_in_order-clause-takes c =
    takes-then c.args.j.now.cat.now c.args.j.now.q.now (paths_at c.args.j.now.table.now) c.args.j.now.set (map path c.args.front.now) (map path c.loop-outer.front) (map path c.offer_in_order.new.front) c.loop-outer.invariant.takes c.offer_in_order.ensures.takes

pub returns-clause-served : goal.returns-clause-served
returns-clause-served c =
    let by' = c.args.by.now in
    items-all (λ o. covers o.keys by' ≡ true → IsServed c.args.j.now.cat.now c.args.j.now.q.now c.args.j.now.asked (map path c.loop-outer.front) (merge by' o.tree (side_plan by' c.args.inner))) c.args.outers.now c.loop-outer.outer-index (paths_at c.args.j.now.table.now c.args.j.now.outer none)
    c.requires.outers c.loop-outer-test.false c.loop-outer.invariant.served
