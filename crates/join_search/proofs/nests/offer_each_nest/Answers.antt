use Rattle.std.proofs.Common.{arith, map}
use Rattle.plan_tree.specs.Plans.{nest}
use Rattle.plan_tree.specs.work.Views.{path}
use Rattle.join_search.specs.work.Tables.{none, paths_at}
use Rattle.join_search.proofs.ItemLemmas.{item-there, served-all, served-more}
use Rattle.join_search.proofs.OfferLemmas.{takes-none, takes-then}
use Rattle.join_search.proofs.nests.offer_each_nest.Goals as goal

pub loop-outer-init : goal.loop-outer-init
loop-outer-init c =
    let j = c.args.j.now in
    record {
      takes = takes-none j.cat.now j.q.now (paths_at j.table.now) j.set (map path c.args.front.now) c.requires.joins;
      served = λ k d lt. absurd (omega (arith, lt));
    }

pub offer_nest-requires-clause-outer : goal.offer_nest-requires-clause-outer
offer_nest-requires-clause-outer c =
    let j = c.args.j.now in
    item-there c.args.outers.now (paths_at j.table.now j.outer none) c.loop-outer.outer-index c.outer-item.result c.requires.outers c.loop-outer-test.true c.outer-item.is

pub loop-outer-preserved : goal.loop-outer-preserved
loop-outer-preserved c =
    let j = c.args.j.now in
    let i = path c.args.inner.now in
    let before = map path c.loop-outer.front in
    let after = map path c.offer_nest.new.front in
    let taken = c.offer_nest.ensures.takes in
    record {
      takes = takes-then j.cat.now j.q.now (paths_at j.table.now) j.set (map path c.args.front.now) before after c.loop-outer.invariant.takes taken;
      served = served-more j.cat.now j.q.now j.asked (λ o. nest o.tree i.tree) c.args.outers.now c.loop-outer.outer-index c.outer-item.result before after c.loop-outer-test.true c.outer-item.is taken.still c.loop-outer.invariant.served c.in_ok-offer_nest.ensures.served;
    }

pub returns-in_err-offer_nest-clause-takes : goal.returns-in_err-offer_nest-clause-takes
returns-in_err-offer_nest-clause-takes c =
    let j = c.args.j.now in
    takes-then j.cat.now j.q.now (paths_at j.table.now) j.set (map path c.args.front.now) (map path c.loop-outer.front) (map path c.offer_nest.new.front) c.loop-outer.invariant.takes c.offer_nest.ensures.takes

pub returns-clause-served : goal.returns-clause-served
returns-clause-served c =
    let j = c.args.j.now in
    let i = path c.args.inner.now in
    served-all j.cat.now j.q.now j.asked (λ o. nest o.tree i.tree) c.args.outers.now c.loop-outer.outer-index (paths_at j.table.now j.outer none) (map path c.loop-outer.front) c.requires.outers c.loop-outer-test.false c.loop-outer.invariant.served
