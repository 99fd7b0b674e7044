use Rattle.std.proofs.Common.{◌∙◌, map, arith}
use Rattle.std.proofs.lemmas.List.Elements.{All-more, All-weaker}
use Rattle.plan_tree.specs.work.Views.{path}
use Rattle.pg_base.specs.declared.rel_set.RelSet.{RelSet}
use Rattle.join_search.specs.work.Offers.{AreNestsServed}
use Rattle.join_search.specs.work.Tables.{none, paths_at}
use Rattle.join_search.proofs.ItemLemmas.{all-taken}
use Rattle.join_search.proofs.NestLemmas.{nests-all, nests-later}
use Rattle.join_search.proofs.OfferLemmas.{takes-none, takes-then}
use Rattle.join_search.proofs.nests.offer_nests.Goals as goal

pub loop-p-init : goal.loop-p-init
loop-p-init c = record {
  takes = takes-none c.args.j.now.cat.now c.args.j.now.q.now (paths_at c.args.j.now.table.now) c.args.j.now.set (map path c.args.front.now) c.requires.joins;
  served = λ k d lt. absurd (omega (arith, lt));
}

pub loop-p-preserved : goal.loop-p-preserved
loop-p-preserved c =
    let contents = c.args.j.now.cat.now in
    let q = c.args.j.now.q.now in
    let j = c.args.j.now in
    let fronts = paths_at c.args.j.now.table.now in
    let before = map path c.loop-p.front in
    let after = map path c.offer_nests_if.new.front in
    let taken = c.offer_nests_if.ensures.takes in
    record {
      takes = takes-then contents q fronts j.set (map path c.args.front.now) before after c.loop-p.invariant.takes taken;
      served = All-more (λ (p : RelSet). AreNestsServed contents q c.args.j.now.asked after (fronts j.outer none) (fronts j.inner p)) c.deref-p-items.result.now c.loop-p.p-index _ c.loop-p-test.true
          (All-weaker (λ (p : RelSet). AreNestsServed contents q c.args.j.now.asked before (fronts j.outer none) (fronts j.inner p)) (λ (p : RelSet). AreNestsServed contents q c.args.j.now.asked after (fronts j.outer none) (fronts j.inner p))
          (λ p h. nests-later contents q c.args.j.now.asked before after (fronts j.outer none) (fronts j.inner p) taken.still h) _ c.loop-p.invariant.served) c.in_ok-offer_nests_if.ensures.served;
    }

pub returns-in_err-params-clause-takes : goal.returns-in_err-params-clause-takes
returns-in_err-params-clause-takes c = takes-none c.args.j.now.cat.now c.args.j.now.q.now (paths_at c.args.j.now.table.now) c.args.j.now.set (map path c.args.front.now) c.requires.joins

pub returns-in_err-offer_nests_if-clause-takes : goal.returns-in_err-offer_nests_if-clause-takes
returns-in_err-offer_nests_if-clause-takes c =
    takes-then c.args.j.now.cat.now c.args.j.now.q.now (paths_at c.args.j.now.table.now) c.args.j.now.set (map path c.args.front.now) (map path c.loop-p.front) (map path c.offer_nests_if.new.front) c.loop-p.invariant.takes c.offer_nests_if.ensures.takes

pub returns-clause-served : goal.returns-clause-served
returns-clause-served c =
    let j = c.args.j.now in
    let fronts = paths_at c.args.j.now.table.now in
    nests-all c.args.j.now.cat.now c.args.j.now.q.now c.args.j.now.asked c.args.j.now.table.now (map path c.loop-p.front) j.outer j.inner c.deref-p-items.result.now (c.deref-p-items.ensures.value ∙ c.in_ok-params.ensures)
    (all-taken (λ (p : RelSet). AreNestsServed c.args.j.now.cat.now c.args.j.now.q.now c.args.j.now.asked (map path c.loop-p.front) (fronts j.outer none) (fronts j.inner p)) c.deref-p-items.result.now c.loop-p.p-index c.loop-p-test.false c.loop-p.invariant.served)
