use Rattle.std.proofs.Common.{map, subst, take_all}
use Rattle.std.proofs.lemmas.List.Elements.{All-more}
use Rattle.plan_tree.specs.work.Views.{path}
use Rattle.scan_paths.specs.work.Scans.{AreIndexesServed, IsIndexServed}
use Rattle.scan_paths.specs.declared.reached.Reached.{Reached}
use Rattle.scan_paths.proofs.TakingLemmas.{entries-served-later, takes-then}
use Rattle.scan_paths.proofs.relation_scans.offer_by_each.Goals as goal

pub loop-x-preserved : goal.loop-x-preserved
loop-x-preserved c =
    let contents = c.args.cat.now in
    let q = c.args.q.now in
    let r = c.args.at.rel in
    let p = c.args.at.param in
    let before = map path c.loop-x.front in
    let after = map path c.offer_reached.new.front in
    let taken = c.offer_reached.ensures.takes in
    record {
      takes = takes-then contents q r p (map path c.args.front.now) before after c.loop-x.invariant.takes taken;
      served = All-more (λ (x : Reached). IsIndexServed contents q r p after x.index) c.args.indexes.now c.loop-x.x-index _ c.loop-x-test.true
          (entries-served-later contents q r p before after _ taken.still c.loop-x.invariant.served) c.in_ok-offer_reached.ensures.served;
    }

pub returns-clause-served : goal.returns-clause-served
returns-clause-served c =
    subst (AreIndexesServed c.args.cat.now c.args.q.now c.args.at.rel c.args.at.param (map path c.loop-x.front))
    (take_all c.loop-x.x-index c.args.indexes.now c.loop-x-test.false) c.loop-x.invariant.served
