use Rattle.std.proofs.Common.{false, map}
use Rattle.plan_tree.specs.work.Fronts.{IsServed}
use Rattle.plan_tree.specs.work.Views.{path}
use Rattle.scan_paths.specs.work.Scans.{tree_of}
use Rattle.scan_paths.proofs.TakingLemmas.{either-way, served-later, takes-then}
use Rattle.scan_paths.proofs.index_scans.offer_ways.Goals as goal

pub returns-in_err-offer-2-clause-takes : goal.returns-in_err-offer-2-clause-takes
returns-in_err-offer-2-clause-takes c =
    takes-then c.args.cat.now c.args.q.now c.args.s.rel c.args.s.param (map path c.args.front.now) (map path c.offer.new.front) (map path c.offer-then-goes_back.new.front) c.offer.ensures.takes c.offer-then-goes_back.ensures.takes

pub returns-in_ok-offer-2-clause-takes : goal.returns-in_ok-offer-2-clause-takes
returns-in_ok-offer-2-clause-takes c =
    takes-then c.args.cat.now c.args.q.now c.args.s.rel c.args.s.param (map path c.args.front.now) (map path c.offer.new.front) (map path c.offer-then-goes_back.new.front) c.offer.ensures.takes c.offer-then-goes_back.ensures.takes

pub returns-in_ok-offer-2-clause-served : goal.returns-in_ok-offer-2-clause-served
returns-in_ok-offer-2-clause-served c =
    let after = map path c.offer-then-goes_back.new.front in
    either-way (λ backward. IsServed c.args.cat.now c.args.q.now after (tree_of c.args.s backward))
    (served-later c.args.cat.now c.args.q.now (map path c.offer.new.front) after (tree_of c.args.s false) c.offer-then-goes_back.ensures.takes.still c.in_ok-offer.ensures.served)
    c.in_ok-offer-2.ensures.served
