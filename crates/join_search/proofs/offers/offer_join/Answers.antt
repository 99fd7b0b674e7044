use Rattle.std.proofs.lemmas.Result.{on_ok_weaker}
use Rattle.plan_tree.specs.work.Views.{plan}
use Rattle.kept_paths.proofs.PlaceLemmas.{covers-there}
use Rattle.join_search.proofs.OfferLemmas.{join-served, join-takes}
use Rattle.join_search.proofs.offers.offer_join.Goals as goal

pub returns-clause-takes : goal.returns-clause-takes
returns-clause-takes c =
    join-takes c.args.j.now.cat.now c.args.j.now.q.now c.args.j.now.set c.args.front.now c.offer.new.self c.join_path-made.result (plan c.args.t) c.offer.ensures.kept c.join_path-made.ensures.stands c.join_path-made.ensures.tree c.requires.front c.offer.ensures.covered

pub returns-clause-served : goal.returns-clause-served
returns-clause-served c =
    on_ok_weaker c.offer.result (λ there. join-served c.args.j.now.cat.now c.args.j.now.q.now c.args.j.now.set c.args.front.now c.offer.new.self c.join_path-made.result (plan c.args.t) c.offer.ensures.kept c.join_path-made.ensures.stands c.join_path-made.ensures.tree c.requires.front (covers-there c.offer.new.self c.join_path-made.result there)) c.offer.ensures.offered
