use Rattle.plan_tree.specs.work.Views.{plan}
use Rattle.plan_tree.proofs.BoundLemmas.{lawful-rows}
use Rattle.join_search.proofs.OfferLemmas.{join-path}
use Rattle.join_search.proofs.offers.join_path.Goals as goal

pub returns-clause-stands : goal.returns-clause-stands
returns-clause-stands c =
    let j = c.args.j.now in
    join-path j.cat.now j.q.now j.set (plan c.args.t) c.args.cost j.rows c.args.keys c.requires.of c.requires.over.split.rows c.requires.cost c.requires.below c.requires.keys (lawful-rows j.cat.now j.q.now c.lawful.ensures)
