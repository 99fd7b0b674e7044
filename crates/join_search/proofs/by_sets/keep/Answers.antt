use Rattle.std.proofs.Common.{map}
use Rattle.std.proofs.lemmas.Result.{on_ok_weaker}
use Rattle.pg_base.specs.Sets.{has}
use Rattle.plan_tree.specs.work.Views.{path}
use Rattle.plan_tree.proofs.FrontLemmas.{keeps-itself}
use Rattle.join_search.specs.work.Tables.{none}
use Rattle.join_search.proofs.FrontingLemmas.{made-beaten, offered-enough, offered-still}
use Rattle.join_search.proofs.KeyLemmas.{path-classes}
use Rattle.join_search.proofs.by_sets.keep.Goals as goal

pub useful-requires-clause-order : goal.useful-requires-clause-order
useful-requires-clause-order c = c.requires.at.order

pub useful-requires-clause-classes : goal.useful-requires-clause-classes
useful-requires-clause-classes c = path-classes c.args.at.now.cat.now c.args.at.now.q.now c.args.at.now.set none (path c.args.made) c.requires.made

pub returns-then-branch-clause-some : goal.returns-then-branch-clause-some
returns-then-branch-clause-some c = keeps-itself c.args.kept.now c.args.made

pub returns-then-branch-clause-enough : goal.returns-then-branch-clause-enough
returns-then-branch-clause-enough c =
    let q = c.args.at.now.q.now in
    let set = c.args.at.now.set in
    made-beaten c.args.at.now.cat.now q c.args.at.now.asked set (map path c.args.kept.now) (path c.args.made) c.cost_of-cost.result c.in_ok-part.part c.requires.paths c.requires.made c.cost_of-cost.ensures.kept
    (c.in_ok-part.ensures (has set.0) c.requires.at.outside)
    (c.in_ok-is_beaten.ensures.sound c.if-branch.true)

pub returns-clause-still : goal.returns-clause-still
returns-clause-still c = offered-still c.args.at.now.cat.now c.args.at.now.q.now c.args.at.now.asked c.args.at.now.set c.args.kept.now c.offer.new.self c.args.made c.offer.ensures.kept c.requires.paths c.requires.made c.offer.ensures.covered

pub returns-clause-enough : goal.returns-clause-enough
returns-clause-enough c = on_ok_weaker c.offer.result (offered-enough c.args.at.now.cat.now c.args.at.now.q.now c.args.at.now.asked c.args.at.now.set c.args.kept.now c.offer.new.self c.args.made c.offer.ensures.kept c.requires.paths c.requires.made) c.offer.ensures.offered
