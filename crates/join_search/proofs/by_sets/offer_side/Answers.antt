use Rattle.std.proofs.Common.{map}
use Rattle.plan_tree.specs.work.Views.{path}
use Rattle.join_search.specs.work.Tables.{paths_at}
use Rattle.join_search.proofs.OfferLemmas.{takes-none}
use Rattle.join_search.proofs.by_sets.offer_side.Goals as goal

pub returns-then-not-may_be_part-clause-takes : goal.returns-then-not-may_be_part-clause-takes
returns-then-not-may_be_part-clause-takes c =
    let t = c.args.at.now in
    takes-none t.cat.now t.q.now (paths_at t.table.now) t.set (map path c.args.front.now) c.requires.joins

pub returns-then-not-may_be_part-clause-served : goal.returns-then-not-may_be_part-clause-served
returns-then-not-may_be_part-clause-served c = λ b d. absurd (c.may_be_part.ensures.no c.if-not-may_be_part.true b d)
