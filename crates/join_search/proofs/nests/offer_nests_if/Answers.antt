use Rattle.std.proofs.Common.{◌∙◌, map, sym, true≢false}
use Rattle.plan_tree.specs.work.Views.{path}
use Rattle.join_search.specs.work.Tables.{paths_at}
use Rattle.join_search.proofs.NestLemmas.{nests-apart}
use Rattle.join_search.proofs.OfferLemmas.{takes-none}
use Rattle.join_search.proofs.nests.offer_nests_if.Goals as goal

pub offer_nests_given-requires-clause-given : goal.offer_nests_given-requires-clause-given
offer_nests_given-requires-clause-given c = c.within.ensures.0 c.if-within.true

pub returns-else-within-clause-takes : goal.returns-else-within-clause-takes
returns-else-within-clause-takes c = takes-none c.args.j.now.cat.now c.args.j.now.q.now (paths_at c.args.j.now.table.now) c.args.j.now.set (map path c.args.front.now) c.requires.joins

pub returns-else-within-clause-served : goal.returns-else-within-clause-served
returns-else-within-clause-served c =
    nests-apart c.args.j.now.cat.now c.args.j.now.q.now c.args.j.now.asked (paths_at c.args.j.now.table.now) (map path c.args.front.now) c.args.j.now.outer c.args.j.now.inner c.args.p c.requires.over.placed (λ within. true≢false (sym (c.within.ensures.1 within) ∙ c.if-within.false))
