use Rattle.plan_tree.specs.work.Views.{path}
use Rattle.join_search.specs.work.Tables.{paths_at}
use Rattle.join_search.proofs.ItemLemmas.{there-at, there-kept}
use Rattle.join_search.proofs.NestLemmas.{given-inner}
use Rattle.join_search.proofs.nests.offer_nests_of.Goals as goal

pub offer_each_nest-requires-clause-inner : goal.offer_each_nest-requires-clause-inner
offer_each_nest-requires-clause-inner c =
    let j = c.args.j.now in
    let x = path c.args.inner.now in
    given-inner j.cat.now j.q.now j c.args.p x (there-at j.cat.now j.q.now (paths_at j.table.now) j.inner c.args.p x c.requires.over.placed c.requires.inner) c.requires.given

pub offer_each_nest-requires-clause-kept : goal.offer_each_nest-requires-clause-kept
offer_each_nest-requires-clause-kept c = there-kept (paths_at c.args.j.now.table.now) c.args.j.now.inner c.args.p (path c.args.inner.now) c.requires.inner
