use Rattle.std.proofs.Common.{map}
use Rattle.std.proofs.lemmas.Result.{on_ok_weaker}
use Rattle.plan_tree.specs.work.Views.{path}
use Rattle.join_search.specs.work.Tables.{none, paths_at}
use Rattle.join_search.proofs.NestLemmas.{nests-later}
use Rattle.join_search.proofs.OfferLemmas.{takes-then}
use Rattle.join_search.proofs.by_sets.offer_split.Goals as goal

pub returns-clause-takes : goal.returns-clause-takes
returns-clause-takes c =
    let j = c.args.j.now in
    takes-then j.cat.now j.q.now (paths_at j.table.now) j.set (map path c.args.front.now) (map path c.offer_nests.new.front) (map path c.offer_merges.new.front) c.offer_nests.ensures.takes c.offer_merges.ensures.takes

pub returns-clause-served : goal.returns-clause-served
returns-clause-served c =
    let j = c.args.j.now in
    let fronts = paths_at j.table.now in
    on_ok_weaker c.offer_merges.result
    (λ merges. record {
      nests = λ p. nests-later j.cat.now j.q.now j.asked (map path c.offer_nests.new.front) (map path c.offer_merges.new.front) (fronts j.outer none) (fronts j.inner p) c.offer_merges.ensures.takes.still (c.in_ok-offer_nests.ensures.served p);
      merges = merges;
    })
    c.offer_merges.ensures.served
