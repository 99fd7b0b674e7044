use Rattle.std.proofs.Common.{ap, map, sym, subst}
use Rattle.std.specs.Prelude.{All}
use Rattle.std.proofs.lemmas.List.Elements.{All-nil}
use Rattle.std.proofs.lemmas.Result.{IfOk-weaker}
use Rattle.plan_tree.specs.work.Views.{path}
use Rattle.join_search.specs.work.Joins.{IsJoinPath, IsPathAt}
use Rattle.join_search.specs.work.Tables.{none, paths_at}
use Rattle.join_search.proofs.FrontingLemmas.{contained}
use Rattle.join_search.proofs.OfferLemmas.{joins-there}
use Rattle.join_search.proofs.likely.joins_either.Goals as goal

pub offer_side-requires-clause-joins : goal.offer_side-requires-clause-joins
offer_side-requires-clause-joins c =
    let t = c.args.at.now in
    let P = IsJoinPath t.cat.now t.q.now (paths_at t.table.now) t.set none in
    subst (All P) (ap (map path) (sym c.new-kept.ensures)) (All-nil P)

pub front_of-requires-clause-paths : goal.front_of-requires-clause-paths
front_of-requires-clause-paths c =
    let t = c.args.at.now in
    joins-there t.cat.now t.q.now (paths_at t.table.now) t.set (map path c.offer_side-2.new.front) c.offer_side-2.ensures.takes.paths

pub returns : goal.returns
returns c =
    let t = c.args.at.now in
    let at = joins-there t.cat.now t.q.now (paths_at t.table.now) t.set (map path c.offer_side-2.new.front) c.offer_side-2.ensures.takes.paths in
    IfOk-weaker c.front_of.result _ _ (λ f some. contained (map path c.offer_side-2.new.front) (map path f) (IsPathAt t.cat.now t.q.now t.set none) some at) c.front_of.ensures.some
