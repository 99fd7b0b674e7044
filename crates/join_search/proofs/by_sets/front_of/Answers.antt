use Rattle.std.proofs.Common.{List, map, subst, sym}
use Rattle.std.specs.Prelude.{All, Contains}
use Rattle.std.proofs.lemmas.Result.{IfOk-weaker}
use Rattle.plan_tree.specs.work.Views.{path}
use Rattle.plan_tree.specs.declared.path.Path.{Path as Costed}
use Rattle.join_search.specs.work.Joins.{IsPathAt}
use Rattle.join_search.specs.work.Sufficing.{StaySufficient}
use Rattle.join_search.specs.work.Tables.{none}
use Rattle.join_search.proofs.FrontingLemmas.{shuffled-at, shuffled-enough, shuffled-some}
use Rattle.join_search.proofs.by_sets.front_of.Goals as goal

pub front_among-requires-clause-paths : goal.front_among-requires-clause-paths
front_among-requires-clause-paths c =
    shuffled-at c.args.at.now.cat.now c.args.at.now.q.now c.args.at.now.asked c.args.at.now.set c.into_paths-paths.result.items c.sort_by_key.new.self.items c.in_ok-sort_by_key.ensures.permutation
    (subst (λ (xs : List Costed). All (IsPathAt c.args.at.now.cat.now c.args.at.now.q.now c.args.at.now.set none) (map path xs)) (sym c.into_paths-paths.ensures) c.requires.paths)

pub returns-clause-some : goal.returns-clause-some
returns-clause-some c = IfOk-weaker c.front_among.result _ _
    (λ f some. subst (λ (xs : List Costed). All (Contains (map path xs)) (map path f)) c.into_paths-paths.ensures
    (shuffled-some c.args.at.now.cat.now c.args.at.now.q.now c.args.at.now.asked c.args.at.now.set c.into_paths-paths.result.items c.sort_by_key.new.self.items c.in_ok-sort_by_key.ensures.permutation (map path f) some)) c.front_among.ensures.some

pub returns-clause-enough : goal.returns-clause-enough
returns-clause-enough c = IfOk-weaker c.front_among.result _ _
    (λ f enough. subst (λ (xs : List Costed). StaySufficient c.args.at.now.cat.now c.args.at.now.q.now c.args.at.now.asked (map path xs) (map path f)) c.into_paths-paths.ensures
    (shuffled-enough c.args.at.now.cat.now c.args.at.now.q.now c.args.at.now.asked c.args.at.now.set c.into_paths-paths.result.items c.sort_by_key.new.self.items c.in_ok-sort_by_key.ensures.permutation (map path f) enough)) c.front_among.ensures.enough
