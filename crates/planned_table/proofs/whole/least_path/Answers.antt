use Rattle.std.proofs.Common.{map, arith, subst, sym, le_refl}
use Rattle.std.specs.Prelude.{All, Contains, List}
use Rattle.cost_rules.specs.declared.parameters.TheConstants.{MOST_COST}
use Rattle.plan_tree.specs.work.Paths.{Path}
use Rattle.plan_tree.specs.work.Views.{path}
use Rattle.plan_tree.specs.declared.path.Path.{Path as Costed}
use Rattle.plan_tree.proofs.BoundLemmas.{lawful-rows}
use Rattle.plan_tree.proofs.FrontLemmas.{contains-mapped}
use Rattle.join_search.specs.work.Tables.{paths_at}
use Rattle.certificate_laws.specs.planner_Finishing.{AreCandidates, IsLeastOf, IsPriced, IsWhole}
use Rattle.certificate_laws.specs.planner_PlaceLemmas.{at-place}
use Rattle.certificate_laws.specs.planner_PriceLemmas.{least-best, none-finished}
use Rattle.certificate_laws.specs.planner_SearchLemmas.{candidates, whole-paths}
use Rattle.certificate_laws.specs.work.Searched.{all_asked}
use Rattle.planned_table.proofs.whole.least_path.Goals as goal

pub least_place-requires-clause-whole : goal.least_place-requires-clause-whole
least_place-requires-clause-whole c =
    subst (All (IsWhole c.args.cat.now c.args.q.now)) (sym c.whole_paths-paths.ensures) (whole-paths c.args.cat.now c.args.q.now (paths_at c.args.table.now) c.requires.searched.placed c.args.all c.requires.all)

pub returns-in-Some-clause-there : goal.returns-in-Some-clause-there
returns-in-Some-clause-there c =
    let x = c.index-paths-least.result in
    subst (λ (xs : List Path). Contains xs (path x)) c.whole_paths-paths.ensures (contains-mapped path c.whole_paths-paths.result.now x (c.in-Some.least.at, c.in-Some.ensures.within, sym c.index-paths-least.is))

pub returns-in-Some-clause-whole : goal.returns-in-Some-clause-whole
returns-in-Some-clause-whole c =
    let contents = c.args.cat.now in
    let q = c.args.q.now in
    at-place (IsWhole contents q) c.whole_paths-paths.result.now c.in-Some.least.at c.index-paths-least.result c.in-Some.ensures.within c.index-paths-least.is
    (subst (All (IsWhole contents q)) (sym c.whole_paths-paths.ensures) (whole-paths contents q (paths_at c.args.table.now) c.requires.searched.placed c.args.all c.requires.all))

pub returns-in-Some-clause-admissible : goal.returns-in-Some-clause-admissible
returns-in-Some-clause-admissible c =
    (subst (λ (y : Costed). IsPriced c.args.cat.now c.args.q.now (path y) c.in-Some.least.price) (sym c.index-paths-least.is) (c.in-Some.ensures.priced c.index-paths-least.result)).admissible

pub returns-in-Some-clause-best : goal.returns-in-Some-clause-best
returns-in-Some-clause-best c =
    let contents = c.args.cat.now in
    let q = c.args.q.now in
    let fronts = paths_at c.args.table.now in
    let s = c.requires.searched in
    let paths = c.whole_paths-paths.result.now in
    let x = c.index-paths-least.result in
    let some = lawful-rows contents q c.lawful.ensures in
    let are = subst (AreCandidates contents q all_asked) (sym c.whole_paths-paths.ensures) (candidates contents q fronts s.placed all_asked s.covered s.scans some c.args.all c.requires.all) in
    let whole = at-place (IsWhole contents q) paths c.in-Some.least.at x c.in-Some.ensures.within c.index-paths-least.is are.whole in
    let least = subst (λ (y : Costed). IsLeastOf contents q (map path paths) (path y).tree) (sym c.index-paths-least.is) (c.in-Some.ensures.least x) in
    let priced = subst (λ (y : Costed). IsPriced contents q (path y) c.in-Some.least.price) (sym c.index-paths-least.is) (c.in-Some.ensures.priced x) in
    let price = priced.price in
    let low = priced.below in
    least-best contents q some all_asked (map path paths) are (path x).tree whole.plan least (omega (arith, price, low))

pub returns-in-None-clause-none : goal.returns-in-None-clause-none
returns-in-None-clause-none c =
    let contents = c.args.cat.now in
    let q = c.args.q.now in
    let s = c.requires.searched in
    let some = lawful-rows contents q c.lawful.ensures in
    let are = subst (AreCandidates contents q all_asked) (sym c.whole_paths-paths.ensures) (candidates contents q (paths_at c.args.table.now) s.placed all_asked s.covered s.scans some c.args.all c.requires.all) in
    none-finished contents q some all_asked (map path c.whole_paths-paths.result.now) are (le_refl MOST_COST) c.in-None.ensures.none
