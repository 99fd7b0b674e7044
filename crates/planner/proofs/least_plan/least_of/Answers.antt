use Rattle.std.proofs.Common.{◌≡◌, ◌<◌, ℕ, List, [], ◌∷◌, length, map, arith, subst, sym}
use Rattle.plan_tree.specs.Least.{IsBestPlan}
use Rattle.plan_tree.specs.Space.{IsFinished}
use Rattle.plan_tree.specs.work.Views.{path}
use Rattle.plan_tree.specs.declared.path.Path.{Path}
use Rattle.plan_tree.proofs.BoundLemmas.{lawful-rows}
use Rattle.planner.specs.work.Finishing.{IsLeastOf, IsPriced, IsWhole, finished}
use Rattle.planner.proofs.PriceLemmas.{is-finished, least-best, none-finished}
use Rattle.planner.proofs.PlaceLemmas.{at-place}
use Rattle.planner.proofs.least_plan.least_of.Goals as goal

some-item : (xs : List Path) (n : ℕ) → n < length xs → Path
some-item [] n lt = absurd (omega (arith, lt))
some-item (x ∷ xs) n lt = x

pub returns-in-None-clause-none : goal.returns-in-None-clause-none
returns-in-None-clause-none c = λ whole. none-finished c.args.cat.now c.args.q.now (lawful-rows c.args.cat.now c.args.q.now c.lawful.ensures) c.args.asked (map path c.args.paths.now) c.requires.candidates whole c.in-None.ensures.none

pub returns-then-least-asked-clause-none : goal.returns-then-least-asked-clause-none
returns-then-least-asked-clause-none c = λ whole.
    let d = some-item c.args.paths.now c.in-Some.least.at c.in-Some.ensures.within in
    let below = (c.in-Some.ensures.priced d).below in
    absurd (omega (arith, whole, below, c.if-least-asked.true))

pub finish-requires-clause-whole : goal.finish-requires-clause-whole
finish-requires-clause-whole c =
    at-place (IsWhole c.args.cat.now c.args.q.now) c.args.paths.now c.in-Some.least.at c.index-paths-least.result c.in-Some.ensures.within c.index-paths-least.is c.requires.candidates.whole

pub returns-clause-best : goal.returns-clause-best
returns-clause-best c =
    let contents = c.args.cat.now in
    let q = c.args.q.now in
    let x = c.index-paths-least.result in
    let whole = at-place (IsWhole contents q) c.args.paths.now c.in-Some.least.at x c.in-Some.ensures.within c.index-paths-least.is c.requires.candidates.whole in
    record {
      finished = subst (IsFinished contents q) (sym c.in_ok-best.ensures.tree) (is-finished contents q (path x).tree whole.plan);
      numbers = c.in_ok-best.ensures.numbers;
    }

pub returns-clause-least : goal.returns-clause-least
returns-clause-least c =
    let contents = c.args.cat.now in
    let q = c.args.q.now in
    let paths = c.args.paths.now in
    let x = c.index-paths-least.result in
    let whole = at-place (IsWhole contents q) paths c.in-Some.least.at x c.in-Some.ensures.within c.index-paths-least.is c.requires.candidates.whole in
    let least = subst (λ (y : Path). IsLeastOf contents q (map path paths) (path y).tree) (sym c.index-paths-least.is) (c.in-Some.ensures.least x) in
    let priced = subst (λ (y : Path). IsPriced contents q (path y) c.in-Some.least.price) (sym c.index-paths-least.is) (c.in-Some.ensures.priced x) in
    let price = priced.price in
    subst (IsBestPlan contents q) (sym c.in_ok-best.ensures.tree)
    (least-best contents q (lawful-rows contents q c.lawful.ensures) c.args.asked (map path paths) c.requires.candidates (path x).tree whole.plan least (omega (arith, price, c.if-least-asked.false)))
