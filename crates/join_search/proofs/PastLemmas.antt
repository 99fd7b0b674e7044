-- Joins whose sides cost so much together that they are past the limit.
use Rattle.std.proofs.Common.{◌≡◌, ◌<◌, ◌≤◌, ℕ, ◌+◌, ◌*◌, Bool, true, false, not, nat_eq, List, length, map, refl, sym, ◌∙◌, ap, subst, le_trans, arith}
use Rattle.std.specs.Prelude.{All, Contains}
use Rattle.std.proofs.Math.Nat.{mul-le-mul_left}
use Rattle.std.proofs.lemmas.Bool.{eqb-true, false≢true}
use Rattle.pg_base.specs.Sets.{has}
use Rattle.std.proofs.lemmas.List.Elements.{All-contains, All-contains_itself, All-map, All-weaker}
use Rattle.pg_base.specs.declared.rel_set.RelSet.{RelSet}
use Rattle.catalog.specs.Contents.{Contents}
use Rattle.cost_rules.specs.Costs.{row_cost, sort_cost, sort_work}
use Rattle.cost_rules.specs.declared.pair.Pair.{Pair}
use Rattle.cost_rules.specs.declared.parameters.TheConstants.{MOST_COST, OPERATOR}
use Rattle.path_cost.specs.Estimates.{pairs, set_rows}
use Rattle.pathkeys.specs.Keys.{Keys}
use Rattle.sql_query.specs.Queries.{Query}
use Rattle.plan_tree.specs.Costs.{cost, estimate, join_operators, merge_operators}
use Rattle.plan_tree.specs.work.Costs.{HaveRows}
use Rattle.plan_tree.specs.Paths.{startup_kept}
use Rattle.plan_tree.specs.work.Paths.{Path}
use Rattle.plan_tree.specs.Plans.{Plan, seq, index, index_only, bitmap, sort, nest, merge, set_of}
use Rattle.plan_tree.specs.work.Views.{path}
use Rattle.plan_tree.specs.declared.path.Path.{Path as Costed}
use Rattle.plan_tree.proofs.BoundLemmas.{sort-most, startup-most}
use Rattle.plan_tree.proofs.WindowLemmas.{kept-least}
use Rattle.join_search.specs.work.Tables.{none}
use Rattle.join_search.specs.work.Joins.{IsPathAt, IsPlanIn, IsSideIn}
use Rattle.join_search.specs.work.Merges.{IsNoCheaper}
use Rattle.join_search.specs.work.Offers.{AreMergesServed, AreNestsServed}
use Rattle.join_search.specs.work.Sufficing.{AreWholeRows, floor_in}
use Rattle.join_search.specs.declared.useful.Asked.{Asked}
use Rattle.join_search.proofs.OfferLemmas.{floor-below}
use Rattle.join_search.proofs.PlanLemmas.{at-none, at-set, whole-rows}

pub not-true : (b : Bool) → not b ≡ true → b ≡ false
not-true true e = absurd (false≢true e)
not-true false e = refl

-- paths cost no less than the least of their numbers
pub least-from : (xs : List Costed) (n : Pair) → All (λ x. n.startup ≤ x.startup) xs → All (λ x. n.total ≤ x.cost) xs → All (IsNoCheaper n) (map path xs)
least-from xs n early cheap = All-map (IsNoCheaper n) path xs (All-weaker (Contains xs) (λ (x : Costed). IsNoCheaper n (path x)) one xs (All-contains_itself xs))
  where
    one : (x : Costed) → Contains xs x → IsNoCheaper n (path x)
    one x at = (All-contains (λ (y : Costed). n.startup ≤ y.startup) xs x early at, All-contains (λ (y : Costed). n.total ≤ y.cost) xs x cheap at)

more : (m a b : ℕ) → m ≤ a → m ≤ a + b
more m a b le = omega (arith, le)

sorted-from : (x : Pair) (rows m : ℕ) → m ≤ x.total → m ≤ (sort_cost x rows).startup
sorted-from x rows m le = more m x.total (sort_work rows) le

both : (x y m n : ℕ) → m ≤ x → n ≤ y → m + n ≤ x + y
both x y m n a b = omega (arith, a, b)

both-more : (x y m n r s : ℕ) → m ≤ x → n ≤ y → m + n ≤ x + y + r + s
both-more x y m n r s a b = omega (arith, a, b)

pub no-member : (ls : List Keys) (ks : Keys) → nat_eq (length ls) 0 ≡ true → Contains ls ks → ⊥
no-member ls ks is at = omega (arith, eqb-true (length ls) 0 is, at.1)

added : (x m e f g w : ℕ) → m ≤ x → e ≤ f → f ≤ g → m + e ≤ x + g + w
added x m e f g w a b d = omega (arith, a, b, d)

runs-more : (x y m n e r w : ℕ) → m ≤ x → n ≤ y → e ≤ r * n → m + e ≤ x + r * y + w
runs-more x y m n e r w a b h = added x m e (r * n) (r * y) w a h (mul-le-mul_left {m = n} {n = y} r b)

module _ (c : Contents) (q : Query) where
  -- a plan costs no less, neither before its first row nor in all
  abbrev IsFromPlan : Pair → Plan → Type 0
  IsFromPlan n t = (n.startup ≤ (cost c q t).startup) × (n.total ≤ (cost c q t).total)

  module _ (s p : RelSet) (paths : List Path) (at : All (IsPathAt c q s p) paths) (n : Pair) (least : All (IsNoCheaper n) paths) where
    plan-from : (t : Plan) → IsPlanIn paths t → IsFromPlan n t
    plan-from t k =
        let is = All-contains (IsPathAt c q s p) paths k.path at k.is_there in
        let from = All-contains (IsNoCheaper n) paths k.path least k.is_there in
        let early : n.startup ≤ k.path.startup = from.0 in
        let cheap : n.total ≤ k.path.cost = from.1 in
        let startup : k.path.startup ≡ startup_kept q.window (cost c q t).startup = is.is_path.numbers.startup ∙ ap (λ (u : Plan). startup_kept q.window (cost c q u).startup) k.is_plan in
        let total : k.path.cost ≡ (cost c q t).total = is.is_path.numbers.cost ∙ ap (λ (u : Plan). (cost c q u).total) k.is_plan in
        let most : startup_kept q.window (cost c q t).startup ≤ (cost c q t).startup = kept-least q.window (cost c q t).startup in
        (omega (arith, early, startup, most), omega (arith, cheap, total))

    sort-from : (some : HaveRows c q) (keys : Keys) (t : Plan) → IsPlanIn paths t → IsFromPlan n (sort keys t)
    sort-from some keys t k =
        let from = plan-from t k in
        (sorted-from (cost c q t) (set_rows c q.range q.classes (set_of t)) n.startup (le_trans from.0 (startup-most c q some t)), le_trans from.1 (sort-most c q keys t))

    side-from : (some : HaveRows c q) (t : Plan) → IsSideIn paths t → IsFromPlan n t
    side-from some (sort keys input) k = sort-from some keys input k
    side-from some (seq r) k = plan-from (seq r) k
    side-from some (index r i backward p) k = plan-from (index r i backward p) k
    side-from some (index_only r i backward p) k = plan-from (index_only r i backward p) k
    side-from some (bitmap r p bits) k = plan-from (bitmap r p bits) k
    side-from some (nest o i) k = plan-from (nest o i) k
    side-from some (merge keys o i) k = plan-from (merge keys o i) k

  -- where what costs no less than the least of both sides together is past the limit, each merge of them is
  pub merges-past : (asked : Asked) (whole : ℕ) (are : AreWholeRows c q whole) (some : HaveRows c q) (a b : RelSet) (outers inners : List Path) (m n : Pair) → All (IsPathAt c q a none) outers → All (IsPathAt c q b none) inners → All (IsNoCheaper m) outers → All (IsNoCheaper n) inners →
      ((x : Pair) → m.startup + n.startup ≤ x.startup → m.total + n.total ≤ x.total → x.total < MOST_COST → floor_in q.window whole x < asked.limit → ⊥) → (front : List Path) (keys : Keys) → AreMergesServed c q asked front outers inners keys
  merges-past asked whole are some a b outers inners m n at at' least least' past front keys o i so si built below =
      let x = side-from a none outers at m least some o so in
      let y = side-from b none inners at' n least' some i si in
      absurd (past (cost c q (merge keys o i)) (both (cost c q o).startup (cost c q i).startup m.startup n.startup x.0 y.0)
      (both-more (cost c q o).total (cost c q i).total m.total n.total ((estimate c q o + 2 * estimate c q i) * (length keys * OPERATOR)) (pairs c q.range q.classes (set_of o) (set_of i) keys * row_cost (merge_operators q keys o i)) x.1 y.1)
      below.admissible (floor-below c q whole are (merge keys o i) asked.limit below))

  -- where what costs no less than the least of both sides, the inner one for each outer row, is past the limit, each nested
  -- loop of them is
  pub nests-past : (asked : Asked) (whole : ℕ) (are : AreWholeRows c q whole) (a b p : RelSet) (outers inners : List Path) (rows : ℕ) (m n each : Pair) → All (IsPathAt c q a none) outers → All (IsPathAt c q b p) inners → All (IsNoCheaper m) outers → All (IsNoCheaper n) inners →
      rows ≡ set_rows c q.range q.classes (has a.0) → each.startup ≡ n.startup → each.total ≤ rows * n.total →
      ((x : Pair) → m.startup + each.startup ≤ x.startup → m.total + each.total ≤ x.total → x.total < MOST_COST → floor_in q.window whole x < asked.limit → ⊥) → (front : List Path) → AreNestsServed c q asked front outers inners
  nests-past asked whole are a b p outers inners rows m n each at at' least least' same early total past front o i so si built below =
      let x = plan-from a none outers at m least o so in
      let y = plan-from b p inners at' n least' i si in
      let is = All-contains (IsPathAt c q a none) outers so.path at so.is_there in
      let outer_rows : rows ≡ estimate c q o = same ∙ whole-rows c q a so.path.tree (at-set c q a none so.path is) (at-none c q a so.path is) ∙ ap (estimate c q) so.is_plan in
      absurd (past (cost c q (nest o i)) (both (cost c q o).startup (cost c q i).startup m.startup each.startup x.0 (subst (λ (k : ℕ). k ≤ (cost c q i).startup) (sym early) y.0))
      (runs-more (cost c q o).total (cost c q i).total m.total n.total each.total (estimate c q o) (estimate c q o * estimate c q i * row_cost (join_operators q o i)) x.1 y.1 (subst (λ (r : ℕ). each.total ≤ r * n.total) outer_rows total))
      below.admissible (floor-below c q whole are (nest o i) asked.limit below))
