-- What finished plans over entries cost.
use Rattle.std.proofs.Common.{◌≡◌, ◌≤◌, ◌+◌, ℕ, Bool, true, false, sym, ap, ap₂, ◌∙◌, true≢false, arith}
use Rattle.std.specs.Prelude.{Option, option_map, nat_lt}
use Rattle.std.proofs.lemmas.Bool.{ltb-true, lt-ltb}
use Rattle.pg_base.specs.Sets.{has}
use Rattle.pg_base.specs.declared.rel_set.RelSet.{RelSet}
use Rattle.catalog.specs.Contents.{Contents}
use Rattle.cost_rules.specs.Costs.{pair, sort_cost, sort_work}
use Rattle.cost_rules.specs.declared.pair.Pair.{Pair}
use Rattle.cost_rules.specs.declared.parameters.TheConstants.{MOST_COST}
use Rattle.path_cost.specs.Estimates.{set_rows}
use Rattle.sql_query.specs.Queries.{Query, all_of_query}
use Rattle.sql_query.specs.declared.window.Window.{Window}
use Rattle.pathkeys.specs.Keys.{Keys, order_keys}
use Rattle.plan_tree.specs.Costs.{cost, price, query_rows}
use Rattle.plan_tree.specs.work.Costs.{HaveRows}
use Rattle.plan_tree.specs.Paths.{startup_kept}
use Rattle.plan_tree.specs.work.Paths.{kept_cost}
use Rattle.plan_tree.specs.Plans.{Plan, set_of, sort}
use Rattle.plan_tree.specs.Space.{IsFinished, IsSameSet}
use Rattle.plan_tree.proofs.BoundLemmas.{startup-most}
use Rattle.plan_tree.proofs.WindowLemmas.{kept-least}
use Rattle.plan_check.specs.Certificates.{Certificate, Entry, Side, sorted_if}
use Rattle.entry_check.specs.plan_check_Beating.{IsRight}
use Rattle.entry_check.specs.plan_check_BeatingLemmas.{kept}
use Rattle.entry_check.specs.work.Owning.{IsFinishedSide}
use Rattle.certificate_check.specs.work.Pricing.{HasPrice, IsFinishedEntry, IsPriced}
use Rattle.cost_rules.specs.declared.prices.Price.{Price}

pub kept-under : (w : Option Window) (n m total : ℕ) → n ≡ startup_kept w m → m ≤ total → n ≤ total
kept-under w n m total e le = let most = kept-least w m in omega (arith, e, le, most)

module _ (c : Contents) (q : Query) where
  abbrev order : Keys
  order = order_keys q.classes q.order

  -- the rows of all relations
  pub rows-all : (all : RelSet) (n : ℕ) → IsSameSet (has all.0) (all_of_query q) → n ≡ set_rows c q.range q.classes (has all.0) → n ≡ query_rows c q
  rows-all all n is e = let same : has all.0 ≡ all_of_query q = λ i k. is k i in e ∙ ap (set_rows c q.range q.classes) same

  module _ (e : Entry) where
    -- as it stands
    pub plain-kept : (s : Bool) (p : Plan) (n : ℕ) → s ≡ false → IsRight c q e p → n ≡ startup_kept q.window e.startup → pair n e.cost ≡ kept_cost q.window (cost c q (sorted_if s order p))
    plain-kept true p n is r f = absurd (true≢false is)
    plain-kept false p n is r f = ap₂ (λ (x y : ℕ). pair x y) (f ∙ kept q.window e.startup (cost c q p).startup r.numbers.startup) r.numbers.total

    -- sorted
    pub sorted-kept : (s : Bool) (p : Plan) (n rows : ℕ) (x : Pair) → s ≡ true → IsRight c q e p → IsFinished c q (sorted_if s order p) → rows ≡ query_rows c q → ((m : ℕ) → x ≡ sort_cost (pair m e.cost) rows) → n ≡ startup_kept q.window x.startup →
        pair n x.total ≡ kept_cost q.window (cost c q (sorted_if s order p))
    sorted-kept false p n rows x is r f g h k = absurd (true≢false (sym is))
    sorted-kept true p n rows x is r f g h k =
        let same : set_of p ≡ all_of_query q = λ i j. f.set_is j i in
        let many : rows ≡ set_rows c q.range q.classes (set_of p) = g ∙ ap (set_rows c q.range q.classes) (sym same) in
        let costs : x ≡ cost c q (sort order p) = h 0 ∙ ap₂ (λ (t u : ℕ). pair (t + sort_work u) (t + sort_work u + u)) r.numbers.total many in
        ap (λ (m : ℕ). pair m x.total) k ∙ ap (kept_cost q.window) costs

    pub cost-most : (s : Bool) → IsFinishedEntry c q e s → e.cost ≤ MOST_COST
    cost-most s h = let total = h.right.numbers.total in let less = h.right.has.admissible in omega (arith, total, less)

    pub start-most : (s : Bool) (n : ℕ) → HaveRows c q → IsFinishedEntry c q e s → n ≡ startup_kept q.window e.startup → n ≤ e.cost
    start-most s n some h f =
        let p = h.input in
        let total = h.right.numbers.total in
        let own = kept-under q.window n (cost c q p).startup (cost c q p).total (f ∙ kept q.window e.startup (cost c q p).startup h.right.numbers.startup) (startup-most c q some p) in
        omega (arith, total, own)

  -- a price of what a plan costs
  pub has-price : (p : Plan) (x : Pair) (amount : ℕ) → x ≡ kept_cost q.window (cost c q p) → amount ≡ price c q p → HasPrice c q p (record { amount = amount; admissible = nat_lt x.total MOST_COST })
  has-price p x amount e f =
      let total : x.total ≡ (cost c q p).total = ap (λ (y : Pair). y.total) e in
      record {
        amount_is = f;
        yes = λ is. let lt = ltb-true x.total MOST_COST is in omega (arith, lt, total);
        no = λ is lt. true≢false (sym (lt-ltb x.total MOST_COST (omega (arith, lt, total))) ∙ is);
      }

  -- a side that is finished has it
  pub side-priced : (t : Certificate) (s : Side) (e : Entry) (x : Price) (h : IsFinishedSide c q t s e) → HasPrice c q (sorted_if s.sorted order h.input) x → IsPriced c q t s x
  side-priced t s e x h has = record {
    plan = sorted_if s.sorted order h.input;
    is = ap (option_map (sorted_if s.sorted order)) h.unfolds;
    finished = h.finished;
    has = has;
  }
