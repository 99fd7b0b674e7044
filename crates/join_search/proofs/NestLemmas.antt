-- Nested loops of two sets: in the plan space, with their cost, and dominated by those with the cheapest inner path.
use Rattle.std.proofs.Common.{◌≡◌, ◌⊎◌, ◌<◌, ◌≤◌, ◌+◌, ◌*◌, ◌-◌, ◌^◌, ◌||◌, ℕ, List, [], min, inl, inr, refl, sym, ◌∙◌, ap, ap₂, subst, subst₂, le_refl, arith}
use Rattle.std.specs.Prelude.{All, Contains, Option, None, Some}
use Rattle.std.proofs.Math.Nat.{mul-le-mul_left}
use Rattle.std.proofs.lemmas.Bool.{cases_lt}
use Rattle.std.proofs.lemmas.List.Elements.{All-contains, All-weaker}
use Rattle.pg_base.specs.Sets.{has}
use Rattle.pg_base.specs.declared.rel_set.RelSet.{RelSet}
use Rattle.catalog.specs.Contents.{Contents}
use Rattle.cost_rules.specs.Costs.{nest_cost, row_cost}
use Rattle.cost_rules.specs.work.Costs.{IsAtMost, capped_pair}
use Rattle.cost_rules.proofs.CapLemmas.{capped-rises}
use Rattle.cost_rules.specs.declared.pair.Pair.{Pair}
use Rattle.eq_classes.specs.Clauses.{Set}
use Rattle.eq_classes.specs.Holding.{IsWithin}
use Rattle.path_cost.specs.Costs.{operators}
use Rattle.path_cost.specs.Estimates.{conditions_where}
use Rattle.pathkeys.proofs.CoveringLemmas.{covers-refl}
use Rattle.sql_query.specs.Queries.{Query}
use Rattle.plan_tree.specs.Costs.{cost, estimate, join_operators}
use Rattle.plan_tree.specs.work.Fronts.{StayDominated}
use Rattle.plan_tree.specs.Keys.{keys_of}
use Rattle.plan_tree.specs.work.Paths.{Path, kept_cost}
use Rattle.plan_tree.specs.Plans.{Plan, empty, joins, nest, param_of, set_of}
use Rattle.plan_tree.specs.Space.{IsBuilt, IsLike, IsPlanOf}
use Rattle.plan_tree.specs.declared.path.Path.{Path as Costed}
use Rattle.plan_tree.proofs.JoinLemmas.{nest_costs}
use Rattle.plan_tree.proofs.ReplacingLemmas.{nest-totals}
use Rattle.plan_tree.proofs.WindowLemmas.{kept-most, nest-kept, startup-both, startup-from}
use Rattle.join_search.specs.work.Tables.{Fronts, front_at, none, params_of, paths_at, paths_of, places_at}
use Rattle.join_search.specs.work.Joins.{ArePlaced, IsPathAt}
use Rattle.join_search.specs.work.Nests.{IsInner, nest_operators, nest_with}
use Rattle.join_search.specs.work.Offers.{AreEachServed, AreEarlyServed, AreNestsServed, IsCheapest}
use Rattle.join_search.specs.work.Splits.{IsSplit}
use Rattle.join_search.specs.work.Sufficing.{IsServed}
use Rattle.join_search.specs.declared.useful.Asked.{Asked}
use Rattle.join_search.specs.declared.splits.Split.{Split}
use Rattle.join_search.specs.declared.table.Table.{Table}
use Rattle.join_search.proofs.OfferLemmas.{kept-at-most, served-by, served-later}
use Rattle.join_search.proofs.ItemLemmas.{plan-of-none}
use Rattle.join_search.proofs.TableLemmas.{params-found}
use Rattle.join_search.proofs.PlanLemmas.{at-none, at-param, at-set, whole-rows}
use Rattle.plan_tree.proofs.SetLemmas.{sets-same}

-- no operators cost no more
ops-rise : (a b : Pair) (ro ri n : ℕ) → IsAtMost (nest_cost a b ro ri 0) (nest_cost a b ro ri n)
ops-rise a b ro ri n =
    let ops : row_cost 0 ≤ row_cost n = omega arith in
    let work : ro * ri * row_cost 0 ≤ ro * ri * row_cost n = mul-le-mul_left {m = row_cost 0} {n = row_cost n} (ro * ri) ops in
    record { startup = le_refl (a.startup + b.startup); total = sum (a.total + ro * b.total) (ro * ri * row_cost 0) (ro * ri * row_cost n) work }
  where
    sum : (x y z : ℕ) → y ≤ z → x + y ≤ x + z
    sum x y z h = omega (arith, h)

module _ (c : Contents) (q : Query) where
  -- the nested loop of two paths is a plan of their sets
  pub nest-plan : (j : Split) (o i : Path) → IsSplit c q j → IsPathAt c q j.outer none o → IsInner c q j i → IsPlanOf c q (has j.set.0) empty (nest o.tree i.tree)
  nest-plan j o i split outer inner =
      let op = outer.is_path.plan in
      let ip = inner.stands.is_path.plan in
      let reads = at-set c q j.outer none o outer in
      let reads' = at-set c q j.inner i.param i inner.stands in
      record {
        built = (
          op.built,
          ip.built,
          record {
            sides = record { apart = λ k is. sym (reads' k) ∙ split.divided.apart k (reads k ∙ is); outer_whole = at-none c q j.outer o outer };
            given = λ k is. sym (reads k) ∙ inner.given k (at-param c q j.inner i.param i inner.stands k ∙ is);
            outer_plain = op.plain;
            inner_plain = ip.plain;
          },
        );
        plain = refl;
        set_is = λ k. ap₂ (λ x y. x || y) (sym (reads k)) (sym (reads' k)) ∙ sym (split.divided.all k);
        param_is = λ k. refl;
      }

  -- what it costs with so many operators
  pub nest-reckoned : (j : Split) (o i : Path) (rows m n : ℕ) (x y result : Pair) → IsSplit c q j → IsPathAt c q j.outer none o → rows ≡ estimate c q i.tree → 1 ≤ rows → m ≡ min n (2 ^ 64 - 1) →
      x ≡ capped_pair (kept_cost q.window (cost c q o.tree)) → y ≡ capped_pair (kept_cost q.window (cost c q i.tree)) → result ≡ capped_pair (nest_cost x y j.outer_rows rows m) → result ≡ nest_with c q o.tree i.tree n
  nest-reckoned j o i rows m n x y result split outer same some cut ex ey e =
      let a = cost c q o.tree in
      let b = cost c q i.tree in
      let outer_rows : j.outer_rows ≡ estimate c q o.tree = split.outer_rows ∙ whole-rows c q j.outer o.tree (at-set c q j.outer none o outer) (at-none c q j.outer o outer) in
      nest_costs result x y j.outer_rows rows m (estimate c q o.tree) (estimate c q i.tree) n e outer_rows same cut split.outer_estimate.some some (kept_cost q.window a) (kept_cost q.window b) ex ey
      ∙ ap capped_pair (nest-kept q.window a b (estimate c q o.tree) (estimate c q i.tree) n)

  -- with its own it costs what its plan does
  pub nest-exact : (j : Split) (o i : Path) (m : ℕ) (result : Pair) → IsPathAt c q j.outer none o → m ≡ nest_operators q j.outer i.tree → ((n : ℕ) → m ≡ min n (2 ^ 64 - 1) → result ≡ nest_with c q o.tree i.tree n) →
      result ≡ capped_pair (kept_cost q.window (cost c q (nest o.tree i.tree)))
  nest-exact j o i m result outer ops h =
      h (join_operators q o.tree i.tree)
      (ops ∙ ap (λ (a : Set). min (operators (conditions_where (joins a i.tree) q.classes.clauses)) (2 ^ 64 - 1)) (sets-same (has j.outer.0) (set_of o.tree) (at-set c q j.outer none o outer)))

  -- with no operators a nested loop costs no more than its plan does
  pub nest-least : (o i : Plan) (result : Pair) → ((n : ℕ) → 0 ≡ min n (2 ^ 64 - 1) → result ≡ nest_with c q o i n) → IsAtMost result (capped_pair (kept_cost q.window (cost c q (nest o i))))
  nest-least o i result h = subst (λ (m : Pair). IsAtMost m (capped_pair (kept_cost q.window (cost c q (nest o i))))) (sym (h 0 (omega arith))) (capped-rises _ _ (kept-at-most q.window _ _ (ops-rise (cost c q o) (cost c q i) (estimate c q o) (estimate c q i) (join_operators q o i))))

  pub same-like : (s p : RelSet) (x y : Path) → IsPathAt c q s p x → IsPathAt c q s p y → IsLike x.tree y.tree
  same-like s p x y h k = record {
    set = λ n. sym (at-set c q s p x h n) ∙ at-set c q s p y k n;
    param = λ n. sym (at-param c q s p x h n) ∙ at-param c q s p y k n;
  }

  pub given-inner : (j : Split) (p : RelSet) (x : Path) → IsPathAt c q j.inner p x → IsWithin (has p.0) (has j.outer.0) → IsInner c q j x
  given-inner j p x h within = record {
    stands = subst (λ (r : RelSet). IsPathAt c q j.inner r x) (sym h.param) h;
    given = subst (λ (r : RelSet). IsWithin (has r.0) (has j.outer.0)) (sym h.param) within;
  }

module _ (c : Contents) (q : Query) (asked : Asked) where
  -- what a path of the same place serves as inner one that costs no more, another is served by
  module _ (front : List Path) (b p : RelSet) (i y : Path) (at : IsPathAt c q b p i) (at' : IsPathAt c q b p y) (least : i.cost ≤ y.cost) (first : i.startup ≤ y.startup) where
    inner-replaced : (o : Plan) → IsServed c q asked front (nest o i.tree) → IsServed c q asked front (nest o y.tree)
    inner-replaced o served built below =
        let like = same-like c q b p i y at at' in
        let total : (cost c q i.tree).total ≤ (cost c q y.tree).total = subst₂ (λ m n. m ≤ n) at.is_path.numbers.cost at'.is_path.numbers.cost least in
        let startup = kept-most q.window (cost c q i.tree).startup (cost c q y.tree).startup (subst₂ (λ m n. m ≤ n) at.is_path.numbers.startup at'.is_path.numbers.startup first) in
        let own : IsLike o o = record { set = λ k. refl; param = λ k. refl } in
        let most = nest-totals c q o o i.tree y.tree own like (le_refl (cost c q o).total) total in
        let n = built.2 in
        let again : IsBuilt c q (nest o i.tree) = (
          built.0,
          at.is_path.plan.built,
          record {
            sides = record { apart = λ k is. like.set k ∙ n.sides.apart k is; outer_whole = n.sides.outer_whole };
            given = λ k is. n.given k (sym (like.param k) ∙ is);
            outer_plain = n.outer_plain;
            inner_plain = at.is_path.plan.plain;
          },
        ) in
        served-by c q asked front (nest o i.tree) (nest o y.tree) again
        (record {
          like = record { set = λ k. ap (λ x. set_of o k || x) (like.set k); param = λ k. refl };
          total = most;
          startup = startup-both q.window (cost c q o).startup (cost c q o).startup (cost c q i.tree).startup (cost c q y.tree).startup (startup-from q.window _ _ (le_refl (cost c q o).startup)) startup;
          keys = covers-refl (keys_of c q o);
        }) served built below

  -- where the nested loops with the cheapest inner path are served, and those with each that starts earlier, all are
  pub nests-served : (front outers inners : List Path) (b p : RelSet) (i : Path) → All (IsPathAt c q b p) inners → IsCheapest inners i → AreEachServed c q asked front outers i.tree → AreEarlyServed c q asked front outers i.startup inners → AreNestsServed c q asked front outers inners
  nests-served front outers inners b p i at cheapest served early o y x z =
      subst₂ (λ a d. IsServed c q asked front (nest a d)) x.is_plan z.is_plan (by (cases_lt z.path.startup i.startup))
    where
      by : (z.path.startup < i.startup) ⊎ (i.startup ≤ z.path.startup) → IsServed c q asked front (nest x.path.tree z.path.tree)
      by (inl lt) = All-contains (λ (e : Path). IsServed c q asked front (nest e.tree z.path.tree)) outers x.path (All-contains (λ (e : Path). e.startup < i.startup → AreEachServed c q asked front outers e.tree) inners z.path early z.is_there lt) x.is_there
      by (inr le) =
          let is = All-contains (IsPathAt c q b p) inners i at cheapest.is_there in
          let is' = All-contains (IsPathAt c q b p) inners z.path at z.is_there in
          let least = All-contains (λ (e : Path). i.cost ≤ e.cost) inners z.path cheapest.least z.is_there in
          inner-replaced front b p i z.path is is' least le x.path.tree (All-contains (λ (e : Path). IsServed c q asked front (nest e.tree i.tree)) outers x.path served x.is_there)

  pub each-later : (old new outers : List Path) (i : Plan) → StayDominated c q old new → AreEachServed c q asked old outers i → AreEachServed c q asked new outers i
  each-later old new outers i still h = All-weaker (λ (o : Path). IsServed c q asked old (nest o.tree i)) (λ (o : Path). IsServed c q asked new (nest o.tree i)) (λ o k. served-later c q asked old new (nest o.tree i) still k) outers h

  pub nests-none : (front outers inners : List Path) → inners ≡ [] → AreNestsServed c q asked front outers inners
  nests-none front outers inners e o i x y = absurd (plan-of-none inners i e y)

  -- no inner path may be given rows of others than the outer set
  pub nests-apart : (fronts : Fronts) (front : List Path) (a b p : RelSet) → ArePlaced c q fronts → (IsWithin (has p.0) (has a.0) → ⊥) → AreNestsServed c q asked front (fronts a none) (fronts b p)
  nests-apart fronts front a b p placed apart o i x y built below =
      let h = All-contains (IsPathAt c q a none) (fronts a none) x.path (placed.paths a none) x.is_there in
      let k = All-contains (IsPathAt c q b p) (fronts b p) y.path (placed.paths b p) y.is_there in
      absurd (apart (λ n is.
      at-set c q a none x.path h n ∙ ap (λ (t : Plan). set_of t n) x.is_plan
      ∙ built.2.given n (sym (ap (λ (t : Plan). param_of t n) y.is_plan) ∙ sym (at-param c q b p y.path k n) ∙ is)))

  pub nests-later : (old new outers inners : List Path) → StayDominated c q old new → AreNestsServed c q asked old outers inners → AreNestsServed c q asked new outers inners
  nests-later old new outers inners still h o i x y = served-later c q asked old new (nest o i) still (h o i x y)

  -- the nested loops with the parameterisations at which the set has a front are all
  pub nests-all : (table : Table) (front : List Path) (a b : RelSet) (params : List RelSet) → params ≡ params_of (places_at table b) →
      All (λ p. AreNestsServed c q asked front (paths_at table a none) (paths_at table b p)) params → (p : RelSet) → AreNestsServed c q asked front (paths_at table a none) (paths_at table b p)
  nests-all table front a b params same h p = by (front_at table b p) refl
    where
      by : (o : Option (List Costed)) → front_at table b p ≡ o → AreNestsServed c q asked front (paths_at table a none) (paths_at table b p)
      by None e = nests-none front (paths_at table a none) (paths_at table b p) (ap paths_of e)
      by (Some f) e = All-contains (λ (r : RelSet). AreNestsServed c q asked front (paths_at table a none) (paths_at table b r)) params p h (subst (λ (ps : List RelSet). Contains ps p) (sym same) (params-found p f (places_at table b) e))
