-- Plans in the order asked for: they are finished, and none that is admissible is of a lower price than the least of them.
use Rattle.std.proofs.Common.{◌≡◌, ◌⊎◌, ◌<◌, ◌≤◌, ◌+◌, ℕ, inl, inr, suc, Bool, true, false, cond, nat_lt, List, [], ◌∷◌, length, refl, sym, ap, subst, le_refl, le_trans, true≢false, arith}
use Rattle.std.specs.Prelude.{All, Contains}
use Rattle.std.proofs.lemmas.Bool.{cases_lt, lt-ltb}
use Rattle.std.proofs.lemmas.List.Elements.{All-contains}
use Rattle.catalog.specs.Contents.{Contents}
use Rattle.cost_rules.specs.Costs.{sort_work}
use Rattle.sql_query.specs.Queries.{Query, all_of_query}
use Rattle.pathkeys.specs.Keys.{Keys, covers, order_keys}
use Rattle.plan_tree.specs.Plans.{Plan, seq, index, index_only, bitmap, sort, nest, merge, empty, is_sort, set_of}
use Rattle.plan_tree.specs.Keys.{keys_of}
use Rattle.plan_tree.specs.Costs.{cost, price}
use Rattle.plan_tree.specs.work.Costs.{HaveRows}
use Rattle.path_cost.specs.Estimates.{set_rows}
use Rattle.plan_tree.specs.Space.{IsFinished, IsPlanOf, MeetsOrder}
use Rattle.plan_tree.specs.Least.{IsAdmissible, IsBestPlan, IsStartupAtMost}
use Rattle.plan_tree.specs.work.Paths.{Path}
use Rattle.plan_tree.proofs.BoundLemmas.{sort-most, startup-most}
use Rattle.plan_tree.proofs.WindowLemmas.{startup-from}
use Rattle.cost_rules.specs.declared.parameters.TheConstants.{MOST_COST}
use Rattle.join_search.specs.plan_laws_Useful.{IsBelow}
use Rattle.join_search.specs.plan_laws_LeastLemmas.{finished-plain}
use Rattle.join_search.specs.plan_laws_UsefulLemmas.{child-below, price-most, price-total, sort-stands}
use Rattle.join_search.specs.declared.useful.Asked.{Asked}
use Rattle.planner.specs.work.Finishing.{AreCandidates, IsLeastOf, IsWhole, finished, finished_price}
use Rattle.plan_tree.proofs.DominationLemmas.{startup-trans}
use Rattle.plan_tree.proofs.DominationLemmas.{startup-refl}

module _ (c : Contents) (q : Query) where
  plain-meets : (t : Plan) (keys : Keys) → is_sort t ≡ false → covers (keys_of c q t) keys ≡ true → MeetsOrder c q t keys
  plain-meets (seq r) keys e h = h
  plain-meets (index r i backward p) keys e h = h
  plain-meets (index_only r i backward p) keys e h = h
  plain-meets (bitmap r p bits) keys e h = h
  plain-meets (sort ks input) keys e h = absurd (true≢false e)
  plain-meets (nest outer inner) keys e h = h
  plain-meets (merge ks outer inner) keys e h = h

  meets-plain : (t : Plan) (keys : Keys) → is_sort t ≡ false → MeetsOrder c q t keys → covers (keys_of c q t) keys ≡ true
  meets-plain (seq r) keys e h = h
  meets-plain (index r i backward p) keys e h = h
  meets-plain (index_only r i backward p) keys e h = h
  meets-plain (bitmap r p bits) keys e h = h
  meets-plain (sort ks input) keys e h = absurd (true≢false e)
  meets-plain (nest outer inner) keys e h = h
  meets-plain (merge ks outer inner) keys e h = h

  -- what is not covered is not empty
  not-empty : (a keys : Keys) → covers a keys ≡ false → nat_lt 0 (length keys) ≡ true
  not-empty a [] e = absurd (true≢false e)
  not-empty a (k ∷ keys) e = lt-ltb 0 (suc (length keys)) (omega arith)

  whole-finished : (t : Plan) → IsPlanOf c q (all_of_query q) empty t → (b : Bool) → covers (keys_of c q t) (order_keys q.classes q.order) ≡ b →
      IsFinished c q (cond b t (sort (order_keys q.classes q.order) t))
  whole-finished t h true e = record { built = h.built; set_is = h.set_is; param_is = h.param_is; ordered = plain-meets t (order_keys q.classes q.order) h.plain e }
  whole-finished t h false e = record {
    built = (h.built, h.plain);
    set_is = h.set_is;
    param_is = h.param_is;
    ordered = (refl, not-empty (keys_of c q t) (order_keys q.classes q.order) e);
  }

  -- a plan of all relations in the order asked for is finished
  pub is-finished : (t : Plan) → IsPlanOf c q (all_of_query q) empty t → IsFinished c q (finished c q t)
  is-finished t h = whole-finished t h (covers (keys_of c q t) (order_keys q.classes q.order)) refl

  -- a finished plan is the plan itself where the keys are covered
  pub covered-finished : (t : Plan) → covers (keys_of c q t) (order_keys q.classes q.order) ≡ true → finished c q t ≡ t
  covered-finished t e = ap (λ b. cond b t (sort (order_keys q.classes q.order) t)) e

  pub sorted-finished : (t : Plan) → covers (keys_of c q t) (order_keys q.classes q.order) ≡ false → finished c q t ≡ sort (order_keys q.classes q.order) t
  sorted-finished t e = ap (λ b. cond b t (sort (order_keys q.classes q.order) t)) e

module _ (c : Contents) (q : Query) (some : HaveRows c q) where
  -- neither number of one plan is greater than another's
  pub record IsCheap (p o : Plan) : Type 0 where
    pub total : (cost c q p).total ≤ (cost c q o).total
    pub startup : IsStartupAtMost q.window (cost c q p).startup (cost c q o).startup

  cheap-trans : (p o r : Plan) → IsCheap p o → IsCheap o r → IsCheap p r
  cheap-trans p o r h k = record {
    total = le_trans h.total k.total;
    startup = startup-trans q.window (cost c q p).startup (cost c q o).startup (cost c q r).startup h.startup k.startup;
  }

  cheap-price : (p o : Plan) → IsCheap p o → price c q p ≤ price c q o
  cheap-price p o h = price-most c q q.window p o h.total h.startup

  -- a sort costs before its first row at least what its input costs in all
  before-sort : (keys : Keys) (t : Plan) → (cost c q t).startup ≤ (cost c q (sort keys t)).startup
  before-sort keys t = le_trans (startup-most c q some t) (work (cost c q t).total (sort_work (set_rows c q.range q.classes (set_of t))))
    where
      work : (a b : ℕ) → a ≤ a + b
      work a b = omega arith

  -- in the order asked for it costs no more than its sort by the order keys
  below-sort : (t : Plan) (b : Bool) → IsCheap (cond b t (sort (order_keys q.classes q.order) t)) (sort (order_keys q.classes q.order) t)
  below-sort t true = record {
    total = sort-most c q (order_keys q.classes q.order) t;
    startup = startup-from q.window (cost c q t).startup (cost c q (sort (order_keys q.classes q.order) t)).startup (before-sort (order_keys q.classes q.order) t);
  }
  below-sort t false = record {
    total = le_refl (cost c q (sort (order_keys q.classes q.order) t)).total;
    startup = startup-refl q.window (cost c q (sort (order_keys q.classes q.order) t)).startup;
  }

  module _ (asked : Asked) (paths : List Path) (are : AreCandidates c q asked paths) where
    -- some path's plan in the order asked for costs no more, before the first row and in all, than a plan
    pub record IsUndercut (o : Plan) : Type 0 where
      pub path : Path
      pub is_there : Contains paths path
      pub cheap : IsCheap (finished c q path.tree) o

    plain-undercuts : (o : Plan) → is_sort o ≡ false → IsFinished c q o → IsBelow c q asked.limit o → IsUndercut o
    plain-undercuts o e f a =
        let keys = order_keys q.classes q.order in
        let of : IsPlanOf c q (all_of_query q) empty o = record { built = f.built; plain = e; set_is = f.set_is; param_is = f.param_is } in
        let found = are.enough o of a in
        let p = found.path in
        let is = All-contains (IsWhole c q) paths p are.whole found.is_there in
        let done = finished-plain c q asked.every_key p.tree o is.plan.built is.plan.plain e found.suffices f in
        let covered = covered-finished c q p.tree (meets-plain c q p.tree keys is.plan.plain done.ordered) in
        record {
          path = p;
          is_there = found.is_there;
          cheap = subst (λ t. IsCheap t o) (sym covered) (record { total = found.suffices.total; startup = found.suffices.startup });
        }

    -- some path's plan in the order asked for costs no more than a finished plan below the limit
    undercuts : (o : Plan) → IsFinished c q o → IsBelow c q asked.limit o → IsUndercut o
    undercuts (sort ks input) f a =
        let keys = order_keys q.classes q.order in
        let under = child-below c q asked.every_key input (sort ks input) asked.limit (sort-most c q ks input) (before-sort ks input) a in
        let of : IsPlanOf c q (all_of_query q) empty input = record { built = f.built.0; plain = f.built.1; set_is = f.set_is; param_is = f.param_is } in
        let found = are.enough input of under in
        let t = found.path.tree in
        let one = below-sort t (covers (keys_of c q t) keys) in
        let d = (sort-stands c q asked.every_key keys t input found.suffices).suffices in
        let two : IsCheap (sort keys t) (sort keys input) = record { total = d.total; startup = d.startup } in
        record {
          path = found.path;
          is_there = found.is_there;
          cheap = subst (λ (k : Keys). IsCheap (finished c q t) (sort k input)) (sym f.ordered.0) (cheap-trans (finished c q t) (sort keys t) (sort keys input) one two);
        }
    undercuts (seq r) f a = plain-undercuts (seq r) refl f a
    undercuts (index r i backward p) f a = plain-undercuts (index r i backward p) refl f a
    undercuts (index_only r i backward p) f a = plain-undercuts (index_only r i backward p) refl f a
    undercuts (bitmap r p bits) f a = plain-undercuts (bitmap r p bits) refl f a
    undercuts (nest outer inner) f a = plain-undercuts (nest outer inner) refl f a
    undercuts (merge ks outer inner) f a = plain-undercuts (merge ks outer inner) refl f a

    -- where none of them is admissible no finished plan is, if the limit is no less than that of costs
    pub none-finished : MOST_COST ≤ asked.limit → All (λ p. ¬ IsAdmissible c q (finished c q p.tree)) paths → (o : Plan) → IsFinished c q o → ¬ IsAdmissible c q o
    none-finished whole none o f a =
        let floor = price-total c q some q.window o in
        let u = undercuts o f (record { admissible = a; floor = le_trans_lt floor a whole }) in
        let total = u.cheap.total in
        All-contains (λ p. ¬ IsAdmissible c q (finished c q p.tree)) paths u.path none u.is_there (omega (arith, a, total))
      where
        le_trans_lt : {x y l : ℕ} → x ≤ y → y < MOST_COST → MOST_COST ≤ l → x < l
        le_trans_lt h k m = omega (arith, h, k, m)

    -- the least of the paths' plans, where its price is below the limit, is undercut by no admissible finished plan
    pub least-best : (t : Plan) → IsPlanOf c q (all_of_query q) empty t → IsLeastOf c q paths t → finished_price c q t < asked.limit → IsBestPlan c q (finished c q t)
    least-best t of h below = record {
      finished = is-finished c q t of;
      admissible = h.admissible;
      least = λ o f a. by o f a (cases_lt (price c q o) (finished_price c q t));
    }
      where
        by : (o : Plan) → IsFinished c q o → IsAdmissible c q o → (price c q o < finished_price c q t) ⊎ (finished_price c q t ≤ price c q o) → finished_price c q t ≤ price c q o
        by o f a (inr le) = le
        by o f a (inl lt) =
            let u = undercuts o f (record { admissible = a; floor = omega (arith, lt, below) }) in
            let total = u.cheap.total in
            let under : IsAdmissible c q (finished c q u.path.tree) = omega (arith, a, total) in
            let least = All-contains (λ (p : Path). IsAdmissible c q (finished c q p.tree) → finished_price c q t ≤ finished_price c q p.tree) paths u.path h.least u.is_there in
            le_trans (least under) (cheap-price (finished c q u.path.tree) o u.cheap)
