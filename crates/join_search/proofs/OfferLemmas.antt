-- The path of a join, and what an offer of it does to the front of its set.
use Rattle.std.proofs.Common.{◌≡◌, ◌⊎◌, ◌<◌, ◌≤◌, ℕ, true, nat_le, List, map, inl, inr, refl, sym, ◌∙◌, ap, subst, le_refl, le_trans, arith}
use Rattle.std.specs.Prelude.{All, Contains, Option, None, Some}
use Rattle.std.proofs.lemmas.Grind.{common_steps}
use Rattle.std.proofs.lemmas.List.Elements.{All-contains, All-map, All-weaker}
use Rattle.pareto.specs.work.Front.{AreKeptOr, IsCovered}
use Rattle.pg_base.specs.Sets.{has}
use Rattle.pg_base.proofs.SetLaws.{has-zero}
use Rattle.pg_base.specs.declared.rel_set.RelSet.{RelSet}
use Rattle.catalog.specs.Contents.{Contents}
use Rattle.cost_rules.specs.work.Costs.{IsAtMost, capped_pair}
use Rattle.cost_rules.specs.declared.pair.Pair.{Pair}
use Rattle.cost_rules.specs.declared.parameters.TheConstants.{MOST_COST}
use Rattle.path_cost.specs.Estimates.{set_rows}
use Rattle.pathkeys.specs.Keys.{Keys, covers}
use Rattle.pathkeys.proofs.CoveringLemmas.{covers-trans}
use Rattle.sql_query.specs.Queries.{Query}
use Rattle.sql_query.specs.declared.window.Window.{Window}
use Rattle.plan_tree.specs.Costs.{asked as asked_of, cost, price_by, query_rows}
use Rattle.plan_tree.specs.work.Costs.{HaveRows}
use Rattle.plan_tree.specs.work.Fronts.{ArePathsOf, HasDominating, StayDominated}
use Rattle.plan_tree.specs.Keys.{keys_of}
use Rattle.plan_tree.specs.work.Paths.{Path, kept_cost}
use Rattle.plan_tree.specs.Least.{Dominates}
use Rattle.plan_tree.specs.Plans.{Plan, empty, set_of}
use Rattle.plan_tree.specs.Space.{IsBuilt, IsPlanOf}
use Rattle.plan_tree.specs.work.Views.{is_path_at_most, path}
use Rattle.plan_tree.specs.declared.path.Path.{Path as Costed}
use Rattle.plan_tree.proofs.BoundLemmas.{asked-most, startup-most}
use Rattle.plan_tree.proofs.DominationLemmas.{dominates-refl}
use Rattle.plan_tree.proofs.FrontLemmas.{contains-mapped, made-dominated, still-dominated}
use Rattle.plan_tree.proofs.WindowLemmas.{kept-least, kept-most, kept-rises, uncut-kept}
use Rattle.plan_laws.specs.work.Useful.{IsBelow, IsOfUse, Suffices}
use Rattle.plan_laws.proofs.UsefulLemmas.{below-from, dominates-suffices, price-falls, suffices-trans}
use Rattle.kept_paths.specs.work.Bounds.{IsBeaten}
use Rattle.join_search.specs.work.Tables.{Fronts, none}
use Rattle.join_search.specs.work.Joins.{IsJoinOfKept, IsJoinPath, IsPathAt}
use Rattle.join_search.specs.work.Offers.{IsCheapest, TakesJoins}
use Rattle.join_search.specs.work.Sufficing.{AreWholeRows, HasSufficient, IsPartOfUse, IsServed, StaySufficient, floor_in}
use Rattle.join_search.specs.declared.useful.Asked.{Asked}
use Rattle.join_search.proofs.PlanLemmas.{at-set, at-none, whole-rows}
use Rattle.plan_tree.proofs.SetLemmas.{sets-same}

most : (m n : ℕ) → nat_le m n ≡ true → m ≤ n
most m n e = grind (arith, common_steps)

-- of two costs of which one is at most the other, what is kept of them
pub kept-at-most : (w : Option Window) (a b : Pair) → IsAtMost a b → IsAtMost (kept_cost w a) (kept_cost w b)
kept-at-most w a b h = record { startup = kept-rises w a.startup b.startup h.startup; total = h.total }

pub at-most-same : (a b : Pair) → a ≡ b → IsAtMost a b
at-most-same a b e = subst (IsAtMost a) e (record { startup = le_refl a.startup; total = le_refl a.total })

pub floor-rises : (w : Option Window) (whole : ℕ) (a b : Pair) → 1 ≤ whole → IsAtMost a b → floor_in w whole a ≤ floor_in w whole b
floor-rises None whole a b some h = h.total
floor-rises (Some w) whole a b some h = price-falls a b (asked_of w whole) whole some (asked-most w whole) h

pub beaten-more : (front : List Path) (a b : Pair) (part : Keys) → IsAtMost a b → IsBeaten front a part → IsBeaten front b part
beaten-more front a b part h k = record { path = k.path; is_there = k.is_there; early = le_trans k.early h.startup; cheap = le_trans k.cheap h.total; covers = k.covers }

module _ (c : Contents) (q : Query) where
  -- the floor of a plan's costs by the rows of all relations is its price
  floor-same : (w : Option Window) (t : Plan) → price_by c q w t ≡ floor_in w (query_rows c q) (cost c q t)
  floor-same None t = refl
  floor-same (Some w) t = refl

  pub floor-below : (whole : ℕ) → AreWholeRows c q whole → (t : Plan) (limit : ℕ) → IsBelow c q limit t → floor_in q.window whole (cost c q t) < limit
  floor-below whole is t limit below =
      subst (λ (k : ℕ). k < limit) (floor-same q.window t ∙ ap (λ (n : ℕ). floor_in q.window n (cost c q t)) (sym is.rows)) below.floor

-- the cheapest of some paths
pub cheapest-of : (paths : List Costed) (p : Costed) → Contains paths p → All (λ o. p.cost ≤ o.cost) paths → IsCheapest (map path paths) (path p)
cheapest-of paths p is_there least = record { is_there = contains-mapped path paths p is_there; least = All-map (λ (o : Path). p.cost ≤ o.cost) path paths least }

module _ (c : Contents) (q : Query) where
  pub join-path : (s : RelSet) (t : Plan) (n : Pair) (rows : ℕ) (keys : Keys) → IsPlanOf c q (has s.0) empty t → rows ≡ set_rows c q.range q.classes (has s.0) → n ≡ capped_pair (kept_cost q.window (cost c q t)) → n.total < MOST_COST → keys ≡ keys_of c q t → HaveRows c q →
      IsPathAt c q s none (record { tree = t; set = s; param = none; startup = n.startup; cost = n.total; rows = rows; keys = keys })
  join-path s t n rows keys of r e below k some =
      let same = uncut-kept q.window (cost c q t) n (startup-most c q some t) e below in
      let total : n.total ≡ (cost c q t).total = ap (λ (x : Pair). x.total) same in
      record {
        is_path = record {
          plan = record { built = of.built; plain = of.plain; set_is = of.set_is; param_is = λ m. of.param_is m ∙ sym (has-zero m) };
          numbers = record {
            set = λ m. sym (of.set_is m);
            param = λ m. has-zero m ∙ sym (of.param_is m);
            startup = ap (λ (x : Pair). x.startup) same;
            cost = total;
            rows = r ∙ whole-rows c q s t (λ m. sym (of.set_is m)) of.param_is;
            keys = k;
          };
        };
        admissible = omega (arith, total, below);
        set = refl;
        param = refl;
      }

  pub paths-there : (s : RelSet) (ps : List Path) → All (IsPathAt c q s none) ps → ArePathsOf c q ps
  paths-there s ps h = All-weaker (IsPathAt c q s none) _ (λ x k. k.is_path) ps h

  module _ (s : RelSet) (old new : List Costed) (made : Costed) (t : Plan) (kept : AreKeptOr old made new) (stands : IsPathAt c q s none (path made)) (same : (path made).tree ≡ t) where
    pub join-takes : All (IsPathAt c q s none) (map path old) → All (IsCovered is_path_at_most new) old → (fronts : Fronts) → IsJoinOfKept fronts t → All (IsJoinPath c q fronts s none) (map path old) → TakesJoins c q fronts s (map path old) (map path new)
    join-takes before covered fronts sides joins = record {
      paths = All-map (IsJoinPath c q fronts s none) path new (All-weaker (λ x. Contains old x ⊎ (x ≡ made)) (λ x. IsJoinPath c q fronts s none (path x)) one new kept);
      still = still-dominated c q old new made kept (paths-there s (map path old) before) stands.is_path covered;
    }
      where
        one : (x : Costed) → Contains old x ⊎ (x ≡ made) → IsJoinPath c q fronts s none (path x)
        one x (inl h) = All-contains (IsJoinPath c q fronts s none) (map path old) (path x) joins (contains-mapped path old x h)
        one x (inr e) = subst (λ y. IsJoinPath c q fronts s none (path y)) (sym e) (record { stands = stands; sides = subst (IsJoinOfKept fronts) (sym same) sides })

    pub join-served : All (IsPathAt c q s none) (map path old) → IsCovered is_path_at_most new made → HasDominating c q (map path new) t
    join-served before covered = made-dominated c q old new made kept (paths-there s (map path old) before) stands.is_path t same covered

  pub joins-there : (fronts : Fronts) (s : RelSet) (ps : List Path) → All (IsJoinPath c q fronts s none) ps → All (IsPathAt c q s none) ps
  joins-there fronts s ps h = All-weaker (IsJoinPath c q fronts s none) (IsPathAt c q s none) (λ x k. k.stands) ps h

  pub takes-none : (fronts : Fronts) (s : RelSet) (ps : List Path) → All (IsJoinPath c q fronts s none) ps → TakesJoins c q fronts s ps ps
  takes-none fronts s ps h = record { paths = h; still = λ t d. d }

  pub takes-then : (fronts : Fronts) (s : RelSet) (a b d : List Path) → TakesJoins c q fronts s a b → TakesJoins c q fronts s b d → TakesJoins c q fronts s a d
  takes-then fronts s a b d first second = record { paths = second.paths; still = λ t h. second.still t (first.still t h) }

module _ (c : Contents) (q : Query) (asked : Asked) where
  pub sufficient-from : (front : List Path) (p t : Plan) → Suffices c q asked.every_key p t → HasSufficient c q asked front p → HasSufficient c q asked front t
  sufficient-from front p t s h = record { path = h.path; is_there = h.is_there; suffices = suffices-trans c q asked.every_key h.path.tree p t h.suffices s }

  pub dominating-serves : (front : List Path) (t : Plan) → HasDominating c q front t → HasSufficient c q asked front t
  dominating-serves front t h = record { path = h.path; is_there = h.is_there; suffices = dominates-suffices c q asked.every_key h.path.tree t h.dominates }

  -- what serves a plan serves one that it dominates
  pub served-by : (front : List Path) (p t : Plan) → IsBuilt c q p → Dominates c q p t → IsServed c q asked front p → IsServed c q asked front t
  served-by front p t again d served built below =
      let s = dominates-suffices c q asked.every_key p t d in
      sufficient-from front p t s (served again (below-from c q asked.every_key p t asked.limit s below))

  pub stay-sufficient : (b d : List Path) → StayDominated c q b d → StaySufficient c q asked b d
  stay-sufficient b d still t h =
      let found = still h.path.tree (record { path = h.path; is_there = h.is_there; dominates = dominates-refl c q h.path.tree }) in
      sufficient-from d h.path.tree t h.suffices (dominating-serves d h.path.tree found)

  pub served-later : (b d : List Path) (t : Plan) → StayDominated c q b d → IsServed c q asked b t → IsServed c q asked d t
  served-later b d t still served built below = stay-sufficient b d still t (served built below)

  -- a path of the front that costs no more, with keys that begin with the part of use of a plan's, suffices for it
  pub beaten-sufficient : (s : RelSet) (front : List Path) (t : Plan) (n : Pair) (part : Keys) → All (IsPathAt c q s none) front → IsPlanOf c q (has s.0) empty t → n ≡ capped_pair (kept_cost q.window (cost c q t)) →
      IsPartOfUse q asked (has s.0) (keys_of c q t) part → IsBeaten front n part → HasSufficient c q asked front t
  beaten-sufficient s front t n part paths of e k beaten =
      let startup = ap (λ (x : Pair). x.startup) e in
      let total = ap (λ (x : Pair). x.total) e in
      let x = beaten.path in
      let h = All-contains (IsPathAt c q s none) front x paths beaten.is_there in
      record {
        path = x;
        is_there = beaten.is_there;
        suffices = record {
          like = record {
            set = λ m. sym (at-set c q s none x h m) ∙ sym (of.set_is m);
            param = λ m. at-none c q s x h m ∙ sym (of.param_is m);
          };
          total = omega (arith, h.is_path.numbers.cost, total, beaten.cheap);
          startup = kept-most q.window (cost c q x.tree).startup (cost c q t).startup (omega (arith, h.is_path.numbers.startup, startup, beaten.early));
          keys = λ ks used begins. covers-trans (keys_of c q x.tree) part ks (subst (λ a. covers a part ≡ true) h.is_path.numbers.keys beaten.covers)
              (k ks (subst (λ a. IsOfUse q asked.every_key a ks) (sets-same (set_of t) (has s.0) of.set_is) used) begins);
        };
      }

  -- what a path keeps of a cost is no more than it
  kept-under : (w : Option Window) (p n : Pair) → n ≡ capped_pair (kept_cost w p) → IsAtMost n p
  kept-under w p n e =
      let startup = ap (λ (x : Pair). x.startup) e in
      let total = ap (λ (x : Pair). x.total) e in
      let least = kept-least w p.startup in
      record { startup = omega (arith, startup, least); total = omega (arith, total) }

  -- a plan past the limit is not below it
  pub past-limit : (whole : ℕ) (front : List Path) (t : Plan) (n : Pair) → AreWholeRows c q whole → n ≡ capped_pair (kept_cost q.window (cost c q t)) → (n.total < MOST_COST → floor_in q.window whole n < asked.limit → ⊥) → IsServed c q asked front t
  past-limit whole front t n is e past built below =
      let total = ap (λ (x : Pair). x.total) e in
      let least = floor-rises q.window whole n (cost c q t) is.estimate.some (kept-under q.window (cost c q t) n e) in
      let floor = floor-below c q whole is t asked.limit below in
      absurd (past (omega (arith, total, below.admissible)) (omega (arith, least, floor)))

  -- nor is one that costs no less than what is past it
  pub past-more : (whole : ℕ) (front : List Path) (t : Plan) (m n : Pair) → AreWholeRows c q whole → n ≡ capped_pair (kept_cost q.window (cost c q t)) → IsAtMost m n → (m.total < MOST_COST → floor_in q.window whole m < asked.limit → ⊥) → IsServed c q asked front t
  past-more whole front t m n is e h past =
      let total = h.total in
      let floor = floor-rises q.window whole m n is.estimate.some h in
      past-limit whole front t n is e (λ lt below. past (omega (arith, total, lt)) (omega (arith, floor, below)))
