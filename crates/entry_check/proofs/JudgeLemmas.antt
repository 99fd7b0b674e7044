-- Joins by the numbers of entries, and the reason for which an entry is not right.
use Rattle.std.proofs.Common.{◌≡◌, ◌≢◌, ◌<◌, ◌≤◌, ◌+◌, ℕ, List, suc, length, refl, sym, ap, ap₂, subst, ◌∙◌, arith, ◌⊎◌, inl, inr}
use Rattle.std.specs.Prelude.{Option, Some, None, MatchOption, IfSome, IfNone, option_map, slice_get}
use Rattle.std.proofs.lemmas.Bool.{cases_lt}
use Rattle.std.proofs.lemmas.Option.{slice_get_within, same_Some, none-some}
use Rattle.catalog.specs.Contents.{Contents}
use Rattle.sql_query.specs.Queries.{Query, width}
use Rattle.sql_query.specs.declared.window.Window.{Window}
use Rattle.pathkeys.specs.Keys.{Keys}
use Rattle.plan_tree.specs.Costs.{cost, estimate}
use Rattle.plan_tree.specs.Plans.{Plan}
use Rattle.plan_check.specs.Certificates.{Certificate, Entry, Side, join_by, plan_at, plan_of, side_at, sorted_if}
use Rattle.plan_check.specs.Tables.{HasPlanNumbers, HasItsPlan, IsEntryAt, IsStartup}
use Rattle.plan_check.specs.Reasons.{AllRight, AreRight, IsBadNode, IsBadNumber, IsDifference, in_rows, in_startup, in_total}
use Rattle.plan_check.specs.Verdicts.{IsReason}
use Rattle.plan_check.specs.declared.verdict.Number.{Number}
use Rattle.plan_check.specs.declared.verdict.Reason.{Reason}
use Rattle.plan_check.specs.declared.verdict.Reason.TheVariants as reasons
use Rattle.plan_check.specs.declared.verdict.Number.TheVariants.{Startup, Total, Rows}
use Rattle.entry_check.specs.work.Owning.{AreNumbersOf, HasNone, HasOwn, HasPlanAt, HasRight, IsOwn, plans_before}
use Rattle.entry_check.specs.work.Telling.{IsFaultOf, IsFirstFault, IsOfEntries}
use Rattle.entry_check.specs.declared.numbers.Own.{Own}
use Rattle.entry_check.proofs.PlaceLemmas.{unfolds}

-- a join of which a side is missing
pub join-none : (f : Plan → Plan → Plan) (a b : Option Plan) → (a ≡ None) ⊎ (b ≡ None) → join_by f a b ≡ None
join-none f None b h = refl
join-none f (Some o) None h = refl
join-none f (Some o) (Some i) (inl e) = cc
join-none f (Some o) (Some i) (inr e) = cc

pub side-none : (plans : List (Option Plan)) (keys : Keys) (s : Side) → plan_at plans s.entry ≡ None → side_at plans keys s ≡ None
side-none plans keys s e = ap (option_map (sorted_if s.sorted keys)) e

pub side-some : (plans : List (Option Plan)) (keys : Keys) (s : Side) (p : Plan) → plan_at plans s.entry ≡ Some p → side_at plans keys s ≡ Some (sorted_if s.sorted keys p)
side-some plans keys s p e = ap (option_map (sorted_if s.sorted keys)) e

module _ (c : Contents) (q : Query) where
  pub has-right : (plans : List (Option Plan)) (m : ℕ) (e : Entry) → HasPlanAt c q plans m e → HasRight c q e
  has-right plans m e h = record { plan = h.plan; right = h.right }

  -- what a join of two plans is, is what the node that joins them is
  pub joined : (f : Plan → Plan → Plan) (a b : Option Plan) (o i : Plan) (e : Entry) (result : Option Own) → a ≡ Some o → b ≡ Some i →
      IfSome result (λ x. IsOwn c q e (f o i) x) → IfNone result (¬ HasItsPlan c q e (f o i)) → MatchOption result (HasNone c q (join_by f a b) e) (λ x. HasOwn c q (join_by f a b) e x)
  joined f a b o i e None ea eb some none = λ p is own. none (subst (HasItsPlan c q e) (same_Some p (f o i) (sym is ∙ ap₂ (join_by f) ea eb)) own)
  joined f a b o i e (Some x) ea eb some none = record { plan = f o i; is = ap₂ (join_by f) ea eb; own = some }

  pub no-join : (made : Option Plan) (e : Entry) → made ≡ None → HasNone c q made e
  no-join made e is p f own = none-some p (sym is ∙ f)

  -- the first number that differs
  pub start-differs : (e : Entry) (p : Plan) (x : Own) (w : Window) → AreNumbersOf c q p x → q.window ≡ Some w → e.startup ≢ x.startup → IsDifference q.window e (cost c q p) (estimate c q p) Startup e.startup x.startup
  start-differs e p x w n is differ =
      let same : x.startup ≡ (cost c q p).startup = subst (λ (o : Option Window). IsStartup o x.startup (cost c q p).startup) is n.startup in
      subst (λ k. IsDifference q.window e (cost c q p) (estimate c q p) Startup e.startup k) (sym same) (in_startup w is (λ f. differ (f ∙ sym same)))

  started : (w : Option Window) (a b d : ℕ) → IsStartup w a b → IsStartup w b d → IsStartup w a d
  started None a b d h k = tt
  started (Some w) a b d h k = h ∙ k

  pub total-differs : (e : Entry) (p : Plan) (x : Own) → AreNumbersOf c q p x → IsStartup q.window e.startup x.startup → e.cost ≢ x.cost → IsDifference q.window e (cost c q p) (estimate c q p) Total e.cost x.cost
  total-differs e p x n start differ =
      subst (λ k. IsDifference q.window e (cost c q p) (estimate c q p) Total e.cost k) (sym n.total) (in_total (started q.window e.startup x.startup (cost c q p).startup start n.startup) (λ f. differ (f ∙ sym n.total)))

  pub rows-differ : (e : Entry) (p : Plan) (x : Own) → AreNumbersOf c q p x → IsStartup q.window e.startup x.startup → e.cost ≡ x.cost → e.rows ≢ x.rows → IsDifference q.window e (cost c q p) (estimate c q p) Rows e.rows x.rows
  rows-differ e p x n start total differ =
      subst (λ k. IsDifference q.window e (cost c q p) (estimate c q p) Rows e.rows k) (sym n.rows) (in_rows (started q.window e.startup x.startup (cost c q p).startup start n.startup) (total ∙ n.total) (λ f. differ (f ∙ sym n.rows)))

  pub none-differs : (e : Entry) (p : Plan) (x : Own) → AreNumbersOf c q p x → IsStartup q.window e.startup x.startup → e.cost ≡ x.cost → e.rows ≡ x.rows → HasPlanNumbers c q e p
  none-differs e p x n start total rows = record { startup = started q.window e.startup x.startup (cost c q p).startup start n.startup; total = total ∙ n.total; rows = rows ∙ n.rows }

  module _ (t : Certificate) (n : ℕ) (right : AreRight c q t n) (e : Entry) (there : slice_get t.entries n ≡ Some e) where
    abbrev made : Option Plan
    made = plan_of (width q) (plans_before q t n) e

    pub bad-node : HasNone c q made e → IsBadNode c q t n
    bad-node none = record { before = right; entry = e; stands = there; wrong = λ p is has. none p (sym (unfolds q t n e there) ∙ is) has }

    pub bad-number : (x : Own) (h : HasOwn c q made e x) (what : Number) (printed own : ℕ) → IsDifference q.window e (cost c q h.plan) (estimate c q h.plan) what printed own → IsBadNumber c q t n what printed own
    bad-number x h what printed own differs = record {
      before = right;
      entry = e;
      stands = there;
      plan = h.plan;
      unfolds = unfolds q t n e there ∙ h.is;
      has = h.own.has;
      differs = differs;
    }

    pub right-too : (x : Own) (h : HasOwn c q made e x) → HasPlanNumbers c q e h.plan → AreRight c q t (n + 1)
    right-too x h numbers k d lt at = by (cases_lt k n)
      where
        by : (k < n) ⊎ (n ≤ k) → IsEntryAt c q t k d
        by (inl less) = right k d less at
        by (inr most) =
            let same : n ≡ k = omega (arith, lt, most) in
            let entry : e ≡ d = some-entry e d (sym there ∙ ap (slice_get t.entries) same ∙ at) in
            subst (λ j. IsEntryAt c q t j d) same (subst (IsEntryAt c q t n) entry (record { plan = h.plan; unfolds = unfolds q t n e there ∙ h.is; has = h.own.has; numbers = numbers }))
          where
            some-entry : (x y : Entry) → Some x ≡ Some y → x ≡ y
            some-entry x y e = cc

    pub fault-node : HasNone c q made e → IsFaultOf c q t n (reasons.BadNode (n + 1))
    fault-node none = (omega arith, bad-node none)

    pub fault-number : (x : Own) (h : HasOwn c q made e x) (what : Number) (printed own : ℕ) → IsDifference q.window e (cost c q h.plan) (estimate c q h.plan) what printed own → IsFaultOf c q t n (reasons.BadNumber (n + 1) what printed own)
    fault-number x h what printed own differs = (omega arith, bad-number x h what printed own differs)

  -- a fault of an entry is a reason
  fault-reason : (t : Certificate) (n : ℕ) (r : Reason) → IsFaultOf c q t n r → IsReason c q t r × IsOfEntries r
  fault-reason t n (reasons.BadNode number) (is, bad) = (subst (λ k. IsReason c q t (reasons.BadNode k)) (sym is) bad, tt)
  fault-reason t n (reasons.BadNumber number what printed own) (is, bad) = (subst (λ k. IsReason c q t (reasons.BadNumber k what printed own)) (sym is) bad, tt)
  fault-reason t n (reasons.Dominated number by) h = absurd h
  fault-reason t n (reasons.Uncovered node startup total rows) h = absurd h
  fault-reason t n (reasons.NotBest printed own) h = absurd h

  pub first-reason : (t : Certificate) (r : Reason) → IsFirstFault c q t r → IsReason c q t r × IsOfEntries r
  first-reason t r h = fault-reason t h.place r h.fault

  pub none-right : (t : Certificate) → AreRight c q t 0
  none-right t k e lt at = absurd (omega (arith, lt))

  pub all-right : (t : Certificate) (n : ℕ) → length t.entries ≤ n → AreRight c q t n → AllRight c q t
  all-right t n le right k e at = let lt = slice_get_within t.entries k e at in right k e (omega (arith, le, lt)) at
