-- Best plans of certificates.
use Rattle.std.proofs.Common.{◌≡◌, ◌<◌, ◌↔◌, ℕ, Bool, true, false, nat_lt, List, [], ◌∷◌, length, map, take, refl, sym, ap, subst, ◌∙◌, arith, true≢false}
use Rattle.std.specs.Prelude.{Some, None, option_map, slice_get}
use Rattle.std.proofs.Math.Seq.{take-length}
use Rattle.std.proofs.lemmas.Bool.{lt-ltb, ltb-true}
use Rattle.std.proofs.lemmas.List.{length-map}
use Rattle.std.proofs.lemmas.Option.{same_Some, none-some}
use Rattle.pg_base.specs.Sets.{has}
use Rattle.catalog.specs.Contents.{Contents}
use Rattle.sql_query.specs.Queries.{Query, all_of_query, width}
use Rattle.pathkeys.specs.Keys.{Keys, covers, order_keys}
use Rattle.plan_tree.specs.Keys.{keys_of}
use Rattle.plan_tree.specs.Plans.{Plan, seq, index, index_only, bitmap, sort, nest, merge, is_sort, param_of, set_of}
use Rattle.plan_tree.specs.Space.{IsEmpty, IsFinished, IsSameSet, MeetsOrder}
use Rattle.plan_check.specs.plan_laws_WithinLemmas.{built-within}
use Rattle.plan_check.specs.Certificates.{Certificate, Entry, Side, finish_at, plan_at, plans_of, sorted_if, unfold_at}
use Rattle.plan_check.specs.work.Views.{entry}
use Rattle.plan_check.specs.declared.entry.Entry.{Entry as Entered}
use Rattle.plan_check.specs.work.Beating.{IsRight}
use Rattle.plan_check.specs.Reasons.{AllRight, AreRight, HasBest, IsBadBest}
use Rattle.plan_check.specs.Verdicts.{AreWhole}
use Rattle.entry_check.specs.work.Owning.{HasPlanAt, IsFinishedSide, plans_before}
use Rattle.entry_check.proofs.PlaceLemmas.{long}
use Rattle.eq_classes.proofs.ClasswiseLemmas.{same_truth}

pub before-all : (c : Contents) (q : Query) (t : Certificate) (n : ℕ) → AllRight c q t → AreRight c q t n
before-all c q t n right k e lt at = right k e at

module _ (c : Contents) (q : Query) where
  abbrev order : Keys
  order = order_keys q.classes q.order

  meets-plain : (p : Plan) (keys : Keys) → is_sort p ≡ false → MeetsOrder c q p keys ↔ (covers (keys_of c q p) keys ≡ true)
  meets-plain (seq r) keys e = (λ h. h, λ h. h)
  meets-plain (index r i backward p) keys e = (λ h. h, λ h. h)
  meets-plain (index_only r i backward p) keys e = (λ h. h, λ h. h)
  meets-plain (bitmap r p bits) keys e = (λ h. h, λ h. h)
  meets-plain (sort ks input) keys e = absurd (true≢false e)
  meets-plain (nest o i) keys e = (λ h. h, λ h. h)
  meets-plain (merge ks o i) keys e = (λ h. h, λ h. h)

  module _ (e : Entry) (p : Plan) (r : IsRight c q e p) where
    -- all relations of the query
    pub whole-yes : ((k : ℕ) → k < width q → has e.set.0 k ≡ true) → IsEmpty (has e.param.0) → IsSameSet (set_of p) (all_of_query q) × IsEmpty (param_of p)
    whole-yes all none = (
      λ k. same_truth (set_of p k) (all_of_query q k) (built-within c q p r.has.plan.built k) (λ h. r.has.plan.set_is k ∙ all k (ltb-true k (width q) h)),
      λ k. r.has.plan.param_is k ∙ none k,
    )

    pub whole-set : IsSameSet (set_of p) (all_of_query q) × IsEmpty (param_of p) → (k : ℕ) → k < width q → has e.set.0 k ≡ true
    whole-set h k lt = sym (r.has.plan.set_is k) ∙ h.0 k ∙ lt-ltb k (width q) lt

    pub whole-param : IsSameSet (set_of p) (all_of_query q) × IsEmpty (param_of p) → IsEmpty (has e.param.0)
    whole-param h k = sym (r.has.plan.param_is k) ∙ h.1 k

    -- in the order asked for
    pub ordered-sort : (s b : Bool) → s ≡ true → b ≡ nat_lt 0 (length order) → (b ≡ true) ↔ MeetsOrder c q (sorted_if s order p) order
    ordered-sort true b is h = (λ f. (refl, sym h ∙ f), λ f. h ∙ f.1)
    ordered-sort false b is h = absurd (true≢false (sym is))

    pub ordered-plain : (s b : Bool) → s ≡ false → b ≡ covers e.keys order → (b ≡ true) ↔ MeetsOrder c q (sorted_if s order p) order
    ordered-plain true b is h = absurd (true≢false is)
    ordered-plain false b is h =
        let m = meets-plain p order r.has.plan.plain in
        let keys : b ≡ covers (keys_of c q p) order = h ∙ ap (λ (k : Keys). covers k order) r.has.keys in
        (λ f. m.1 (sym keys ∙ f), λ f. keys ∙ m.0 f)

    pub finished-from : (s : Bool) → IsSameSet (set_of p) (all_of_query q) × IsEmpty (param_of p) → MeetsOrder c q (sorted_if s order p) order → IsFinished c q (sorted_if s order p)
    finished-from true w o = record { built = (r.has.plan.built, r.has.plan.plain); set_is = w.0; param_is = w.1; ordered = o }
    finished-from false w o = record { built = r.has.plan.built; set_is = w.0; param_is = w.1; ordered = o }

    pub finished-whole : (s : Bool) → IsFinished c q (sorted_if s order p) → IsSameSet (set_of p) (all_of_query q) × IsEmpty (param_of p)
    finished-whole true f = (f.set_is, f.param_is)
    finished-whole false f = (f.set_is, f.param_is)

  module _ (t : Certificate) (s : Side) where
    pub at-end : (n : ℕ) → n ≡ length t.entries → plan_at (plans_before q t n) s.entry ≡ unfold_at q t s.entry
    at-end n e = ap (λ ps. plan_at ps s.entry) (ap (λ k. take k (plans_of q t)) (e ∙ sym (long q t)) ∙ take-length (plans_of q t))

    pub no-side : (n : ℕ) → n ≡ length t.entries → plan_at (plans_before q t n) s.entry ≡ None → (p : Plan) → finish_at q t s ≡ Some p → ⊥
    no-side n e none p f = none-some p (sym (ap (option_map (sorted_if s.sorted order)) (sym (at-end n e) ∙ none)) ∙ f)

    pub unfolds-end : (n : ℕ) (e : Entry) → n ≡ length t.entries → (h : HasPlanAt c q (plans_before q t n) s.entry e) → unfold_at q t s.entry ≡ Some h.plan
    unfolds-end n e same h = sym (at-end n same) ∙ h.is

    pub finish-is : (input p : Plan) → unfold_at q t s.entry ≡ Some input → finish_at q t s ≡ Some p → IsFinished c q p → IsFinished c q (sorted_if s.sorted order input)
    finish-is input p e f h = subst (IsFinished c q) (same_Some p (sorted_if s.sorted order input) (sym f ∙ ap (option_map (sorted_if s.sorted order)) e)) h

    pub side-best : (e : Entry) → IsFinishedSide c q t s e → s ≡ t.best → HasBest c q t
    side-best e h same = record {
      plan = sorted_if s.sorted order h.input;
      is = ap (finish_at q t) (sym same) ∙ ap (option_map (sorted_if s.sorted order)) h.unfolds;
      finished = h.finished;
    }

  -- no side that is finished is no best plan
  pub bad-best : (t : Certificate) → AllRight c q t → ((p : Plan) → finish_at q t t.best ≡ Some p → ¬ IsFinished c q p) → IsBadBest c q t
  bad-best t right none = record { right = right; none = λ h. none h.plan h.is h.finished }

  pub whole-with : (t : Certificate) (e : Entry) → AllRight c q t → IsFinishedSide c q t t.best e → AreWhole c q t
  whole-with t e right h = record { right = right; best = side-best t t.best e h refl }

pub first-some : (ks : Keys) (n : ℕ) → Some n ≡ slice_get ks 0 → true ≡ nat_lt 0 (length ks)
first-some [] n e = cc
first-some (k ∷ ks) n e = sym (lt-ltb 0 (length (k ∷ ks)) (omega arith))

pub first-none : (ks : Keys) → None ≡ slice_get ks 0 → false ≡ nat_lt 0 (length ks)
first-none [] e = refl
first-none (k ∷ ks) e = cc

-- as many entries as are read
pub read-count : (t : Certificate) (xs items : List Entered) → t.entries ≡ map entry xs → items ≡ xs → length items ≡ length t.entries
read-count t xs items e same = ap length same ∙ sym (length-map xs entry) ∙ sym (ap length e)
