-- Entries at places, and the plans of those before them.
use Rattle.std.proofs.Common.{◌≡◌, ◌<◌, ◌≤◌, ◌-◌, ℕ, zero, suc, List, [], ◌∷◌, ◌++◌, drop, length, map, get_or, take, refl, sym, ap, subst, ◌∙◌, arith}
use Rattle.std.specs.Prelude.{Some, None, option_and_then, slice_get}
use Rattle.std.proofs.Math.Seq.{take-append_seam}
use Rattle.std.proofs.lemmas.List.{length-map, length-take, length-take-le, take-append-drop}
use Rattle.std.proofs.lemmas.Option.{slice_get_past}
use Rattle.catalog.specs.Contents.{Contents}
use Rattle.sql_query.specs.Queries.{Query, width}
use Rattle.plan_check.specs.Certificates.{Certificate, Entry, plan_at, plan_of, plans_of, unfold_at}
use Rattle.plan_check.specs.work.Views.{entry}
use Rattle.plan_check.specs.declared.entry.Entry.{Entry as Entered}
use Rattle.plan_check.proofs.UnfoldLemmas.{at-lower, at-split, goes-on, made-at}
use Rattle.plan_check.proofs.PlaceLemmas.{read-at}
use Rattle.plan_check.specs.Reasons.{AreRight}
use Rattle.entry_check.specs.work.Owning.{HasPlanAt, plans_before}

-- the entry that was read at a place, of a certificate
pub read-there : (t : Certificate) (xs items : List Entered) (n : ℕ) (x : Entered) → t.entries ≡ map entry xs → items ≡ xs → n < length t.entries → x ≡ get_or items n x → slice_get t.entries n ≡ Some (entry x)
read-there t xs items n x es e lt is =
    let count : length t.entries ≡ length xs = ap length es ∙ length-map xs entry in
    ap (λ ys. slice_get ys n) es ∙ read-at xs n x (omega (arith, lt, count)) (is ∙ ap (λ (ys : List Entered). get_or ys n x) e)

module _ (q : Query) (t : Certificate) where
  -- the plan of an entry is made of those before it
  pub unfolds : (n : ℕ) (e : Entry) → slice_get t.entries n ≡ Some e → unfold_at q t (suc n) ≡ plan_of (width q) (plans_before q t n) e
  unfolds n e h =
      let m = made-at (width q) [] t.entries n e h in
      let made = m.made in
      let later = m.later in
      let x = plan_of (width q) made e in
      let all : plans_of q t ≡ made ++ x ∷ later = m.is in
      let long : length made ≡ n = m.long in
      let seam : take n (made ++ x ∷ later) ≡ made = subst (λ k. take k (made ++ x ∷ later) ≡ made) long (take-append_seam made (x ∷ later)) in
      let first : plans_before q t n ≡ made = ap (take n) all ∙ seam in
      let at : slice_get (made ++ x ∷ later) n ≡ Some x = subst (λ k. slice_get (made ++ x ∷ later) k ≡ Some x) long (at-split made x later) in
      ap (λ ps. option_and_then (λ p. p) (slice_get ps n)) all
      ∙ ap (option_and_then (λ p. p)) at
      ∙ ap (λ ps. plan_of (width q) ps e) (sym first)

  pub long : length (plans_of q t) ≡ length t.entries
  long = let r = goes-on (width q) [] t.entries in ap length r.is ∙ r.long

  -- a number up to a place has the same plan there
  same-before : (n m : ℕ) → m ≤ n → n ≤ length t.entries → plan_at (plans_before q t n) m ≡ unfold_at q t m
  same-before n m le within =
      let ps = plans_of q t in
      let many : n ≤ length ps = subst (λ k. n ≤ k) (sym long) within in
      let count : length (take n ps) ≡ n = length-take-le n ps many in
      sym (at-lower (take n ps) (drop n ps) m (omega (arith, count, le))) ∙ ap (λ xs. plan_at xs m) (take-append-drop n ps)

  -- a number past a place has no plan there
  pub none-past : (n m : ℕ) → n < m → plan_at (plans_before q t n) m ≡ None
  none-past n zero lt = absurd (omega (arith, lt))
  none-past n (suc k) lt =
      let count = length-take n (plans_of q t) in
      ap (option_and_then (λ p. p)) (slice_get_past (take n (plans_of q t)) k (omega (arith, count, lt)))

  pub none-first : (n m : ℕ) → m < 1 → plan_at (plans_before q t n) m ≡ None
  none-first n zero lt = refl
  none-first n (suc k) lt = absurd (omega (arith, lt))

  -- the plan of an entry before a place
  pub plan-before : (c : Contents) (n m k : ℕ) (e : Entry) → n ≤ length t.entries → AreRight c q t n → m ≡ suc k → m ≤ n → slice_get t.entries k ≡ Some e → HasPlanAt c q (plans_before q t n) m e
  plan-before c n m k e within right is le there =
      let h = right k e (omega (arith, is, le)) there in
      record {
        plan = h.plan;
        is = same-before n m le within ∙ ap (unfold_at q t) is ∙ h.unfolds;
        right = record { has = h.has; numbers = h.numbers };
      }

  -- the plan of an entry that was read before a place
  pub plan-read : (c : Contents) (xs items : List Entered) (n m : ℕ) (x : Entered) → t.entries ≡ map entry xs → items ≡ xs → n ≤ length t.entries → AreRight c q t n → 1 ≤ m → m ≤ n → x ≡ get_or items (m - 1) x → HasPlanAt c q (plans_before q t n) m (entry x)
  plan-read c xs items n m x es e within right some le is =
      plan-before c n m (m - 1) (entry x) within right (omega (arith, some)) le (read-there t xs items (m - 1) x es e (omega (arith, within, some, le)) is)
