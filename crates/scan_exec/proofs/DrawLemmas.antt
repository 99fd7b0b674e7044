-- A list drawn from up to the first row that is given, and what was counted on the way.
use Rattle.std.proofs.Common.{◌≡◌, ◌+◌, ℕ, Bool, true, false, cond, List, ◌∷◌, length, filter, find, Some, refl, sym, ap, ◌∙◌, arith}
use Rattle.scan_exec.specs.Coming.{Coming, is_given, owed}
use Rattle.scan_exec.specs.work.Coming.{looks_allowed, behind}

-- from one list on to a later part of it, with no row given between; and the counters before and after
pub record IsOnward (old now : List Coming) (f g s t : ℕ) : Type 0 where
  pub first : find is_given now ≡ find is_given old
  pub rest : behind is_given now ≡ behind is_given old
  pub fetched : g + owed now ≡ f + owed old
  pub looked : t + looks_allowed now ≡ s + looks_allowed old

pub onward_here : (old : List Coming) (f s : ℕ) → IsOnward old old f f s s
onward_here old f s = record { first = refl; rest = refl; fetched = refl; looked = refl }

pub one_if : Bool → ℕ
one_if b = cond b 1 0

counted : (b : Bool) (x : Coming) (xs : List Coming) → length (cond b (x ∷ xs) xs) ≡ cond b 1 0 + length xs
counted true x xs = omega arith
counted false x xs = omega arith

module _ (old now : List Coming) (c : Coming) (f g s t : ℕ) (is : IsOnward old (c ∷ now) f g s t) where
  -- one row further, with what it counts
  pub fetched_on : g + (cond c.fetched 1 0 + owed now) ≡ f + owed old
  fetched_on = ap (λ (n : ℕ). g + n) (sym (counted c.fetched c (filter (λ (x : Coming). x.fetched) now))) ∙ is.fetched

  pub looked_on : t + (cond c.looked 1 0 + looks_allowed now) ≡ s + looks_allowed old
  looked_on = ap (λ (n : ℕ). t + n) (sym (counted c.looked c (filter (λ (x : Coming). x.looked) now))) ∙ is.looked

  -- a row that is not given
  pub onward_by : c.given ≡ false → (h u : ℕ) → h ≡ g + cond c.fetched 1 0 → u ≡ t + cond c.looked 1 0 → IsOnward old now f h s u
  onward_by out h u e d = record {
    first = ap (λ (b : Bool). cond b (Some c) (find is_given now)) (sym out) ∙ is.first;
    rest = ap (λ (b : Bool). cond b now (behind is_given now)) (sym out) ∙ is.rest;
    fetched = let on = fetched_on in omega (arith, on, e);
    looked = let on = looked_on in omega (arith, on, d);
  }

  -- a row that is given
  pub found_here : c.given ≡ true → find is_given old ≡ Some c
  found_here in_it = sym is.first ∙ ap (λ (b : Bool). cond b (Some c) (find is_given now)) in_it

  pub behind_here : c.given ≡ true → now ≡ behind is_given old
  behind_here in_it = sym (ap (λ (b : Bool). cond b now (behind is_given now)) in_it) ∙ is.rest
