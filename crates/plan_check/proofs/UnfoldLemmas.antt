-- The plans of entries: each is made of those before it, and stays where it was made.
use Rattle.std.proofs.Common.{◌≡◌, ◌<◌, ◌≤◌, ℕ, zero, suc, List, [], ◌∷◌, ◌++◌, length, refl, sym, ap, subst, ◌∙◌, arith}
use Rattle.std.specs.Prelude.{slice_get, Option, Some, None, option_and_then}
use Rattle.std.proofs.lemmas.List.{append_assoc, append-nil}
use Rattle.std.proofs.lemmas.Option.{slice_get_within, none-some, same_Some}
use Rattle.plan_tree.specs.sql_query_Queries.{Query, width}
use Rattle.plan_tree.specs.Plans.{Plan}
use Rattle.plan_check.specs.Certificates.{Entry, Certificate, plan_at, plan_of, unfolded, plans_of, unfold_at}

-- the plans before stay in front, and there is one more for each entry
pub record GoesOn (n : ℕ) (before : List (Option Plan)) (es : List Entry) : Type 0 where
  pub after : List (Option Plan)
  pub is : unfolded n before es ≡ before ++ after
  pub long : length after ≡ length es

more : (xs : List (Option Plan)) (x : Option Plan) (ys : List (Option Plan)) → (xs ++ x ∷ []) ++ ys ≡ xs ++ x ∷ ys
more xs x ys = append_assoc xs (x ∷ []) ys

pub goes-on : (n : ℕ) (before : List (Option Plan)) (es : List Entry) → GoesOn n before es
goes-on n before [] = record { after = []; is = sym (append-nil before); long = refl }
goes-on n before (e ∷ es) =
    let x = plan_of n before e in
    let r = goes-on n (before ++ x ∷ []) es in
    record { after = x ∷ r.after; is = r.is ∙ more before x r.after; long = ap suc r.long }

-- the entry at a place has the plan that is made of those before it
pub record IsMadeAt (n : ℕ) (before : List (Option Plan)) (es : List Entry) (k : ℕ) (e : Entry) : Type 0 where
  pub made : List (Option Plan)
  pub later : List (Option Plan)
  pub long : length made ≡ k
  pub is : unfolded n before es ≡ (before ++ made) ++ plan_of n (before ++ made) e ∷ later

first-made : (n : ℕ) (before : List (Option Plan)) (e : Entry) (es : List Entry) → IsMadeAt n before (e ∷ es) 0 e
first-made n before e es =
    let x = plan_of n before e in
    let r = goes-on n (before ++ x ∷ []) es in
    let same : before ++ [] ≡ before = append-nil before in
    record {
      made = [];
      later = r.after;
      long = refl;
      is = r.is ∙ (more before x r.after ∙ subst (λ b. before ++ x ∷ r.after ≡ b ++ plan_of n b e ∷ r.after) (sym same) refl);
    }

next-made : (n : ℕ) (before : List (Option Plan)) (e o : Entry) (es : List Entry) (k : ℕ) → IsMadeAt n (before ++ plan_of n before o ∷ []) es k e → IsMadeAt n before (o ∷ es) (suc k) e
next-made n before e o es k r =
    let x = plan_of n before o in
    record {
      made = x ∷ r.made;
      later = r.later;
      long = ap suc r.long;
      is = subst (λ b. unfolded n (before ++ x ∷ []) es ≡ b ++ plan_of n b e ∷ r.later) (more before x r.made) r.is;
    }

pub made-at : (n : ℕ) (before : List (Option Plan)) (es : List Entry) (k : ℕ) (e : Entry) → slice_get es k ≡ Some e → IsMadeAt n before es k e
made-at n before [] k e h = absurd (none-some e h)
made-at n before (o ∷ es) zero e h = subst (λ x. IsMadeAt n before (o ∷ es) 0 x) (same_Some o e h) (first-made n before o es)
made-at n before (o ∷ es) (suc k) e h = next-made n before e o es k (made-at n (before ++ plan_of n before o ∷ []) es k e h)

-- what stands at a place of a split list
pub at-split : (xs : List (Option Plan)) (x : Option Plan) (ys : List (Option Plan)) → slice_get (xs ++ x ∷ ys) (length xs) ≡ Some x
at-split [] x ys = refl
at-split (z ∷ xs) x ys = at-split xs x ys

in-front : (xs ys : List (Option Plan)) (k : ℕ) (x : Option Plan) → slice_get xs k ≡ Some x → slice_get (xs ++ ys) k ≡ Some x
in-front [] ys k x h = absurd (none-some x h)
in-front (z ∷ xs) ys zero x h = h
in-front (z ∷ xs) ys (suc k) x h = in-front xs ys k x h

from-front : (xs ys : List (Option Plan)) (k : ℕ) → k < length xs → slice_get (xs ++ ys) k ≡ slice_get xs k
from-front [] ys k h = absurd (omega (arith, h))
from-front (z ∷ xs) ys zero h = refl
from-front (z ∷ xs) ys (suc k) h = from-front xs ys k (omega (arith, h))

-- a plan of a number stays the plan of that number where more follow
pub kept-at : (xs ys : List (Option Plan)) (m : ℕ) (p : Plan) → plan_at xs m ≡ Some p → plan_at (xs ++ ys) m ≡ Some p
kept-at xs ys zero p h = absurd (none-some p h)
kept-at xs ys (suc k) p h = kept-by xs ys k p (slice_get xs k) refl h where
  kept-by : (xs ys : List (Option Plan)) (k : ℕ) (p : Plan) (o : Option (Option Plan)) → slice_get xs k ≡ o → option_and_then (λ x. x) o ≡ Some p → plan_at (xs ++ ys) (suc k) ≡ Some p
  kept-by xs ys k p None e h = absurd (none-some p h)
  kept-by xs ys k p (Some x) e h = ap (option_and_then (λ x. x)) (in-front xs ys k x e) ∙ h

-- where more follow, the plan of a number of one of the first is the plan of that number without them
pub at-lower : (xs ys : List (Option Plan)) (m : ℕ) → m ≤ length xs → plan_at (xs ++ ys) m ≡ plan_at xs m
at-lower xs ys zero h = refl
at-lower xs ys (suc k) h = ap (option_and_then (λ x. x)) (from-front xs ys k (omega (arith, h)))

-- a number that has a plan is that of an entry
pub record IsNumbered (q : Query) (t : Certificate) (m : ℕ) (p : Plan) : Type 0 where
  pub place : ℕ
  pub number : m ≡ suc place
  pub entry : Entry
  pub stands : slice_get t.entries place ≡ Some entry

long : (q : Query) (t : Certificate) → length (plans_of q t) ≡ length t.entries
long q t = let r = goes-on (width q) [] t.entries in ap length r.is ∙ r.long

within : (q : Query) (t : Certificate) (k : ℕ) (p : Plan) (o : Option (Option Plan)) → slice_get (plans_of q t) k ≡ o → option_and_then (λ x. x) o ≡ Some p → k < length (plans_of q t)
within q t k p None e h = absurd (none-some p h)
within q t k p (Some x) e h = slice_get_within (plans_of q t) k x e

pub entry-at : (es : List Entry) (k : ℕ) → k < length es → (e : Entry) × (slice_get es k ≡ Some e)
entry-at [] k h = absurd (omega (arith, h))
entry-at (e ∷ es) zero h = (e, refl)
entry-at (e ∷ es) (suc k) h = entry-at es k (omega (arith, h))

pub numbered : (q : Query) (t : Certificate) (m : ℕ) (p : Plan) → unfold_at q t m ≡ Some p → IsNumbered q t m p
numbered q t zero p h = absurd (none-some p h)
numbered q t (suc k) p h =
    let r = entry-at t.entries k (subst (λ n. k < n) (long q t) (within q t k p (slice_get (plans_of q t) k) refl h)) in
    record { place = k; number = refl; entry = r.0; stands = r.1 }
