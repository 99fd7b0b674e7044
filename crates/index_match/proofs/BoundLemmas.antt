-- Bounds by the places of the conditions, and numbers in parts of a numbered list.
use Rattle.std.proofs.Common.{◌≡◌, ◌<◌, ◌≤◌, ◌+◌, ℕ, zero, suc, Bool, true, false, cond, ◌&&◌, ◌||◌, nat_eq, nat_lt, List, [], ◌∷◌, length, filter, find, Option, Some, None, inl, inr, option_map, slice_index_or, refl, sym, ap, ap₂, ◌∙◌, arith}
use Rattle.std.specs.List.{list_any, position_from}
use Rattle.std.proofs.lemmas.Bool.{or_cases, true≢false, eq-eqb, eqb-true, ne_eqb, lt-ltb, ltb-true, cases_lt, or_right, le-ltb}
use Rattle.std.proofs.Math.Bool.{or-false}
use Rattle.catalog.specs.opfamily_classes_IndexKey.{IndexKey}
use Rattle.catalog.specs.opfamily_classes_Method.{Method}
use Rattle.pg_expr.specs.Cond.{Cond}
use Rattle.catalog.specs.Indexes.{Index}
use Rattle.index_match.specs.Numbered.{Numbered, has_number}
use Rattle.index_match.specs.Conditions.{has_key_form}
use Rattle.index_match.specs.Bounds.{is_fixing, on_key, bounding, bounds_among}
use Rattle.index_match.specs.work.Slots.{numbered_at, numbered_from, passes, is_on_key, is_fixing_on, bound_at}
use Rattle.pg_base.proofs.BoolLemmas.{either as or_step}

and_true : (a b : Bool) → (a && true) || b ≡ a || b
and_true true b = refl
and_true false b = refl

and_false : (a b : Bool) → (a && false) || b ≡ b
and_false true b = refl
and_false false b = refl

less_suc : (i n : ℕ) → nat_lt (suc i) (suc n) ≡ nat_lt i n
less_suc i n = by (nat_lt i n) refl
  where
    by : (b : Bool) → nat_lt i n ≡ b → nat_lt (suc i) (suc n) ≡ b
    by true e = let lt = ltb-true i n e in lt-ltb (suc i) (suc n) (omega (arith, lt))
    by false e = le-ltb (suc i) (suc n) (omega (arith, at_least))
      where
        at_least : n ≤ i
        at_least = elim (cases_lt i n) [ inl lt ↦ absurd (true≢false (sym (lt-ltb i n lt) ∙ e)) | inr ge ↦ ge ]

-- a number is that of a condition that passes a test
abbrev slot_at : (Cond → Bool) → ℕ → List (Option Cond) → ℕ → Bool
slot_at test n [] j = false
slot_at test n (s ∷ ss) j = (nat_eq j n && passes test s) || slot_at test (n + 1) ss j

filtered_at : (test : Cond → Bool) (n : ℕ) (ss : List (Option Cond)) (j : ℕ) → has_number (filter (λ (c : Numbered). test c.cond) (numbered_from n ss)) j ≡ slot_at test n ss j
filtered_at test n [] j = refl
filtered_at test n (None ∷ ss) j = filtered_at test (n + 1) ss j ∙ sym (and_false (nat_eq j n) (slot_at test (n + 1) ss j))
filtered_at test n (Some e ∷ ss) j = by (filtered_at test (n + 1) ss j) (test e)
  where
    by : has_number (filter (λ (c : Numbered). test c.cond) (numbered_from (n + 1) ss)) j ≡ slot_at test (n + 1) ss j → (b : Bool)
        → has_number (cond b (numbered_at n e ∷ filter (λ (c : Numbered). test c.cond) (numbered_from (n + 1) ss)) (filter (λ (c : Numbered). test c.cond) (numbered_from (n + 1) ss))) j ≡ (nat_eq j n && b) || slot_at test (n + 1) ss j
    by h true = ap (λ (x : Bool). nat_eq j n || x) h ∙ sym (and_true (nat_eq j n) (slot_at test (n + 1) ss j))
    by h false = h ∙ sym (and_false (nat_eq j n) (slot_at test (n + 1) ss j))

slot_below : (test : Cond → Bool) (n : ℕ) (ss : List (Option Cond)) (j : ℕ) → j < n → slot_at test n ss j ≡ false
slot_below test n [] j lt = refl
slot_below test n (s ∷ ss) j lt =
    ap₂ (λ (a b : Bool). (a && passes test s) || b) (ne_eqb j n (λ same. omega (arith, lt, same))) (slot_below test (n + 1) ss j (omega (arith, lt)))

slot_there : (test : Cond → Bool) (n : ℕ) (ss : List (Option Cond)) (i : ℕ) → slot_at test n ss (n + i) ≡ nat_lt i (length ss) && passes test (slice_index_or ss i None)
slot_there test n [] i = sym (ap (λ (b : Bool). b && passes test (slice_index_or [] i None)) (le-ltb i 0 (omega arith)))
slot_there test n (s ∷ ss) zero =
    ap₂ (λ (a b : Bool). (a && passes test s) || b) (eq-eqb (n + 0) n (omega arith)) (slot_below test (n + 1) ss (n + 0) (omega arith))
    ∙ or-false (passes test s)
    ∙ sym (ap (λ (b : Bool). b && passes test s) (lt-ltb 0 (suc (length ss)) (omega arith)))
slot_there test n (s ∷ ss) (suc i) =
    let next : n + suc i ≡ n + 1 + i = omega arith in
    ap₂ (λ (a b : Bool). (a && passes test s) || b) (ne_eqb (n + suc i) n (λ same. omega (arith, same))) (ap (slot_at test (n + 1) ss) next ∙ slot_there test (n + 1) ss i)
    ∙ sym (ap (λ (b : Bool). b && passes test (slice_index_or ss i None)) (less_suc i (length ss)))

-- the numbers of the conditions that pass a test are the places of these
pub placed_at : (test : Cond → Bool) (ss : List (Option Cond)) (j : ℕ) → has_number (filter (λ (c : Numbered). test c.cond) (numbered_from 0 ss)) j ≡ nat_lt j (length ss) && passes test (slice_index_or ss j None)
placed_at test ss j =
    let at : j ≡ 0 + j = omega arith in
    filtered_at test 0 ss j ∙ ap (slot_at test 0 ss) at ∙ slot_there test 0 ss j

filter_all : {A : Type 0} (xs : List A) → filter (λ x. true) xs ≡ xs
filter_all [] = refl
filter_all {A} (x ∷ xs) = ap (λ (ys : List A). x ∷ ys) (filter_all xs)

pub numbered_places : (ss : List (Option Cond)) (j : ℕ) → has_number (numbered_from 0 ss) j ≡ nat_lt j (length ss) && passes (λ e. true) (slice_index_or ss j None)
numbered_places ss j = ap (λ (cs : List Numbered). has_number cs j) (sym (filter_all (numbered_from 0 ss))) ∙ placed_at (λ e. true) ss j

-- the first of them
first_at : (p q : Cond → Bool) (n : ℕ) (ss : List (Option Cond)) →
    option_map (λ (c : Numbered). c.number) (find (λ (c : Numbered). p c.cond) (filter (λ (c : Numbered). q c.cond) (numbered_from n ss))) ≡ position_from (passes (λ e. q e && p e)) n ss
first_at p q n [] = refl
first_at p q n (None ∷ ss) = first_at p q (n + 1) ss
first_at p q n (Some e ∷ ss) = by (first_at p q (n + 1) ss) (q e) (p e) refl
  where
    by : option_map (λ (c : Numbered). c.number) (find (λ (c : Numbered). p c.cond) (filter (λ (c : Numbered). q c.cond) (numbered_from (n + 1) ss))) ≡ position_from (passes (λ f. q f && p f)) (n + 1) ss → (a b : Bool) → p e ≡ b
        → option_map (λ (c : Numbered). c.number) (find (λ (c : Numbered). p c.cond) (cond a (numbered_at n e ∷ filter (λ (c : Numbered). q c.cond) (numbered_from (n + 1) ss)) (filter (λ (c : Numbered). q c.cond) (numbered_from (n + 1) ss)))) ≡ cond (a && b) (Some n) (position_from (passes (λ f. q f && p f)) (n + 1) ss)
    by h false b is = h
    by h true true is = ap (λ (x : Bool). option_map (λ (c : Numbered). c.number) (cond x (Some (numbered_at n e)) (find (λ (c : Numbered). p c.cond) (filter (λ (c : Numbered). q c.cond) (numbered_from (n + 1) ss))))) is
    by h true false is = ap (λ (x : Bool). option_map (λ (c : Numbered). c.number) (cond x (Some (numbered_at n e)) (find (λ (c : Numbered). p c.cond) (filter (λ (c : Numbered). q c.cond) (numbered_from (n + 1) ss))))) is ∙ h

module _ (m : Method) (r : ℕ) where
  bounding_at : (ks : List IndexKey) (ss : List (Option Cond)) (j : ℕ) → has_number (bounding m r ks (numbered_from 0 ss)) j ≡ bound_at m r ks ss j
  bounding_at [] ss j = refl
  bounding_at (k ∷ ks) ss j =
      by (bounding_at ks ss j) (find (λ (c : Numbered). is_fixing c.cond) (on_key m r k (numbered_from 0 ss))) (position_from (is_fixing_on m r k) 0 ss) (first_at is_fixing (has_key_form m r k) 0 ss)
    where
      by : has_number (bounding m r ks (numbered_from 0 ss)) j ≡ bound_at m r ks ss j → (o : Option Numbered) (p : Option ℕ) → option_map (λ (c : Numbered). c.number) o ≡ p
          → has_number (elim o [ None ↦ on_key m r k (numbered_from 0 ss) | Some c ↦ c ∷ bounding m r ks (numbered_from 0 ss) ]) j
          ≡ elim p [ None ↦ nat_lt j (length ss) && is_on_key m r k (slice_index_or ss j None) | Some n ↦ nat_eq j n || bound_at m r ks ss j ]
      by later None None e = placed_at (has_key_form m r k) ss j
      by later (Some c) (Some n) e = let same : c.number ≡ n = cc in ap₂ (λ (x : ℕ) (b : Bool). nat_eq j x || b) same later
      by later None (Some n) e = cc
      by later (Some c) None e = cc

pub any_filter : {A : Type 0} (p q : A → Bool) (xs : List A) → list_any p (filter q xs) ≡ true → list_any p xs ≡ true
any_filter p q [] h = h
any_filter {A} p q (x ∷ xs) h = by (any_filter p q xs) (q x) h
  where
    by : (list_any p (filter q xs) ≡ true → list_any p xs ≡ true) → (a : Bool) → list_any p (cond a (x ∷ filter q xs) (filter q xs)) ≡ true → p x || list_any p xs ≡ true
    by later true h = or_step (p x) (list_any p (filter q xs)) (list_any p xs) later h
    by later false h = or_right (p x) (list_any p xs) (later h)

found_any : {A : Type 0} (p t : A → Bool) (xs : List A) (x : A) → find p xs ≡ Some x → t x ≡ true → list_any t xs ≡ true
found_any p t [] x e h = cc
found_any {A} p t (y ∷ ys) x e h = by (λ f. found_any p t ys x f h) (p y) e
  where
    by : (find p ys ≡ Some x → list_any t ys ≡ true) → (a : Bool) → cond a (Some y) (find p ys) ≡ Some x → t y || list_any t ys ≡ true
    by later true f = let same : y ≡ x = cc in ap (λ (b : Bool). b || list_any t ys) (ap t same ∙ h)
    by later false f = or_right (t y) (list_any t ys) (later f)

-- bounds are among the conditions
bounds_among_them : (m : Method) (r : ℕ) (ks : List IndexKey) (cs : List Numbered) (j : ℕ) → has_number (bounding m r ks cs) j ≡ true → has_number cs j ≡ true
bounds_among_them m r [] cs j h = absurd (true≢false (sym h))
bounds_among_them m r (k ∷ ks) cs j h = by (bounds_among_them m r ks cs j) (find (λ (c : Numbered). is_fixing c.cond) (on_key m r k cs)) refl h
  where
    by : (has_number (bounding m r ks cs) j ≡ true → has_number cs j ≡ true) → (o : Option Numbered) → find (λ (c : Numbered). is_fixing c.cond) (on_key m r k cs) ≡ o
        → has_number (elim o [ None ↦ on_key m r k cs | Some c ↦ c ∷ bounding m r ks cs ]) j ≡ true → has_number cs j ≡ true
    by later None e h = any_filter (λ (c : Numbered). nat_eq j c.number) (λ (c : Numbered). has_key_form m r k c.cond) cs h
    by later (Some c) e h = elim (or_cases (nat_eq j c.number) (has_number (bounding m r ks cs) j) h) [
      | inl here ↦ any_filter (λ (d : Numbered). nat_eq j d.number) (λ (d : Numbered). has_key_form m r k d.cond) cs
          (found_any (λ (d : Numbered). is_fixing d.cond) (λ (d : Numbered). nat_eq j d.number) (on_key m r k cs) c e here)
      | inr there ↦ later there
    ]

-- the numbers of those of a list whose numbers pass a test
pub number_filter : (q : ℕ → Bool) (cs : List Numbered) (j : ℕ) → has_number (filter (λ (c : Numbered). q c.number) cs) j ≡ has_number cs j && q j
number_filter q [] j = refl
number_filter q (c ∷ cs) j = by (number_filter q cs j) (q c.number) refl (nat_eq j c.number) refl
  where
    by : has_number (filter (λ (d : Numbered). q d.number) cs) j ≡ has_number cs j && q j → (a : Bool) → q c.number ≡ a → (b : Bool) → nat_eq j c.number ≡ b
        → has_number (cond a (c ∷ filter (λ (d : Numbered). q d.number) cs) (filter (λ (d : Numbered). q d.number) cs)) j ≡ (b || has_number cs j) && q j
    by later true qa true e = ap (λ (b : Bool). b || has_number (filter (λ (d : Numbered). q d.number) cs) j) e ∙ sym (ap q (eqb-true j c.number e) ∙ qa)
    by later true qa false e = ap (λ (b : Bool). b || has_number (filter (λ (d : Numbered). q d.number) cs) j) e ∙ later
    by later false qa true e = later ∙ ap (λ (b : Bool). has_number cs j && b) (ap q (eqb-true j c.number e) ∙ qa) ∙ and_no (has_number cs j) ∙ sym (ap q (eqb-true j c.number e) ∙ qa)
      where
        and_no : (b : Bool) → b && false ≡ false
        and_no true = refl
        and_no false = refl
    by later false qa false e = later

and_among : (a b : Bool) → (b ≡ true → a ≡ true) → a && b ≡ b
and_among true b h = refl
and_among false true h = absurd (true≢false (sym (h refl)))
and_among false false h = refl

-- a number is that of a bound exactly where its place has one
pub bounds_are : (d : Index) (r : ℕ) (ss : List (Option Cond)) (j : ℕ) → has_number (bounds_among d r (numbered_from 0 ss)) j ≡ bound_at d.method r d.keys ss j
bounds_are d r ss j =
    let cs = numbered_from 0 ss in
    let bs = bounding d.method r d.keys (numbered_from 0 ss) in
    number_filter (has_number bs) cs j ∙ and_among (has_number cs j) (has_number bs j) (bounds_among_them d.method r d.keys cs j) ∙ bounding_at d.method r d.keys ss j

-- the number of a bound is below the number of places
pub bounds_below : (d : Index) (r : ℕ) (ss : List (Option Cond)) (j : ℕ) → nat_lt j (length ss) && bound_at d.method r d.keys ss j ≡ bound_at d.method r d.keys ss j
bounds_below d r ss j = and_among (nat_lt j (length ss)) (bound_at d.method r d.keys ss j) (λ h.
    by (nat_lt j (length ss)) (passes (λ e. true) (slice_index_or ss j None))
    (sym (numbered_places ss j) ∙ bounds_among_them d.method r d.keys (numbered_from 0 ss) j (bounding_at d.method r d.keys ss j ∙ h)))
  where
    by : (a b : Bool) → a && b ≡ true → a ≡ true
    by true b e = refl
    by false b e = e
