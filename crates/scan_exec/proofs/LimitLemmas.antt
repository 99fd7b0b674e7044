-- The conditions that bound a part of an index: by the conditions alone, and as those of a list that are among them.
use Rattle.std.proofs.Common.{◌≡◌, ◌+◌, ℕ, suc, Bool, true, nat_eq, List, [], ◌∷◌, filter, find, map, Option, Some, None, refl, sym, ap, ap₂, ◌∙◌, subst, arith, inl, inr}
use Rattle.std.specs.List.{enumerate_from, list_all}
use Rattle.std.specs.Prelude.{option_map, slice_index_or}
use Rattle.std.proofs.lemmas.Bool.{and_parts, and_from, eq-eqb, eqb-true}
use Rattle.opfamily.specs.declared.classes.IndexKey.{IndexKey}
use Rattle.opfamily.specs.declared.classes.Method.{Method}
use Rattle.pg_expr.specs.Cond.{Cond}
use Rattle.eq_classes.proofs.ClasswiseLemmas.{same_truth}
use Rattle.eq_classes.proofs.HoldLemmas.{in_map}
use Rattle.eq_classes.proofs.ListLemmas.{IsIn, any_at, any_from, filter_in, found_in, in_filter}
use Rattle.catalog.specs.Indexes.{Index}
use Rattle.index_match.specs.Bounds.{bounding, bounds_among, is_fixing, on_key}
use Rattle.index_match.specs.Conditions.{has_key_form}
use Rattle.index_match.specs.Numbered.{Numbered, conditions_of, is_one_of_chosen, numbered, numbered_from_0}
use Rattle.scan_probes.proofs.BoundsLemmas.{filter_of, find_of, in_conditions}
use Rattle.scan_exec.specs.work.Scene.{limits}

-- bounds by the conditions alone
abbrev going : Option Cond → List Cond → List Cond → List Cond
going None here behind = here
going (Some e) here behind = e ∷ behind

abbrev plain : Method → ℕ → List IndexKey → List Cond → List Cond
plain m r [] es = []
plain m r (k ∷ ks) es = going (find is_fixing (filter (has_key_form m r k) es)) (filter (has_key_form m r k) es) (plain m r ks es)

plain_are : (m : Method) (r : ℕ) (ks : List IndexKey) (cs : List Numbered) → conditions_of (bounding m r ks cs) ≡ plain m r ks (conditions_of cs)
plain_are m r [] cs = refl
plain_are m r (k ∷ ks) cs =
    by (plain_are m r ks cs) (find (λ (c : Numbered). is_fixing c.cond) (on_key m r k cs))
    ∙ ap₂ (λ (o : Option Cond) (l : List Cond). going o l (plain m r ks (conditions_of cs)))
    (sym (find_of is_fixing (on_key m r k cs)) ∙ ap (find is_fixing) (sym (filter_of (has_key_form m r k) cs))) (sym (filter_of (has_key_form m r k) cs))
  where
    by : conditions_of (bounding m r ks cs) ≡ plain m r ks (conditions_of cs) → (o : Option Numbered) →
        conditions_of (elim o [ None ↦ on_key m r k cs | Some c ↦ c ∷ bounding m r ks cs ]) ≡ going (option_map (λ (c : Numbered). c.cond) o) (conditions_of (on_key m r k cs)) (plain m r ks (conditions_of cs))
    by later None = refl
    by later (Some c) = ap (λ (l : List Cond). c.cond ∷ l) later

-- conditions numbered from 0 are these
pub numbered_are : (n : ℕ) (es : List Cond) → conditions_of (map numbered (enumerate_from n es)) ≡ es
numbered_are n [] = refl
numbered_are n (e ∷ es) = ap (λ (l : List Cond). e ∷ l) (numbered_are (n + 1) es)

-- a bound is one of the conditions
pub in_bounding : (m : Method) (r : ℕ) (ks : List IndexKey) (cs : List Numbered) (x : Numbered) → IsIn x (bounding m r ks cs) → IsIn x cs
in_bounding m r [] cs x i = absurd i
in_bounding m r (k ∷ ks) cs x i = by (in_bounding m r ks cs x) (find (λ (c : Numbered). is_fixing c.cond) (on_key m r k cs)) refl i
  where
    by : (IsIn x (bounding m r ks cs) → IsIn x cs) → (o : Option Numbered) → find (λ (c : Numbered). is_fixing c.cond) (on_key m r k cs) ≡ o
        → IsIn x (elim o [ None ↦ on_key m r k cs | Some c ↦ c ∷ bounding m r ks cs ]) → IsIn x cs
    by later None e j = (in_filter (λ (c : Numbered). has_key_form m r k c.cond) cs x j).0
    by later (Some c) e (inl same) = (in_filter (λ (c : Numbered). has_key_form m r k c.cond) cs x (subst (λ (y : Numbered). IsIn y (on_key m r k cs)) (sym same) (found_in (λ (c : Numbered). is_fixing c.cond) (on_key m r k cs) c e))).0
    by later (Some c) e (inr j) = later j

pub in_limits : (d : Index) (r : ℕ) (es : List Cond) (e : Cond) → IsIn e (limits d r es) → IsIn e es
in_limits d r es e i =
    let x = in_map (λ (c : Numbered). c.cond) (bounding d.method r d.keys (numbered_from_0 es)) e i in
    subst (IsIn e) (numbered_are 0 es) (subst (λ (f : Cond). IsIn f (conditions_of (numbered_from_0 es))) (sym x.2) (in_conditions (numbered_from_0 es) x.0 (in_bounding d.method r d.keys (numbered_from_0 es) x.0 x.1)))

-- each condition is that of its number
abbrev pub AreByNumber : (ℕ → Cond) → List Numbered → Type 0
AreByNumber by cs = (x : Numbered) → IsIn x cs → x.cond ≡ by x.number

all_in : (test : Cond → Bool) (cs : List Numbered) → list_all test (conditions_of cs) ≡ true → (x : Numbered) → IsIn x cs → test x.cond ≡ true
all_in test [] h x i = absurd i
all_in test (c ∷ cs) h x (inl same) = ap (λ (y : Numbered). test y.cond) same ∙ (and_parts (test c.cond) (list_all test (conditions_of cs)) h).0
all_in test (c ∷ cs) h x (inr i) = all_in test cs (and_parts (test c.cond) (list_all test (conditions_of cs)) h).1 x i

all_of : (test : Cond → Bool) (cs : List Numbered) → ((x : Numbered) → IsIn x cs → test x.cond ≡ true) → list_all test (conditions_of cs) ≡ true
all_of test [] h = refl
all_of test (c ∷ cs) h = and_from _ _ (h c (inl refl)) (all_of test cs (λ x i. h x (inr i)))

-- a test that all bounds pass, as those of the list among them
among_same : (test : Cond → Bool) (by : ℕ → Cond) (chosen cs : List Numbered) → ((x : Numbered) → IsIn x chosen → IsIn x cs) → AreByNumber by cs →
    list_all test (conditions_of chosen) ≡ list_all test (conditions_of (filter (is_one_of_chosen chosen) cs))
among_same test by chosen cs within numbers = same_truth _ _
    (λ h. all_of test (filter (is_one_of_chosen chosen) cs) (λ x i.
    let in_it = in_filter (is_one_of_chosen chosen) cs x i in
    let w = any_at (λ (c : Numbered). nat_eq x.number c.number) chosen in_it.1 in
    ap test (numbers x in_it.0 ∙ ap by (eqb-true x.number (w.0).number w.2) ∙ sym (numbers w.0 (within w.0 w.1))) ∙ all_in test chosen h w.0 w.1))
    (λ h. all_of test chosen (λ x i.
    all_in test (filter (is_one_of_chosen chosen) cs) h x
    (filter_in (is_one_of_chosen chosen) cs x (within x i) (any_from (λ (c : Numbered). nat_eq x.number c.number) chosen x i (eq-eqb x.number x.number refl)))))

pub limits_are : (test : Cond → Bool) (by : ℕ → Cond) (d : Index) (r : ℕ) (cs : List Numbered) → AreByNumber by cs →
    list_all test (limits d r (conditions_of cs)) ≡ list_all test (conditions_of (bounds_among d r cs))
limits_are test by d r cs numbers =
    ap (list_all test) (plain_are d.method r d.keys (numbered_from_0 (conditions_of cs)) ∙ ap (plain d.method r d.keys) (numbered_are 0 (conditions_of cs)) ∙ sym (plain_are d.method r d.keys cs))
    ∙ among_same test by (bounding d.method r d.keys cs) cs (in_bounding d.method r d.keys cs) numbers

-- of a list by places
at_place : {X : Type 0} (n : ℕ) (xs : List X) (d : X) (x : ℕ × X) → IsIn x (enumerate_from n xs) → (j : ℕ) × (x.0 ≡ n + j) × (slice_index_or xs j d ≡ x.1)
at_place {X = X} n [] d x i = absurd i
at_place {X = X} n (y ∷ ys) d x (inl same) = (0, ap (λ (p : ℕ × X). p.0) same ∙ (let z : n ≡ n + 0 = omega arith in z), sym (ap (λ (p : ℕ × X). p.1) same))
at_place {X = X} n (y ∷ ys) d x (inr i) =
    let w = at_place (n + 1) ys d x i in
    let e = w.1 in
    (suc w.0, omega (arith, e), w.2)

pub places_number : {X : Type 0} (f : X → Cond) (xs : List X) (d : X) (x : ℕ × X) → IsIn x (enumerate_from 0 xs) → f x.1 ≡ f (slice_index_or xs x.0 d)
places_number f xs d x i =
    let w = at_place 0 xs d x i in
    let e = w.1 in
    let same : w.0 ≡ x.0 = omega (arith, e) in
    ap f (sym w.2) ∙ ap (λ (k : ℕ). f (slice_index_or xs k d)) same
