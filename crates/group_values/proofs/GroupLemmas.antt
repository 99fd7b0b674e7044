-- One more tuple: it joins the group that it is alike, or begins a new one behind the others.
use Rattle.std.proofs.Common.{◌≡◌, ℕ, zero, suc, ◌<◌, Bool, true, false, not, cond, List, [], ◌∷◌, ◌++◌, length, map, get_or, set, refl, sym, ap, ap₂, ◌∙◌, ◌||◌, append-nil, arith}
use Rattle.std.specs.Prelude.{filter}
use Rattle.std.specs.Cmp.{IsEquivalence}
use Rattle.std.specs.List.{AllByRecursion, list_any}
use Rattle.std.proofs.lemmas.Bool.{false≢true, true≢false, not-true}
use Rattle.std.proofs.lemmas.Cmp.{eq_by_cmp_equiv}
use Rattle.std.proofs.lemmas.List.Elements.{filter-append}
use Rattle.pg_value.specs.declared.value.Value.{Value}
use Rattle.pg_value.proofs.KindLemmas.{kind_total}
use Rattle.group_values.specs.Groups.{Seen, alike, firsts, keys_of_group, same_keys, same_value}
use Rattle.group_values.proofs.OrderLemmas.{both-true}

pub same_equiv : IsEquivalence same_value
same_equiv = eq_by_cmp_equiv kind_total

-- key lists that are the same
keys-refl : (ks : List Value) → same_keys ks ks ≡ true
keys-refl [] = refl
keys-refl (k ∷ ks) = ap (λ b. cond b (same_keys ks ks) false) (same_equiv.refl k) ∙ keys-refl ks

keys-symm : (ks ls : List Value) → same_keys ks ls ≡ same_keys ls ks
keys-symm [] [] = refl
keys-symm [] (l ∷ ls) = refl
keys-symm (k ∷ ks) [] = refl
keys-symm (k ∷ ks) (l ∷ ls) = ap₂ (λ a b. cond a b false) (same_equiv.symm k l) (keys-symm ks ls)

keys-congr : (ks ls ms : List Value) → same_keys ks ls ≡ true → same_keys ks ms ≡ same_keys ls ms
keys-congr [] [] ms e = refl
keys-congr [] (l ∷ ls) ms e = absurd (false≢true e)
keys-congr (k ∷ ks) [] ms e = absurd (false≢true e)
keys-congr (k ∷ ks) (l ∷ ls) [] e = refl
keys-congr (k ∷ ks) (l ∷ ls) (m ∷ ms) e =
    let h = both-true (same_value k l) (same_keys ks ls) e in
    ap₂ (λ a b. cond a b false) (same_equiv.congr k l m h.0) (keys-congr ks ls ms h.1)

pub alike_equiv : IsEquivalence alike
alike_equiv = record { refl = λ s. keys-refl s.keys; symm = λ s t. keys-symm s.keys t.keys; congr = λ s t u e. keys-congr s.keys t.keys u.keys e }

abbrev pub is_alike_one : List Seen → Seen → Bool
is_alike_one ss s = list_any (λ t. alike t s) ss

-- the first of each group, with one more tuple
pub firsts-more : (ss : List Seen) (s : Seen) → firsts (ss ++ s ∷ []) ≡ cond (is_alike_one ss s) (firsts ss) (firsts ss ++ s ∷ [])
firsts-more [] s = refl
firsts-more (t ∷ ts) s =
    ap (λ us. t ∷ filter (λ u. not (alike t u)) us) (firsts-more ts s)
    ∙ by (is_alike_one ts s) (alike t s) refl refl
  where
    kept : (b : Bool) → alike t s ≡ b → filter (λ u. not (alike t u)) (firsts ts ++ s ∷ []) ≡ filter (λ u. not (alike t u)) (firsts ts) ++ cond (not b) (s ∷ []) []
    kept b e = filter-append (λ u. not (alike t u)) (firsts ts) (s ∷ []) ∙ ap (λ c. filter (λ u. not (alike t u)) (firsts ts) ++ cond (not c) (s ∷ []) []) e

    by : (a b : Bool) → is_alike_one ts s ≡ a → alike t s ≡ b → t ∷ filter (λ u. not (alike t u)) (cond a (firsts ts) (firsts ts ++ s ∷ [])) ≡ cond (is_alike_one (t ∷ ts) s) (firsts (t ∷ ts)) (firsts (t ∷ ts) ++ s ∷ [])
    by true true e f = sym (ap (λ c. cond c (firsts (t ∷ ts)) (firsts (t ∷ ts) ++ s ∷ [])) (ap (λ b. b || is_alike_one ts s) f))
    by true false e f = sym (ap (λ c. cond c (firsts (t ∷ ts)) (firsts (t ∷ ts) ++ s ∷ [])) (ap₂ (λ b c. b || c) f e))
    by false true e f = ap (λ us. t ∷ us) (kept true f ∙ append-nil (filter (λ u. not (alike t u)) (firsts ts))) ∙ sym (ap (λ c. cond c (firsts (t ∷ ts)) (firsts (t ∷ ts) ++ s ∷ [])) (ap (λ b. b || is_alike_one ts s) f))
    by false false e f = ap (λ us. t ∷ us) (kept false f) ∙ sym (ap (λ c. cond c (firsts (t ∷ ts)) (firsts (t ∷ ts) ++ s ∷ [])) (ap₂ (λ b c. b || c) f e))

-- the members of a group, with one more tuple
pub group-more : (f : Seen) (ss : List Seen) (s : Seen) (b : Bool) → alike f s ≡ b → filter (alike f) (ss ++ s ∷ []) ≡ filter (alike f) ss ++ cond b (s ∷ []) []
group-more f ss s b e = filter-append (alike f) ss (s ∷ []) ∙ ap (λ c. filter (alike f) ss ++ cond c (s ∷ []) []) e

group-same : (f : Seen) (ss : List Seen) (s : Seen) → alike f s ≡ false → filter (alike f) (ss ++ s ∷ []) ≡ filter (alike f) ss
group-same f ss s e = group-more f ss s false e ∙ append-nil (filter (alike f) ss)

-- a tuple that is alike one of two that are not alike is not alike the other
other-not : (f g s : Seen) → alike f g ≡ false → alike g s ≡ true → alike f s ≡ false
other-not f g s e h = alike_equiv.symm f s ∙ sym (alike_equiv.congr g s f h) ∙ alike_equiv.symm g f ∙ e

-- no two are alike
abbrev pub AreUnlike : List Seen → Type 0
AreUnlike [] = Unit {0}
AreUnlike (f ∷ fs) = AllByRecursion (λ g. alike f g ≡ false) fs × AreUnlike fs

all-kept : (P : Seen → Type 0) (test : Seen → Bool) (fs : List Seen) → AllByRecursion P fs → AllByRecursion (λ f. P f × (test f ≡ true)) (filter test fs)
all-kept P test [] all = tt
all-kept P test (f ∷ fs) all = by (test f) refl (all-kept P test fs all.1)
  where
    by : (b : Bool) → test f ≡ b → AllByRecursion (λ f. P f × (test f ≡ true)) (filter test fs) → AllByRecursion (λ f. P f × (test f ≡ true)) (cond b (f ∷ filter test fs) (filter test fs))
    by true e more = ((all.0, e), more)
    by false e more = more

all-weaker : (P Q : Seen → Type 0) (fs : List Seen) → ((f : Seen) → P f → Q f) → AllByRecursion P fs → AllByRecursion Q fs
all-weaker P Q [] h all = tt
all-weaker P Q (f ∷ fs) h all = (h f all.0, all-weaker P Q fs h all.1)

unlike-kept : (test : Seen → Bool) (fs : List Seen) → AreUnlike fs → AreUnlike (filter test fs)
unlike-kept test [] u = tt
unlike-kept test (f ∷ fs) u = by (test f) (unlike-kept test fs u.1)
  where
    by : (b : Bool) → AreUnlike (filter test fs) → AreUnlike (cond b (f ∷ filter test fs) (filter test fs))
    by true more = (all-weaker (λ g. (alike f g ≡ false) × (test g ≡ true)) (λ g. alike f g ≡ false) (filter test fs) (λ g h. h.0) (all-kept (λ g. alike f g ≡ false) test fs u.0), more)
    by false more = more

abbrev all-unit : (fs : List Seen) → AllByRecursion (λ f. Unit {0}) fs
all-unit [] = tt
all-unit (f ∷ fs) = (tt, all-unit fs)

pub firsts-unlike : (ss : List Seen) → AreUnlike (firsts ss)
firsts-unlike [] = tt
firsts-unlike (s ∷ ss) = (
  all-weaker (λ f. Unit {0} × (not (alike s f) ≡ true)) (λ f. alike s f ≡ false) (filter (λ f. not (alike s f)) (firsts ss)) (λ f h. not-true (alike s f) h.1) (all-kept (λ f. Unit {0}) (λ f. not (alike s f)) (firsts ss) (all-unit (firsts ss))),
  unlike-kept (λ f. not (alike s f)) (firsts ss) (firsts-unlike ss),
)

-- a group has the keys of its first
pub first-keys : (ss : List Seen) → AllByRecursion (λ f. keys_of_group (filter (alike f) ss) ≡ f.keys) (firsts ss)
first-keys [] = tt
first-keys (s ∷ ss) = (
  ap (λ b. keys_of_group (cond b (s ∷ filter (alike s) ss) (filter (alike s) ss))) (alike_equiv.refl s),
  all-weaker (λ f. (keys_of_group (filter (alike f) ss) ≡ f.keys) × (not (alike s f) ≡ true)) (λ f. keys_of_group (filter (alike f) (s ∷ ss)) ≡ f.keys) (filter (λ f. not (alike s f)) (firsts ss))
      (λ f h. ap (λ b. keys_of_group (cond b (s ∷ filter (alike f) ss) (filter (alike f) ss))) (alike_equiv.symm f s ∙ not-true (alike s f) h.1) ∙ h.0)
      (all-kept (λ f. keys_of_group (filter (alike f) ss) ≡ f.keys) (λ f. not (alike s f)) (firsts ss) (first-keys ss)),
)

-- at a place of a list
pub all-at : (P : Seen → Type 0) (fs : List Seen) (n : ℕ) (d : Seen) → AllByRecursion P fs → n < length fs → P (get_or fs n d)
all-at P [] n d all lt = absurd (omega arith)
all-at P (f ∷ fs) zero d all lt = all.0
all-at P (f ∷ fs) (suc n) d all lt = all-at P fs n d all.1 (omega arith)

-- the first of each group is alike a tuple where one of the tuples is
any-kept : (t s : Seen) (fs : List Seen) → alike t s ≡ false → list_any (λ f. alike f s) (filter (λ f. not (alike t f)) fs) ≡ list_any (λ f. alike f s) fs
any-kept t s [] e = refl
any-kept t s (f ∷ fs) e = by (alike t f) refl (any-kept t s fs e)
  where
    by : (b : Bool) → alike t f ≡ b → list_any (λ f. alike f s) (filter (λ f. not (alike t f)) fs) ≡ list_any (λ f. alike f s) fs
        → list_any (λ f. alike f s) (cond (not b) (f ∷ filter (λ f. not (alike t f)) fs) (filter (λ f. not (alike t f)) fs)) ≡ alike f s || list_any (λ f. alike f s) fs
    by true h more = more ∙ sym (ap (λ b. b || list_any (λ f. alike f s) fs) (sym (alike_equiv.congr t f s h) ∙ e))
    by false h more = ap (λ b. alike f s || b) more

pub any-first : (ss : List Seen) (s : Seen) → list_any (λ f. alike f s) (firsts ss) ≡ is_alike_one ss s
any-first [] s = refl
any-first (t ∷ ts) s = by (alike t s) refl (any-first ts s)
  where
    by : (b : Bool) → alike t s ≡ b → list_any (λ f. alike f s) (firsts ts) ≡ is_alike_one ts s → b || list_any (λ f. alike f s) (filter (λ f. not (alike t f)) (firsts ts)) ≡ b || is_alike_one ts s
    by true e more = refl
    by false e more = any-kept t s (firsts ts) e ∙ more

pub any-at : (fs : List Seen) (s : Seen) (n : ℕ) (d : Seen) → n < length fs → alike (get_or fs n d) s ≡ true → list_any (λ f. alike f s) fs ≡ true
any-at [] s n d lt e = absurd (omega arith)
any-at (f ∷ fs) s zero d lt e = ap (λ b. b || list_any (λ f. alike f s) fs) e
any-at (f ∷ fs) s (suc n) d lt e = wide (alike f s) (list_any (λ f. alike f s) fs) (any-at fs s n d (omega arith) e)
  where
    wide : (a b : Bool) → b ≡ true → a || b ≡ true
    wide true b h = refl
    wide false b h = h

pub any-none : (fs : List Seen) (s : Seen) → AllByRecursion (λ f. alike f s ≡ false) fs → list_any (λ f. alike f s) fs ≡ false
any-none [] s all = refl
any-none (f ∷ fs) s all = ap (λ b. b || list_any (λ f. alike f s) fs) all.0 ∙ any-none fs s all.1

-- a tuple that none is alike
pub none-left : (ss : List Seen) (s : Seen) → is_alike_one ss s ≡ false → filter (alike s) ss ≡ []
none-left [] s e = refl
none-left (t ∷ ts) s e = by (alike t s) refl e (none-left ts s)
  where
    by : (b : Bool) → alike t s ≡ b → b || is_alike_one ts s ≡ false → (is_alike_one ts s ≡ false → filter (alike s) ts ≡ []) → filter (alike s) (t ∷ ts) ≡ []
    by true h f more = absurd (true≢false f)
    by false h f more = ap (λ b. cond b (t ∷ filter (alike s) ts) (filter (alike s) ts)) (alike_equiv.symm s t ∙ h) ∙ more f

-- the groups of firsts that are not alike a tuple
pub none-more : (ss : List Seen) (s : Seen) (fs : List Seen) → AllByRecursion (λ f. alike f s ≡ false) fs → map (λ f. filter (alike f) (ss ++ s ∷ [])) fs ≡ map (λ f. filter (alike f) ss) fs
none-more ss s [] all = refl
none-more ss s (f ∷ fs) all = ap₂ (λ g gs. g ∷ gs) (group-same f ss s all.0) (none-more ss s fs all.1)

-- the groups of firsts of which one is alike a tuple
pub one-more : (ss : List Seen) (s : Seen) (fs : List Seen) → AreUnlike fs → (n : ℕ) (d : Seen) → n < length fs → alike (get_or fs n d) s ≡ true
    → map (λ f. filter (alike f) (ss ++ s ∷ [])) fs ≡ set (map (λ f. filter (alike f) ss) fs) n (filter (alike (get_or fs n d)) ss ++ s ∷ [])
one-more ss s [] u n d lt e = absurd (omega arith)
one-more ss s (f ∷ fs) u zero d lt e =
    ap₂ (λ g gs. g ∷ gs) (group-more f ss s true e)
    (none-more ss s fs (all-weaker (λ g. alike f g ≡ false) (λ g. alike g s ≡ false) fs (λ g h. other-not g f s (alike_equiv.symm g f ∙ h) e) u.0))
one-more ss s (f ∷ fs) u (suc n) d lt e =
    ap₂ (λ g gs. g ∷ gs) (group-same f ss s (other-not f (get_or fs n d) s (all-at (λ g. alike f g ≡ false) fs n d u.0 (omega arith)) e))
    (one-more ss s fs u.1 n d (omega arith) e)
