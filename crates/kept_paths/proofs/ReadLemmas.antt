-- What a change of the bounds leaves at each list of classes.
use Rattle.std.proofs.Common.{rules, ◌≡◌, ◌≢◌, ◌⊎◌, ◌<◌, ◌≤◌, ◌+◌, ◌&&◌, ◌||◌, ℕ, zero, suc, Bool, true, false, nat_lt, List, [], ◌∷◌, length, take, Option, Some, None, Vec, Global, inl, inr, ⊎_elim, refl, sym, ◌∙◌, ap, subst, arith}
use Rattle.std.proofs.lemmas.Bool.{and_from, cases_Bool, cases_lt, false≢true}
use Rattle.std.proofs.lemmas.Grind.{common_steps}
use Rattle.std.proofs.lemmas.List.{length-take-le, take_all}
use Rattle.std.proofs.lemmas.Map.Text.{is_eq-slice_cmp}
use Rattle.std.proofs.lemmas.Option.{none-some}
use Rattle.std.specs.BTreeMap.{UpdatesBy}
use Rattle.std.specs.Cmp.{eq_by_cmp_equiv}
use Rattle.std.specs.Cmp.Lexicographic.{slice_cmp, bytes_decides, nat_list_cmp_total, nat_list_eq_equiv}
use Rattle.std.specs.Map.{AreApart, IsKeyTest, KeepsOthers, lookup}
use Rattle.std.specs.Option.{IsSome, is_some}
use Rattle.std.specs.Ordering.{is_eq, nat_cmp}
use Rattle.std.specs.Str.{bytes_eq}
use Rattle.pathkeys.specs.Keys.{Keys, covers}
use Rattle.pathkeys.proofs.CoveringLemmas.{covers-prefix, prefix-covers}
use Rattle.cost_rules.specs.declared.pair.Pair.{Pair}
use Rattle.kept_paths.specs.work.Bounds.{Bounds, early_at, early_in, is_first, is_told, is_within, known_at, least_in}
use Rattle.kept_paths.specs.declared.bounds.Known.{Known}
use Rattle.pg_base.proofs.OptionLemmas.{is-none}

abbrev pub Numbers : Type 0
Numbers = Vec ℕ Global

module _ {K X : Type 0} (eq : K → K → Bool) (test : K → Bool) where
  others-stay : (old new : List (K × X)) → KeepsOthers eq test old new → (other : K → Bool) → IsKeyTest eq other → AreApart test other → lookup other new ≡ lookup other old
  unfolding KeepsOthers
  others-stay old new h = h

apart : (list ks k : Keys) → bytes_eq list ks ≡ false → is_eq (slice_cmp nat_cmp list k) ≡ true → is_eq (slice_cmp nat_cmp ks k) ≡ false
apart list ks k n y = is_eq-slice_cmp ks k ∙ (nat_list_eq_equiv.symm ks k ∙ sym (nat_list_eq_equiv.congr list k ks (sym (is_eq-slice_cmp list k) ∙ y)) ∙ n)

-- two lists are equal, or their test says no
pub same-or : (list ks : Keys) → (list ≡ ks) ⊎ (bytes_eq list ks ≡ false)
same-or list ks = ⊎_elim (λ y. inl ((bytes_decides list ks).0 y)) inr (cases_Bool (bytes_eq list ks))

pub differ-from : (list ks : Keys) → ks ≢ list → bytes_eq list ks ≡ false
differ-from list ks ne = ⊎_elim (λ same. absurd (ne (sym same))) (λ differ. differ) (same-or list ks)

pub none-known : (m : Bounds) (list : Keys) → is_some (known_at m list) ≡ false → known_at m list ≡ None
none-known m list e = is-none (known_at m list) e

module _ (list : Keys) (m n : Bounds) (w : Option Known) (h : UpdatesBy (λ (x y : Numbers). slice_cmp nat_cmp x.items y.items) (λ k. slice_cmp nat_cmp list k.items) m n w) where
  pub known-here : known_at n list ≡ w
  known-here = h.1

  pub known-other : (ks : Keys) → bytes_eq list ks ≡ false → known_at n ks ≡ known_at m ks
  known-other ks e =
      others-stay _ _ m.entries n.entries h.3 _ (λ x y. (eq_by_cmp_equiv nat_list_cmp_total).congr ks x.items y.items) (λ k. apart list ks k.items e)

-- the bounds that know of a list as given, and of each other one as before
abbrev pub IsKnownAs : Keys → Option Known → Bounds → Bounds → Type 0
IsKnownAs list w m n = UpdatesBy (λ (x y : Numbers). slice_cmp nat_cmp x.items y.items) (λ k. slice_cmp nat_cmp list k.items) m n w

-- room for a list tells nothing more
pub room-told : (list : Keys) (m n : Bounds) (k : Known) → IsKnownAs list (Some k) m n → k.least ≡ None → known_at m list ≡ None → (ks : Keys) (cost : Pair) → is_told n ks cost ≡ is_told m ks cost
room-told list m n k h nothing none ks cost = ⊎_elim here other (same-or list ks)
  where
    here : list ≡ ks → is_told n ks cost ≡ is_told m ks cost
    here same = subst (λ (l : Keys). is_told n l cost ≡ is_told m l cost) same (ap (λ x. is_within (least_in x) cost) (known-here list m n (Some k) h) ∙ ap (λ l. is_within l cost) nothing ∙ sym (ap (λ x. is_within (least_in x) cost) none))

    other : bytes_eq list ks ≡ false → is_told n ks cost ≡ is_told m ks cost
    other differ = ap (λ x. is_within (least_in x) cost) (known-other list m n (Some k) h ks differ)

-- room for a list tells no cost of a path that starts first
pub room-early : (list : Keys) (m n : Bounds) (k : Known) → IsKnownAs list (Some k) m n → k.early ≡ None → (ks : Keys) (e : Pair) → early_at n ks ≡ Some e → early_at m ks ≡ Some e
room-early list m n k h nothing ks e is = ⊎_elim here other (same-or list ks)
  where
    here : list ≡ ks → early_at m ks ≡ Some e
    here same = absurd (none-some e (sym nothing ∙ sym (ap early_in (known-here list m n (Some k) h)) ∙ subst (λ (l : Keys). early_at n l ≡ Some e) (sym same) is))

    other : bytes_eq list ks ≡ false → early_at m ks ≡ Some e
    other differ = sym (ap early_in (known-other list m n (Some k) h ks differ)) ∙ is

pub rooms-stay : (list : Keys) (m n : Bounds) (k : Known) → IsKnownAs list (Some k) m n → (ks : Keys) → IsSome (known_at m ks) → IsSome (known_at n ks)
rooms-stay list m n k h ks some = ⊎_elim
    (λ same. subst (λ (l : Keys). IsSome (known_at n l)) same (subst IsSome (sym (known-here list m n (Some k) h)) (search rules)))
    (λ differ. subst IsSome (sym (known-other list m n (Some k) h ks differ)) some)
    (same-or list ks)

-- what a lower cost makes of a list that is known
pub lower-here : (list : Keys) (m n : Bounds) (old new : Known) (cost : Pair) → IsKnownAs list (Some new) m n → known_at m list ≡ Some old →
    ((c : Pair) → is_within new.least c ≡ (is_within old.least c || is_first cost c)) → (c : Pair) → is_told n list c ≡ (is_told m list c || is_first cost c)
lower-here list m n old new cost h is low c =
    ap (λ x. is_within (least_in x) c) (known-here list m n (Some new) h) ∙ low c ∙ ap (λ x. is_within (least_in x) c || is_first cost c) (sym is)

-- the lists that a list begins with, shorter than a number
abbrev pub passed : ℕ → Keys → Keys → Bool
passed i list ks = covers list ks && nat_lt (length ks) i

joined : (a p r q : Bool) → p ≡ false → r ≡ true → ((a || (p && q)) || q) ≡ (a || (r && q))
joined true p r q e f = refl
joined false p r q e f = ap (λ b. (b && q) || q) e ∙ ap (λ b. b && q) (sym f)

at-length : (x i : ℕ) → x ≡ i → nat_lt x i ≡ false
at-length x i e = grind (arith, common_steps)

below-next : (x i : ℕ) → x ≡ i → nat_lt x (i + 1) ≡ true
below-next x i e = grind (arith, common_steps)

not-at : (x i : ℕ) → x ≢ i → nat_lt x i ≡ nat_lt x (i + 1)
not-at x i e = grind (arith, common_steps)

and-differ : (a b : Bool) → b ≡ false → (a && b) ≡ false
and-differ true b e = e
and-differ false b e = refl

pub short : (n : ℕ) (ks : Keys) → length (take n ks) ≤ length ks
short zero ks = omega arith
short (suc n) [] = omega arith
short (suc n) (k ∷ ks) = let le = short n ks in omega (arith, le)

-- one more of the lists that a list begins with was lowered
pub lowered-more : (old now new : Bounds) (list : Keys) (i : ℕ) (cost : Pair) → i ≤ length list →
    ((ks : Keys) (n : Pair) → is_told now ks n ≡ (is_told old ks n || (passed i list ks && is_first cost n))) →
    ((n : Pair) → is_told new (take i list) n ≡ (is_told now (take i list) n || is_first cost n)) →
    ((ks : Keys) → ks ≢ take i list → known_at new ks ≡ known_at now ks) →
    (ks : Keys) (n : Pair) → is_told new ks n ≡ (is_told old ks n || (passed (i + 1) list ks && is_first cost n))
lowered-more old now new list i cost le before here others ks n = ⊎_elim at-it elsewhere (same-or (take i list) ks)
  where
    long : length (take i list) ≡ i
    long = length-take-le i list le

    covered : covers list (take i list) ≡ true
    covered = prefix-covers list (take i list) (ap (λ k. take k list) long)

    first : is_told new (take i list) n ≡ (is_told old (take i list) n || (passed (i + 1) list (take i list) && is_first cost n))
    first =
        here n ∙ ap (λ b. b || is_first cost n) (before (take i list) n)
        ∙ joined (is_told old (take i list) n) (passed i list (take i list)) (passed (i + 1) list (take i list)) (is_first cost n)
        (and-differ (covers list (take i list)) (nat_lt (length (take i list)) i) (at-length (length (take i list)) i long))
        (and_from (covers list (take i list)) (nat_lt (length (take i list)) (i + 1)) covered (below-next (length (take i list)) i long))

    at-it : take i list ≡ ks → is_told new ks n ≡ (is_told old ks n || (passed (i + 1) list ks && is_first cost n))
    at-it same = subst (λ (l : Keys). is_told new l n ≡ (is_told old l n || (passed (i + 1) list l && is_first cost n))) same first

    apart-from : bytes_eq (take i list) ks ≡ false → ks ≡ take i list → ⊥
    apart-from differ e = false≢true (sym differ ∙ (bytes_decides (take i list) ks).1 (sym e))

    as-passed : bytes_eq (take i list) ks ≡ false → (b : Bool) → covers list ks ≡ b → passed i list ks ≡ passed (i + 1) list ks
    as-passed differ false e = ap (λ b. b && nat_lt (length ks) i) e ∙ sym (ap (λ b. b && nat_lt (length ks) (i + 1)) e)
    as-passed differ true e =
        ap (λ b. covers list ks && b) (not-at (length ks) i (λ is. apart-from differ (sym (covers-prefix list ks e) ∙ ap (λ k. take k list) is)))

    elsewhere : bytes_eq (take i list) ks ≡ false → is_told new ks n ≡ (is_told old ks n || (passed (i + 1) list ks && is_first cost n))
    elsewhere differ =
        ap (λ x. is_within (least_in x) n) (others ks (apart-from differ)) ∙ before ks n
        ∙ ap (λ b. is_told old ks n || (b && is_first cost n)) (as-passed differ (covers list ks) refl)

pub passed-all : (list ks : Keys) → passed (length list + 1) list ks ≡ covers list ks
passed-all list ks = by (covers list ks) refl
  where
    within : covers list ks ≡ true → length ks ≤ length list
    within e = subst (λ (l : Keys). length l ≤ length list) (covers-prefix list ks e) (short (length ks) list)

    less : (x y : ℕ) → x ≤ y → nat_lt x (y + 1) ≡ true
    less x y le = grind (arith, common_steps)

    by : (b : Bool) → covers list ks ≡ b → passed (length list + 1) list ks ≡ covers list ks
    by false e = ap (λ b. b && nat_lt (length ks) (length list + 1)) e ∙ sym e
    by true e = ap (λ b. covers list ks && b) (less (length ks) (length list) (within e)) ∙ ap (λ b. b && true) e ∙ sym e

-- of one list more with which a list begins the path that starts first was noted
pub earlier-more : (old now new : Bounds) (list part : Keys) (cost : Pair) → covers list part ≡ true →
    ((ks : Keys) (e : Pair) → early_at now ks ≡ Some e → (early_at old ks ≡ Some e) ⊎ ((covers list ks ≡ true) × (e ≡ cost))) →
    ((e : Pair) → early_at new part ≡ Some e → (early_at now part ≡ Some e) ⊎ (e ≡ cost)) →
    ((ks : Keys) → ks ≢ part → known_at new ks ≡ known_at now ks) →
    (ks : Keys) (e : Pair) → early_at new ks ≡ Some e → (early_at old ks ≡ Some e) ⊎ ((covers list ks ≡ true) × (e ≡ cost))
earlier-more old now new list part cost begins before here others ks e = ⊎_elim at-it elsewhere (same-or part ks)
  where
    at-part : early_at new part ≡ Some e → (early_at old part ≡ Some e) ⊎ ((covers list part ≡ true) × (e ≡ cost))
    at-part is = ⊎_elim (λ was. before part e was) (λ same. inr (begins, same)) (here e is)

    at-it : part ≡ ks → early_at new ks ≡ Some e → (early_at old ks ≡ Some e) ⊎ ((covers list ks ≡ true) × (e ≡ cost))
    at-it same = subst (λ (l : Keys). early_at new l ≡ Some e → (early_at old l ≡ Some e) ⊎ ((covers list l ≡ true) × (e ≡ cost))) same at-part

    elsewhere : bytes_eq part ks ≡ false → early_at new ks ≡ Some e → (early_at old ks ≡ Some e) ⊎ ((covers list ks ≡ true) × (e ≡ cost))
    elsewhere differ is = before ks e (sym (ap early_in (others ks (λ same. false≢true (sym differ ∙ (bytes_decides part ks).1 (sym same))))) ∙ is)

-- a list begins with so many of its own
pub begins-own : (list : Keys) (i : ℕ) → i ≤ length list → covers list (take i list) ≡ true
begins-own list i le = prefix-covers list (take i list) (ap (λ k. take k list) (length-take-le i list le))

-- room that lists had, they have when a list is known of besides
pub room-same : (m n : Bounds) (list ks : Keys) → ((other : Keys) → other ≢ list → known_at n other ≡ known_at m other) → IsSome (known_at n list) → IsSome (known_at m ks) → IsSome (known_at n ks)
room-same m n list ks others here some = ⊎_elim
    (λ same. subst (λ (l : Keys). IsSome (known_at n l)) same here)
    (λ differ. subst IsSome (sym (others ks (λ e. false≢true (sym differ ∙ (bytes_decides list ks).1 (sym e))))) some)
    (same-or list ks)

-- the shorter lists that a list begins with have room, and so has the list: all that it begins with have
pub rooms-all : (b : Bounds) (list : Keys) → ((m : ℕ) → m < length list → IsSome (known_at b (take m list))) → IsSome (known_at b list) → (m : ℕ) → IsSome (known_at b (take m list))
rooms-all b list shorter whole m = ⊎_elim (shorter m) (λ le. subst (λ (l : Keys). IsSome (known_at b l)) (sym (take_all m list le)) whole) (cases_lt m (length list))

-- the cost was told of the shorter lists that a list begins with, and of the list
pub lowered-each : (old now new : Bounds) (list : Keys) (cost : Pair) →
    ((ks : Keys) (n : Pair) → is_told now ks n ≡ (is_told old ks n || (passed (length list) list ks && is_first cost n))) →
    ((n : Pair) → is_told new list n ≡ (is_told now list n || is_first cost n)) →
    ((ks : Keys) → ks ≢ list → known_at new ks ≡ known_at now ks) →
    (ks : Keys) (n : Pair) → is_told new ks n ≡ (is_told old ks n || (covers list ks && is_first cost n))
lowered-each old now new list cost before here others ks n =
    lowered-more old now new list (length list) cost (omega arith) before
    (subst (λ (l : Keys). (n : Pair) → is_told new l n ≡ (is_told now l n || is_first cost n)) whole here)
    (subst (λ (l : Keys). (ks : Keys) → ks ≢ l → known_at new ks ≡ known_at now ks) whole others) ks n
    ∙ ap (λ b. is_told old ks n || (b && is_first cost n)) (passed-all list ks)
  where
    whole : list ≡ take (length list) list
    whole = sym (take_all (length list) list (omega arith))
