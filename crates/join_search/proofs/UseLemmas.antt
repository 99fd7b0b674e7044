-- The part of a key list that can still be of use: the classes that it begins with that are open, or the order keys.
use Rattle.std.proofs.Common.{◌≡◌, ◌≢◌, ◌⊎◌, ◌<◌, ◌≤◌, ℕ, zero, suc, Bool, true, false, ◌&&◌, ◌||◌, cond, nat_eq, List, [], ◌∷◌, length, take, get_or, inl, inr, refl, sym, ◌∙◌, ap, subst, arith}
use Rattle.std.specs.Prelude.{All, Some, find, is_some}
use Rattle.std.specs.List.{list_all, list_any}
use Rattle.std.proofs.lemmas.Bool.{and_parts, eq-eqb, eqb-true, true≢false}
use Rattle.std.proofs.lemmas.List.Elements.{All-take}
use Rattle.std.proofs.lemmas.List.{length-map}
use Rattle.std.proofs.lemmas.List.Kept.{AllPairs-cons}
use Rattle.pg_base.specs.Sets.{has}
use Rattle.pg_base.specs.declared.rel_set.RelSet.{RelSet}
use Rattle.pg_expr.specs.declared.operand.ColRef.{ColRef}
use Rattle.eq_classes.specs.Clauses.{Set}
use Rattle.eq_classes.specs.Listing.{class_at}
use Rattle.eq_classes.specs.Parts.{has_in}
use Rattle.eq_classes.specs.declared.classes.ClassNo.{ClassNo}
use Rattle.pathkeys.specs.work.Finding.{class_numbers}
use Rattle.pathkeys.specs.Keys.{AreDifferent, Keys, covers, order_keys}
use Rattle.sql_query.specs.Queries.{Query}
use Rattle.plan_tree.specs.Space.{IsSameSet}
use Rattle.plan_laws.specs.work.Useful.{are_open, is_open, outside}
use Rattle.join_search.specs.work.Sufficing.{IsPartOfUse}
use Rattle.join_search.specs.declared.useful.Asked.{Asked}
use Rattle.plan_tree.proofs.SetLemmas.{sets-same}
use Rattle.plan_tree.proofs.PlaceLemmas.{number-at}

-- a class that is not open ends each list of open classes with which a list begins
pub open-part : (q : Query) (s : Set) (keys ks : Keys) (n : ℕ) → n < length keys → is_open q s (get_or keys n 0) ≡ false → are_open q s ks ≡ true → covers keys ks ≡ true → covers (take n keys) ks ≡ true
open-part q s [] ks n lt closed all h = absurd (omega (arith, lt))
open-part q s (k ∷ keys) [] zero lt closed all h = refl
open-part q s (k ∷ keys) [] (suc n) lt closed all h = refl
open-part q s (k ∷ keys) (l ∷ ks) zero lt closed all h =
    let same : k ≡ l = eqb-true k l (and_parts (nat_eq k l) (covers keys ks) h).0 in
    let is = (and_parts (is_open q s l) (list_all (is_open q s) ks) all).0 in
    absurd (true≢false (sym is ∙ ap (is_open q s) (sym same) ∙ closed))
open-part q s (k ∷ keys) (l ∷ ks) (suc n) lt closed all h =
    let parts = and_parts (nat_eq k l) (covers keys ks) h in
    let rest = and_parts (is_open q s l) (list_all (is_open q s) ks) all in
    ap (λ b. b && covers (take n keys) ks) parts.0 ∙ open-part q s keys ks n (omega (arith, lt)) closed rest.1 parts.1

-- the shorter of two lists with which one begins is what the longer one begins with
pub shorter-covered : (keys a ks : Keys) → covers keys a ≡ true → covers keys ks ≡ true → length ks ≤ length a → covers a ks ≡ true
shorter-covered keys [] [] h k le = refl
shorter-covered keys [] (l ∷ ks) h k le = absurd (omega (arith, le))
shorter-covered keys (m ∷ a) [] h k le = refl
shorter-covered [] (m ∷ a) (l ∷ ks) h k le = absurd (true≢false (sym h))
shorter-covered (n ∷ keys) (m ∷ a) (l ∷ ks) h k le =
    let x = and_parts (nat_eq n m) (covers keys a) h in
    let y = and_parts (nat_eq n l) (covers keys ks) k in
    let same : m ≡ n = sym (eqb-true n m x.0) in
    ap (λ b. b && covers a ks) (ap (λ v. nat_eq v l) same ∙ y.0) ∙ shorter-covered keys a ks x.1 y.1 (omega (arith, le))

pub covers-take : (n : ℕ) (keys : Keys) → covers keys (take n keys) ≡ true
covers-take zero [] = refl
covers-take zero (k ∷ keys) = refl
covers-take (suc n) [] = refl
covers-take (suc n) (k ∷ keys) = ap (λ b. b && covers keys (take n keys)) (eq-eqb k k refl) ∙ covers-take n keys

pub covered-length : (keys ks : Keys) → covers keys ks ≡ true → length ks ≤ length keys
covered-length keys [] h = omega arith
covered-length [] (l ∷ ks) h = absurd (true≢false (sym h))
covered-length (k ∷ keys) (l ∷ ks) h = let le = covered-length keys ks (and_parts (nat_eq k l) (covers keys ks) h).1 in omega (arith, le)

pub take-length : (n : ℕ) (keys : Keys) → n ≤ length keys → length (take n keys) ≡ n
take-length zero [] le = refl
take-length zero (k ∷ keys) le = refl
take-length (suc n) [] le = absurd (omega (arith, le))
take-length (suc n) (k ∷ keys) le = let e = take-length n keys (omega (arith, le)) in omega (arith, e)

-- some element passes where one is found
pub some-found : (test : ColRef → Bool) (xs : List ColRef) → is_some (find test xs) ≡ list_any test xs
some-found test [] = refl
some-found test (x ∷ xs) = by (test x) (some-found test xs)
  where
    by : (b : Bool) → is_some (find test xs) ≡ list_any test xs → is_some (cond b (Some x) (find test xs)) ≡ (b || list_any test xs)
    by true e = refl
    by false e = e

pairs-take : (n : ℕ) (xs : Keys) → AreDifferent xs → AreDifferent (take n xs)
pairs-take zero xs h = λ i j d lt le. absurd (omega (arith, lt, le))
pairs-take (suc n) [] h = λ i j d lt le. absurd (omega (arith, lt, le))
pairs-take (suc n) (x ∷ xs) h =
    AllPairs-cons (λ a b. a ≢ b) x (take n xs) (All-take (λ b. x ≢ b) n xs (λ k d lt. h 0 (suc k) d (omega arith) (omega (arith, lt))))
    (pairs-take n xs (λ i j d lt le. h (suc i) (suc j) d (omega (arith, lt)) (omega (arith, le))))

-- the first classes of a list, by their numbers
pub numbers-take : (n : ℕ) (items : List ClassNo) (keys : Keys) → class_numbers items ≡ keys → class_numbers (take n items) ≡ take n keys
numbers-take n items keys e = first n items ∙ ap (take n) e
  where
    first : (m : ℕ) (xs : List ClassNo) → class_numbers (take m xs) ≡ take m (class_numbers xs)
    first zero [] = refl
    first zero (x ∷ xs) = refl
    first (suc m) [] = refl
    first (suc m) (x ∷ xs) = ap (λ l. x.0 ∷ l) (first m xs)

pub first-different : (n : ℕ) (items : List ClassNo) (keys : Keys) → class_numbers items ≡ keys → AreDifferent keys → AreDifferent (class_numbers (take n items))
first-different n items keys e h = subst AreDifferent (sym (numbers-take n items keys e)) (pairs-take n keys h)

pub item-class : (P : ℕ → Type 0) (xs : List ClassNo) (n : ℕ) (d : ClassNo) → n < length xs → All P (class_numbers xs) → P (get_or xs n d).0
item-class P xs n d lt h = subst P (number-at xs n d lt) (h n 0 (omega (arith, lt, length-map xs (λ (k : ClassNo). k.0))))

-- a list up to a class without a member outside begins with each list of open ones with which the whole begins
pub part-before : (q : Query) (out : RelSet) (xs : List ClassNo) (n : ℕ) (d : ClassNo) → n < length xs → has_in (class_at q.classes.classes (get_or xs n d).0) (has out.0) ≡ false →
    (s : Set) (ks : Keys) → IsSameSet (has out.0) (outside q s) → are_open q s ks ≡ true → covers (class_numbers xs) ks ≡ true → covers (take n (class_numbers xs)) ks ≡ true
part-before q out xs n d lt never s ks same all h =
    open-part q s (class_numbers xs) ks n (omega (arith, lt, length-map xs (λ (k : ClassNo). k.0)))
    (ap (is_open q s) (number-at xs n d lt) ∙ ap (has_in (class_at q.classes.classes (get_or xs n d).0)) (sym (sets-same (has out.0) (outside q s) same)) ∙ never) all h

module _ (q : Query) (asked : Asked) (s : Set) (keys : Keys) where
  -- the whole list is such a part, and where every list counts the only one
  pub whole-part : (part : Keys) → part ≡ keys → IsPartOfUse q asked s keys part
  whole-part part e ks used h = subst (λ a. covers a ks ≡ true) (sym e) h

  -- the first classes, at least as many as begin each list of open ones, and as the order keys where the list begins with them
  pub first-part : (n used : ℕ) (part : Keys) → asked.every_key ≡ false → part ≡ take used keys → used ≤ length keys → n ≤ used → ((ks : Keys) → are_open q s ks ≡ true → covers keys ks ≡ true → covers (take n keys) ks ≡ true) →
      (covers keys (order_keys q.classes q.order) ≡ true → length (order_keys q.classes q.order) ≤ used) → IsPartOfUse q asked s keys part
  first-part n used part less e within more begins most ks of_use k = subst (λ a. covers a ks ≡ true) (sym e) (shorter-covered keys (take used keys) ks (covers-take used keys) k (by of_use))
    where
      many : length (take used keys) ≡ used
      many = take-length used keys within

      first : length (take n keys) ≡ n
      first = take-length n keys (omega (arith, more, within))

      by : (asked.every_key ≡ true) ⊎ ((are_open q s ks ≡ true) ⊎ (ks ≡ order_keys q.classes q.order)) → length ks ≤ length (take used keys)
      by (inl all) = absurd (true≢false (sym all ∙ less))
      by (inr (inl free)) = let few = covered-length (take n keys) ks (begins ks free k) in omega (arith, few, first, more, many)
      by (inr (inr order)) =
          let le = most (subst (λ a. covers keys a ≡ true) order k) in
          let same = ap (λ (l : Keys). length l) order in
          omega (arith, le, same, many)
