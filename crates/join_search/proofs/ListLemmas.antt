-- The lists of 1 to 3 different ones of some classes are those by which two sets may be merged.
use Rattle.std.proofs.Common.{◌≡◌, ◌≢◌, ◌⊎◌, ◌<◌, ◌≤◌, ℕ, ◌+◌, zero, suc, Bool, true, false, not, cond, ◌||◌, nat_eq, List, [], ◌∷◌, ◌++◌, length, map, take, take_all, get_or, inl, inr, refl, sym, ◌∙◌, ap, ap₂, subst, arith, true≢false, length-append}
use Rattle.std.specs.Prelude.{All, Contains, Option, filter}
use Rattle.std.specs.List.{list_any, list_all}
use Rattle.std.specs.Option.{option_map, option_to_list}
use Rattle.std.proofs.lemmas.Bool.{and_parts, and_from, eq-eqb, eqb-true, false≢true}
use Rattle.std.proofs.lemmas.List.{length-map, map-append, take_more}
use Rattle.std.proofs.lemmas.List.Elements.{All-append, All-cons, All-head, All-nil, All-tail, Contains-append_left, Contains-append_right, filter-append}
use Rattle.std.proofs.lemmas.List.Quantifiers.{all_pairs_push}
use Rattle.eq_classes.specs.Parts.{joining_from}
use Rattle.eq_classes.specs.work.Parts.{first_four}
use Rattle.eq_classes.specs.declared.classes.ClassNo.{ClassNo}
use Rattle.pathkeys.specs.work.Finding.{class_numbers}
use Rattle.pathkeys.specs.Keys.{AreDifferent, Keys}
use Rattle.catalog.specs.Contents.{Contents}
use Rattle.eq_classes.specs.Clauses.{Set}
use Rattle.sql_query.specs.Queries.{Query}
use Rattle.plan_tree.specs.Space.{IsMergeList}
use Rattle.join_search.specs.work.Merges.{all_longer, lists_of, longer, ones, twos}

-- the classes that were found, of the first four
pub somes : List (Option ℕ) → List ℕ
somes [] = []
somes (o ∷ os) = option_to_list o ++ somes os

append-nil : (xs : List ℕ) → xs ++ [] ≡ xs
append-nil [] = refl
append-nil (x ∷ xs) = ap (λ ys. x ∷ ys) (append-nil xs)

assoc : (xs ys zs : List ℕ) → (xs ++ ys) ++ zs ≡ xs ++ (ys ++ zs)
assoc [] ys zs = refl
assoc (x ∷ xs) ys zs = ap (λ l. x ∷ l) (assoc xs ys zs)

pub somes-push : (os : List (Option ℕ)) (o : Option ℕ) → somes (os ++ o ∷ []) ≡ somes os ++ option_to_list o
unfolding somes
somes-push [] o = append-nil (option_to_list o)
somes-push (x ∷ os) o = ap (λ l. option_to_list x ++ l) (somes-push os o) ∙ sym (assoc (option_to_list x) (somes os) (option_to_list o))

pub somes-nil : somes [] ≡ []
unfolding somes
somes-nil = refl

pub somes-first : (ns : List ℕ) → somes (first_four ns) ≡ take 4 ns
unfolding somes
somes-first [] = refl
somes-first (a ∷ []) = refl
somes-first (a ∷ b ∷ []) = refl
somes-first (a ∷ b ∷ d ∷ []) = refl
somes-first (a ∷ b ∷ d ∷ e ∷ ns) = refl

-- the first four that were found
pub joining-all : (four : List (Option ClassNo)) (n : ℕ) (ns found : List ℕ) → found ≡ somes (map (option_map (λ (c : ClassNo). c.0)) (take n four)) → map (option_map (λ (c : ClassNo). c.0)) four ≡ first_four ns → 4 ≤ n → found ≡ take 4 ns
joining-all four n ns found e same le =
    let f : Option ClassNo → Option ℕ = option_map (λ (c : ClassNo). c.0) in
    let many : length four ≡ 4 = sym (length-map four f) ∙ ap (λ (xs : List (Option ℕ)). length xs) same in
    e ∙ ap (λ xs. somes (map f xs)) (take_all n four (omega (arith, many, le))) ∙ ap somes same ∙ somes-first ns

-- a list with one more class
pub longer-none : (n : ℕ) (keys : Keys) → list_any (nat_eq n) keys ≡ true → longer (n ∷ []) keys ≡ []
longer-none n keys e = ap (λ b. map (λ m. keys ++ m ∷ []) (cond (not b) (n ∷ []) [])) e

pub longer-one : (n : ℕ) (keys : Keys) → list_any (nat_eq n) keys ≡ false → longer (n ∷ []) keys ≡ (keys ++ n ∷ []) ∷ []
longer-one n keys e = ap (λ b. map (λ m. keys ++ m ∷ []) (cond (not b) (n ∷ []) [])) e

pub longer-push : (ns : List ℕ) (n : ℕ) (keys : Keys) → longer (ns ++ n ∷ []) keys ≡ longer ns keys ++ longer (n ∷ []) keys
longer-push ns n keys =
    ap (map (λ m. keys ++ m ∷ [])) (filter-append (λ m. not (list_any (nat_eq m) keys)) ns (n ∷ []))
    ∙ map-append (λ m. keys ++ m ∷ []) (filter (λ m. not (list_any (nat_eq m) keys)) ns) (filter (λ m. not (list_any (nat_eq m) keys)) (n ∷ []))

not-any : (n : ℕ) (keys : Keys) → list_any (nat_eq n) keys ≡ false → (k : ℕ) (d : ℕ) → k < length keys → get_or keys k d ≢ n
not-any n [] e k d lt = absurd (omega (arith, lt))
not-any n (m ∷ keys) e zero d lt = λ same. by (nat_eq n m) refl e same
  where
    by : (b : Bool) → nat_eq n m ≡ b → b || list_any (nat_eq n) keys ≡ false → m ≡ n → ⊥
    by true f g same = true≢false g
    by false f g same = true≢false (sym (eq-eqb n m (sym same)) ∙ f)
not-any n (m ∷ keys) e (suc k) d lt = not-any n keys (rest (nat_eq n m) e) k d (omega (arith, lt))
  where
    rest : (b : Bool) → b || list_any (nat_eq n) keys ≡ false → list_any (nat_eq n) keys ≡ false
    rest true f = absurd (true≢false f)
    rest false f = f

pub different-more : (keys : Keys) (n : ℕ) → AreDifferent keys → list_any (nat_eq n) keys ≡ false → AreDifferent (keys ++ n ∷ [])
different-more keys n different e = all_pairs_push (λ a b. a ≢ b) keys n different (not-any n keys e)

pub numbers-different : (cs : List ClassNo) (c : ClassNo) (keys : Keys) → class_numbers cs ≡ keys → AreDifferent keys → list_any (nat_eq c.0) keys ≡ false → AreDifferent (class_numbers (cs ++ c ∷ []))
numbers-different cs c keys same different e =
    subst AreDifferent (sym (map-append (λ (x : ClassNo). x.0) cs (c ∷ []) ∙ ap (λ l. l ++ c.0 ∷ []) same)) (different-more keys c.0 different e)

module _ (ns : List ℕ) where
  -- a list of so many different ones of some classes
  record IsListOf (len : ℕ) (keys : Keys) : Type 0 where
    many : length keys ≡ len
    different : AreDifferent keys
    among : list_all (λ n. list_any (nat_eq n) ns) keys ≡ true

  all-push : (f : ℕ → Bool) (keys : Keys) (n : ℕ) → list_all f keys ≡ true → f n ≡ true → list_all f (keys ++ n ∷ []) ≡ true
  all-push f [] n e h = and_from (f n) true h refl
  all-push f (m ∷ keys) n e h = let p = and_parts (f m) (list_all f keys) e in and_from (f m) (list_all f (keys ++ n ∷ [])) p.0 (all-push f keys n p.1 h)

  list-more : (len : ℕ) (keys : Keys) (n : ℕ) → IsListOf len keys → list_any (nat_eq n) ns ≡ true → list_any (nat_eq n) keys ≡ false → IsListOf (len + 1) (keys ++ n ∷ [])
  list-more len keys n h among new = record {
    many = let e = h.many in omega (arith, e, length-append keys (n ∷ []));
    different = different-more keys n h.different new;
    among = all-push (λ m. list_any (nat_eq m) ns) keys n h.among among;
  }

  longer-sound : (len : ℕ) (keys : Keys) → IsListOf len keys → (ms : List ℕ) → list_all (λ n. list_any (nat_eq n) ns) ms ≡ true → All (IsListOf (len + 1)) (longer ms keys)
  longer-sound len keys h [] e = All-nil (IsListOf (len + 1))
  longer-sound len keys h (m ∷ ms) e =
      let p = and_parts (list_any (nat_eq m) ns) (list_all (λ n. list_any (nat_eq n) ns) ms) e in
      by (list_any (nat_eq m) keys) refl p.0 (longer-sound len keys h ms p.1)
    where
      by : (b : Bool) → list_any (nat_eq m) keys ≡ b → list_any (nat_eq m) ns ≡ true → All (IsListOf (len + 1)) (longer ms keys) →
          All (IsListOf (len + 1)) (map (λ n. keys ++ n ∷ []) (cond (not b) (m ∷ filter (λ n. not (list_any (nat_eq n) keys)) ms) (filter (λ n. not (list_any (nat_eq n) keys)) ms)))
      by true f among later = later
      by false f among later = All-cons (IsListOf (len + 1)) (keys ++ m ∷ []) (longer ms keys) (list-more len keys m h among f) later

  any-weak : (m n : ℕ) (ms : List ℕ) → list_any (nat_eq n) ms ≡ true → nat_eq n m || list_any (nat_eq n) ms ≡ true
  any-weak m n ms e = by (nat_eq n m)
    where
      by : (b : Bool) → b || list_any (nat_eq n) ms ≡ true
      by true = refl
      by false = e

  among-itself : (ms : List ℕ) → ((n : ℕ) → list_any (nat_eq n) ms ≡ true → list_any (nat_eq n) ns ≡ true) → list_all (λ n. list_any (nat_eq n) ns) ms ≡ true
  among-itself [] h = refl
  among-itself (m ∷ ms) h =
      and_from (list_any (nat_eq m) ns) (list_all (λ n. list_any (nat_eq n) ns) ms) (h m (ap (λ b. b || list_any (nat_eq m) ms) (eq-eqb m m refl)))
      (among-itself ms (λ n e. h n (any-weak m n ms e)))

  all-sound : (len : ℕ) (lists : List Keys) → All (IsListOf len) lists → All (IsListOf (len + 1)) (all_longer ns lists)
  all-sound len [] h = All-nil (IsListOf (len + 1))
  all-sound len (keys ∷ lists) h =
      All-append (IsListOf (len + 1)) (longer ns keys) (all_longer ns lists)
      (longer-sound len keys (All-head (IsListOf len) keys lists h) ns (among-itself ns (λ n e. e))) (all-sound len lists (All-tail (IsListOf len) keys lists h))

  -- each class of some that a list has not makes it longer
  longer-has : (ms : List ℕ) (keys : Keys) (n : ℕ) → list_any (nat_eq n) ms ≡ true → list_any (nat_eq n) keys ≡ false → Contains (longer ms keys) (keys ++ n ∷ [])
  longer-has [] keys n e new = absurd (false≢true e)
  longer-has (m ∷ ms) keys n e new = by (nat_eq n m) refl e (λ h. longer-has ms keys n h new)
    where
      first : m ≡ n → (b : Bool) → list_any (nat_eq m) keys ≡ b → Contains (map (λ x. keys ++ x ∷ []) (cond (not b) (m ∷ filter (λ x. not (list_any (nat_eq x) keys)) ms) (filter (λ x. not (list_any (nat_eq x) keys)) ms))) (keys ++ n ∷ [])
      first same true f = absurd (true≢false (sym f ∙ ap (λ x. list_any (nat_eq x) keys) same ∙ new))
      first same false f = (0, omega arith, ap (λ x. keys ++ x ∷ []) same)

      later : (b : Bool) → Contains (longer ms keys) (keys ++ n ∷ []) → Contains (map (λ x. keys ++ x ∷ []) (cond (not b) (m ∷ filter (λ x. not (list_any (nat_eq x) keys)) ms) (filter (λ x. not (list_any (nat_eq x) keys)) ms))) (keys ++ n ∷ [])
      later true h = h
      later false h = Contains-append_right ((keys ++ m ∷ []) ∷ []) (longer ms keys) (keys ++ n ∷ []) h

      by : (b : Bool) → nat_eq n m ≡ b → b || list_any (nat_eq n) ms ≡ true → (list_any (nat_eq n) ms ≡ true → Contains (longer ms keys) (keys ++ n ∷ [])) → Contains (longer (m ∷ ms) keys) (keys ++ n ∷ [])
      by true f h rest = first (sym (eqb-true n m f)) (list_any (nat_eq m) keys) refl
      by false f h rest = later (list_any (nat_eq m) keys) (rest h)

  contains-cases : (y : Keys) (ys : List Keys) (x : Keys) → Contains (y ∷ ys) x → (y ≡ x) ⊎ Contains ys x
  contains-cases y ys x (zero, lt, e) = inl e
  contains-cases y ys x (suc k, lt, e) = inr (k, omega (arith, lt), e)

  all-has : (lists : List Keys) (keys : Keys) (n : ℕ) → Contains lists keys → list_any (nat_eq n) ns ≡ true → list_any (nat_eq n) keys ≡ false → Contains (all_longer ns lists) (keys ++ n ∷ [])
  all-has [] keys n h e new = absurd (omega (arith, h.1))
  all-has (y ∷ lists) keys n h e new = by (contains-cases y lists keys h) (λ later. all-has lists keys n later e new)
    where
      by : (y ≡ keys) ⊎ Contains lists keys → (Contains lists keys → Contains (all_longer ns lists) (keys ++ n ∷ [])) → Contains (longer ns y ++ all_longer ns lists) (keys ++ n ∷ [])
      by (inl same) rest = Contains-append_left (longer ns y) (all_longer ns lists) (keys ++ n ∷ []) (subst (λ l. Contains (longer ns l) (keys ++ n ∷ [])) (sym same) (longer-has ns keys n e new))
      by (inr later) rest = Contains-append_right (longer ns y) (all_longer ns lists) (keys ++ n ∷ []) (rest later)

  one-has : (x : ℕ) → list_any (nat_eq x) ns ≡ true → Contains (ones ns) (x ∷ [])
  one-has x e = all-has ([] ∷ []) [] x (0, omega arith, refl) e refl

  two-has : (x y : ℕ) → list_any (nat_eq x) ns ≡ true → list_any (nat_eq y) ns ≡ true → nat_eq y x ≡ false → Contains (twos ns) (x ∷ y ∷ [])
  two-has x y e f new = all-has (ones ns) (x ∷ []) y (one-has x e) f (ap (λ b. b || false) new)

  three-has : (x y z : ℕ) → list_any (nat_eq x) ns ≡ true → list_any (nat_eq y) ns ≡ true → list_any (nat_eq z) ns ≡ true → nat_eq y x ≡ false → nat_eq z x ≡ false → nat_eq z y ≡ false → Contains (all_longer ns (twos ns)) (x ∷ y ∷ z ∷ [])
  three-has x y z e f g a b d = all-has (twos ns) (x ∷ y ∷ []) z (two-has x y e f a) g (ap₂ (λ m n. m || (n || false)) b d)

  unlike : (x y : ℕ) → x ≢ y → nat_eq y x ≡ false
  unlike x y h = by (nat_eq y x) refl
    where
      by : (b : Bool) → nat_eq y x ≡ b → b ≡ false
      by true e = absurd (h (sym (eqb-true y x e)))
      by false e = refl

module _ (c : Contents) (q : Query) (a b : Set) where
  pub list-sound : (ns : List ℕ) → ns ≡ take 4 (joining_from a b 0 q.classes.classes) → All (IsMergeList c q a b) (lists_of ns)
  list-sound ns e =
      All-append (IsMergeList c q a b) (ones ns ++ twos ns) (all_longer ns (twos ns))
      (All-append (IsMergeList c q a b) (ones ns) (twos ns) (each 1 (ones ns) (omega arith) (omega arith) one) (each 2 (twos ns) (omega arith) (omega arith) two))
      (each 3 (all_longer ns (twos ns)) (omega arith) (omega arith) (all-sound ns 2 (twos ns) two))
    where
      none : All (IsListOf ns 0) ([] ∷ [])
      none = All-cons (IsListOf ns 0) [] [] (record { many = refl; different = λ i j d lt le. absurd (omega (arith, lt, le)); among = refl }) (All-nil (IsListOf ns 0))

      one : All (IsListOf ns 1) (ones ns)
      one = all-sound ns 0 ([] ∷ []) none

      two : All (IsListOf ns 2) (twos ns)
      two = all-sound ns 1 (ones ns) one

      each : (len : ℕ) (lists : List Keys) → 1 ≤ len → len ≤ 3 → All (IsListOf ns len) lists → All (IsMergeList c q a b) lists
      each len [] some few h = All-nil (IsMergeList c q a b)
      each len (keys ∷ lists) some few h =
          let is = All-head (IsListOf ns len) keys lists h in
          All-cons (IsMergeList c q a b) keys lists
          (let many = is.many in record {
            some = omega (arith, many, some);
            few = omega (arith, many, few);
            different = is.different;
            joining = subst (λ (l : List ℕ). list_all (λ n. list_any (nat_eq n) l) keys ≡ true) e is.among;
          })
          (each len lists some few (All-tail (IsListOf ns len) keys lists h))

  pub list-complete : (ns : List ℕ) → ns ≡ take 4 (joining_from a b 0 q.classes.classes) → (keys : Keys) → IsMergeList c q a b keys → Contains (lists_of ns) keys
  list-complete ns e keys is = by keys is (subst (λ (l : List ℕ). list_all (λ n. list_any (nat_eq n) l) keys ≡ true) (sym e) is.joining)
    where
      by : (keys : Keys) → IsMergeList c q a b keys → list_all (λ n. list_any (nat_eq n) ns) keys ≡ true → Contains (lists_of ns) keys
      by [] is all = let some = is.some in absurd (omega (arith, some))
      by (x ∷ []) is all =
          let p = and_parts (list_any (nat_eq x) ns) true all in
          Contains-append_left (ones ns ++ twos ns) (all_longer ns (twos ns)) (x ∷ []) (Contains-append_left (ones ns) (twos ns) (x ∷ []) (one-has ns x p.0))
      by (x ∷ y ∷ []) is all =
          let p = and_parts (list_any (nat_eq x) ns) (list_all (λ n. list_any (nat_eq n) ns) (y ∷ [])) all in
          let r = and_parts (list_any (nat_eq y) ns) true p.1 in
          Contains-append_left (ones ns ++ twos ns) (all_longer ns (twos ns)) (x ∷ y ∷ []) (Contains-append_right (ones ns) (twos ns) (x ∷ y ∷ [])
          (two-has ns x y p.0 r.0 (unlike ns x y (is.different 0 1 0 (omega arith) (omega arith)))))
      by (x ∷ y ∷ z ∷ []) is all =
          let p = and_parts (list_any (nat_eq x) ns) (list_all (λ n. list_any (nat_eq n) ns) (y ∷ z ∷ [])) all in
          let r = and_parts (list_any (nat_eq y) ns) (list_all (λ n. list_any (nat_eq n) ns) (z ∷ [])) p.1 in
          let s = and_parts (list_any (nat_eq z) ns) true r.1 in
          Contains-append_right (ones ns ++ twos ns) (all_longer ns (twos ns)) (x ∷ y ∷ z ∷ [])
          (three-has ns x y z p.0 r.0 s.0 (unlike ns x y (is.different 0 1 0 (omega arith) (omega arith))) (unlike ns x z (is.different 0 2 0 (omega arith) (omega arith))) (unlike ns y z (is.different 1 2 0 (omega arith) (omega arith))))
      by (x ∷ y ∷ z ∷ w ∷ keys) is all = let few = is.few in absurd (omega (arith, few))

pub four-long : (four : List (Option ClassNo)) (ns : List ℕ) → map (option_map (λ (c : ClassNo). c.0)) four ≡ first_four ns → length four ≡ 4
four-long four ns same = sym (length-map four (option_map (λ (c : ClassNo). c.0))) ∙ ap (λ (xs : List (Option ℕ)). length xs) same

pub joining-more : (four : List (Option ClassNo)) (n : ℕ) (d : Option ClassNo) (found new : List ℕ) → n < length four → found ≡ somes (map (option_map (λ (c : ClassNo). c.0)) (take n four)) →
    new ≡ found ++ option_to_list (option_map (λ (c : ClassNo). c.0) (get_or four n d)) → new ≡ somes (map (option_map (λ (c : ClassNo). c.0)) (take (n + 1) four))
joining-more four n d found new lt e same =
    let f : Option ClassNo → Option ℕ = option_map (λ (c : ClassNo). c.0) in
    same ∙ ap (λ l. l ++ option_to_list (f (get_or four n d))) e ∙ sym (somes-push (map f (take n four)) (f (get_or four n d))) ∙ ap somes (sym (map-append f (take n four) (get_or four n d ∷ []))) ∙ ap (λ xs. somes (map f xs)) (sym (take_more four n d lt))

-- no classes have no lists
pub lists-none : (cs : List ClassNo) → nat_eq (length cs) 0 ≡ true → [] ≡ lists_of (class_numbers cs)
lists-none [] e = refl
lists-none (c ∷ cs) e = absurd (omega (arith, eqb-true (length (c ∷ cs)) 0 e))
