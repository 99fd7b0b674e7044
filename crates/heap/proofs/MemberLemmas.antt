-- The numbers that pass a test, in order, as a set.
use Rattle.std.proofs.Common.{◌≡◌, ℕ, zero, suc, ◌<◌, ◌≤◌, ◌+◌, Bool, true, false, not, cond, ◌||◌, ◌&&◌, nat_eq, nat_lt, List, [], ◌∷◌, ◌++◌, refl, sym, ap, ap₂, ◌∙◌, arith, inl, inr, append-nil, subst}
use Rattle.std.specs.List.{All, AllPairs, filter, range_with_len}
use Rattle.std.proofs.lemmas.List.{map-id}
use Rattle.std.proofs.lemmas.List.Elements.{All-push, filter-append}
use Rattle.std.proofs.lemmas.List.Quantifiers.{all_pairs_push}
use Rattle.std.proofs.lemmas.List.Folds.{list_any-append}
use Rattle.std.proofs.lemmas.List.FromFn.{filter_of_map_range_with_len_more}
use Rattle.std.proofs.lemmas.Bool.{cases_lt}
use Rattle.std.proofs.lemmas.Bool.Decides.{nat_tests}
use Rattle.heap.specs.work.TidSets.{IsTidSet, TidSet, rows_passing, is_member, not_below}

one_if : Bool → ℕ → List ℕ
one_if b n = cond b (n ∷ []) []

pub those-more : (b : ℕ) (test : ℕ → Bool) → rows_passing (b + 1) test ≡ rows_passing b test ++ cond (test b) (b ∷ []) []
those-more b test =
    ap (filter test) (sym (map-id (range_with_len 0 (b + 1))))
    ∙ filter_of_map_range_with_len_more test (λ (n : ℕ). n) 0 b b (let same : 0 + b ≡ b = omega arith in same)
    ∙ ap (λ (l : List ℕ). filter test l ++ cond (test b) (b ∷ []) []) (map-id (range_with_len 0 b))

those-suc : (b : ℕ) (test : ℕ → Bool) → rows_passing (suc b) test ≡ rows_passing b test ++ cond (test b) (b ∷ []) []
those-suc b test = ap (λ (k : ℕ). rows_passing k test) (let same : suc b ≡ b + 1 = omega arith in same) ∙ those-more b test

-- tests that agree below the bound
pub those-same : (b : ℕ) (f g : ℕ → Bool) → ((n : ℕ) → n < b → f n ≡ g n) → rows_passing b f ≡ rows_passing b g
those-same zero f g same = refl
those-same (suc b) f g same =
    those-suc b f
    ∙ ap₂ (λ (l : List ℕ) (t : Bool). l ++ cond t (b ∷ []) []) (those-same b f g (λ n lt. same n (omega arith))) (same b (omega arith))
    ∙ sym (those-suc b g)

or_none : (x : Bool) → (x || false) ≡ x
or_none true = refl
or_none false = refl

last-member : (t : Bool) (n b : ℕ) → is_member (cond t (b ∷ []) []) n ≡ t && nat_eq n b
last-member true n b = or_none (nat_eq n b)
last-member false n b = refl

low : (p q : Bool) → ((true && p) || (q && false)) ≡ (true && p)
low true q = refl
low false true = refl
low false false = refl

high : (p q : Bool) → ((false && p) || (q && false)) ≡ (false && p)
high p true = refl
high p false = refl

even : (p q : Bool) → p ≡ q → ((false && p) || (q && true)) ≡ (true && p)
even true true e = refl
even false false e = refl
even true false e = cc
even false true e = cc

tests : (x e y p q : Bool) (x' e' y' : Bool) → x ≡ x' → e ≡ e' → y ≡ y' → ((x' && p) || (q && e')) ≡ (y' && p) → ((x && p) || (q && e)) ≡ (y && p)
tests x e y p q x' e' y' hx he hy h = rw (hx, he, hy) h

merge : (n b : ℕ) (p q : Bool) → (n ≡ b → p ≡ q) → ((nat_lt n b && p) || (q && nat_eq n b)) ≡ (nat_lt n (suc b) && p)
merge n b p q same = elim (cases_lt n b) [
  | inl below ↦ tests (nat_lt n b) (nat_eq n b) (nat_lt n (suc b)) p q true false true (grind (arith, nat_tests)) (grind (arith, nat_tests)) (grind (arith, nat_tests)) (low p q)
  | inr least ↦ elim (cases_lt b n) [
    | inl above ↦ tests (nat_lt n b) (nat_eq n b) (nat_lt n (suc b)) p q false false false (grind (arith, nat_tests)) (grind (arith, nat_tests)) (grind (arith, nat_tests)) (high p q)
    | inr most ↦ tests (nat_lt n b) (nat_eq n b) (nat_lt n (suc b)) p q false true true (grind (arith, nat_tests)) (grind (arith, nat_tests)) (grind (arith, nat_tests)) (even p q (same (omega (arith, least, most))))
  ]
]

-- which numbers are among the rows that pass a test
member-all : (b : ℕ) (test : ℕ → Bool) (n : ℕ) → is_member (rows_passing b test) n ≡ (nat_lt n b && test n)
member-all zero test n = let none : nat_lt n 0 ≡ false = grind (arith, nat_tests) in ap (λ (x : Bool). x && test n) (sym none)
member-all (suc b) test n =
    ap (λ (l : List ℕ). is_member l n) (those-suc b test)
    ∙ list_any-append (nat_eq n) (rows_passing b test) (cond (test b) (b ∷ []) [])
    ∙ ap₂ (λ (x y : Bool). x || y) (member-all b test n) (last-member (test b) n b)
    ∙ merge n b (test n) (test b) (λ e. ap test e)

pub member-those : (b : ℕ) (test : ℕ → Bool) (n : ℕ) → n < b → is_member (rows_passing b test) n ≡ test n
member-those b test n lt = let below : nat_lt n b ≡ true = grind (arith, nat_tests) in member-all b test n ∙ ap (λ (x : Bool). x && test n) below

-- what is not below a bound, of a number that may be there
last-out : (t b : ℕ) (x : Bool) → b < t → not_below t (cond x (b ∷ []) []) ≡ []
last-out t b true lt = let below : nat_lt b t ≡ true = grind (arith, nat_tests) in ap (λ (x : Bool). cond (not x) (b ∷ []) []) below
last-out t b false lt = refl

last-in : (t b : ℕ) (x : Bool) → t ≤ b → not_below t (cond x (b ∷ []) []) ≡ cond x (b ∷ []) []
last-in t b true le = let there : nat_lt b t ≡ false = grind (arith, nat_tests) in ap (λ (x : Bool). cond (not x) (b ∷ []) []) there
last-in t b false le = refl

module _ (test : ℕ → Bool) where
  rest-suc : (t b : ℕ) → not_below t (rows_passing (suc b) test) ≡ not_below t (rows_passing b test) ++ not_below t (cond (test b) (b ∷ []) [])
  rest-suc t b = ap (not_below t) (those-suc b test) ∙ filter-append (λ n. not (nat_lt n t)) (rows_passing b test) (cond (test b) (b ∷ []) [])

  pub rest-none : (t b : ℕ) → ((n : ℕ) → t ≤ n → n < b → test n ≡ false) → not_below t (rows_passing b test) ≡ []
  rest-none t zero none = refl
  rest-none t (suc b) none =
      rest-suc t b
      ∙ ap₂ (λ (x y : List ℕ). x ++ y) (rest-none t b (λ n le lt. none n le (omega arith))) (elim (cases_lt b t) [
        | inl below ↦ last-out t b (test b) below
        | inr least ↦ last-in t b (test b) least ∙ ap (λ (x : Bool). cond x (b ∷ []) []) (none b least (omega arith))
      ])

  pub rest-first : (t m b : ℕ) → t ≤ m → test m ≡ true → ((n : ℕ) → t ≤ n → n < m → test n ≡ false) → m < b → not_below t (rows_passing b test) ≡ m ∷ not_below (m + 1) (rows_passing b test)
  rest-first t m zero le is none lt = absurd (omega arith)
  rest-first t m (suc b) le is none lt = elim (cases_lt m b) [
    | inl inside ↦ rest-suc t b ∙ ap₂ (λ (x y : List ℕ). x ++ y) (rest-first t m b le is none inside) (last-in t b (test b) (omega arith) ∙ sym (last-in (m + 1) b (test b) (omega arith)))
        ∙ ap (λ (l : List ℕ). m ∷ l) (sym (rest-suc (m + 1) b))
    | inr most ↦
        let same : b ≡ m = omega (arith, lt, most) in
        rest-suc t b
        ∙ ap₂ (λ (x y : List ℕ). x ++ y) (rest-none t b (λ n low high. none n low (omega (arith, same, high)))) (last-in t b (test b) (omega (arith, same, le)) ∙ ap (λ (k : ℕ). cond (test k) (k ∷ []) []) same ∙ ap (λ (x : Bool). cond x (m ∷ []) []) is)
        ∙ ap (λ (l : List ℕ). m ∷ l) (sym (rest-none (m + 1) (suc b) (λ n low high. absurd (omega (arith, same, low, high)))))
  ]

  pub those-none : (b : ℕ) → ((n : ℕ) → n < b → test n ≡ false) → rows_passing b test ≡ []
  those-none zero none = refl
  those-none (suc b) none =
      those-suc b test ∙ ap₂ (λ (l : List ℕ) (x : Bool). l ++ cond x (b ∷ []) []) (those-none b (λ n lt. none n (omega arith))) (none b (omega arith))

-- the rows that pass a test stand in order and below the bound
last-within : (xs : List ℕ) (b : ℕ) (x : Bool) → All (λ n. n < b) xs → All (λ n. n < suc b) (xs ++ cond x (b ∷ []) [])
last-within xs b true all = All-push (λ n. n < suc b) xs b (λ k d lt. omega (arith, all k d lt)) (omega arith)
last-within xs b false all = subst (λ (l : List ℕ). All (λ n. n < suc b) l) (sym (append-nil xs)) (λ k d lt. omega (arith, all k d lt))

last-ordered : (xs : List ℕ) (b : ℕ) (x : Bool) → All (λ n. n < b) xs → AllPairs ◌<◌ xs → AllPairs ◌<◌ (xs ++ cond x (b ∷ []) [])
last-ordered xs b true all pairs = all_pairs_push ◌<◌ xs b pairs all
last-ordered xs b false all pairs = subst (λ (l : List ℕ). AllPairs ◌<◌ l) (sym (append-nil xs)) pairs

those-within : (b : ℕ) (test : ℕ → Bool) → All (λ n. n < b) (rows_passing b test)
those-within zero test = λ k d lt. absurd (omega arith)
those-within (suc b) test = subst (λ (l : List ℕ). All (λ n. n < suc b) l) (sym (those-suc b test)) (last-within (rows_passing b test) b (test b) (those-within b test))

those-ordered : (b : ℕ) (test : ℕ → Bool) → AllPairs ◌<◌ (rows_passing b test)
those-ordered zero test = λ i j d lt within. absurd (omega arith)
those-ordered (suc b) test = subst (λ (l : List ℕ). AllPairs ◌<◌ l) (sym (those-suc b test)) (last-ordered (rows_passing b test) b (test b) (those-within b test) (those-ordered b test))

abbrev pub set_of : ℕ → List ℕ → TidSet
set_of b ms = record { bound = b; members = ms }

pub tid_set : (b : ℕ) (test : ℕ → Bool) → IsTidSet (set_of b (rows_passing b test))
tid_set b test = record { ordered = those-ordered b test; within = those-within b test }
