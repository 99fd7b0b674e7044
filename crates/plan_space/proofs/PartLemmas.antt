-- Nodes by their places.
use Prim.Native.Nat.{suc, zero}
use Rattle.std.proofs.Common.{◌≡◌, ◌≢◌, ◌<◌, ◌≤◌, ◌+◌, ◌-◌, ℕ, List, ◌∷◌, ◌++◌, get_or, length, refl, sym, ap, ◌∙◌, subst, arith, length-append}
use Rattle.std.proofs.Math.ListN.{get_or-append}
use Rattle.std.proofs.Math.Nat.{lt_of_le_of_lt}
use Rattle.std.proofs.lemmas.List.{get_or-append-add}
use Rattle.catalog.specs.Contents.{Contents}
use Rattle.sql_query.specs.Queries.{Query}
use Rattle.pathkeys.specs.Keys.{Keys}
use Rattle.plan_tree.specs.Plans.{Plan, seq, index, index_only, bitmap, sort, nest, merge}
use Rattle.plan_tree.proofs.BoundLemmas.{merge-most, nest-most, sort-most}
use Rattle.plan_space.specs.Numbered.{line_count, lines_from, nodes, own_numbers, own_pair}
use Rattle.plan_space.specs.work.Parts.{IsPart}

pub line-count : (at : ℕ) (p : Plan) → length (lines_from at p) ≡ nodes p
line-count at (seq r) = refl
line-count at (index r i backward p) = refl
line-count at (index_only r i backward p) = refl
line-count at (bitmap r p bits) = refl
line-count at (sort keys input) = let one = line-count (at + 1) input in omega (arith, one)
line-count at (nest outer inner) =
    let one = line-count (at + 1) outer in
    let other = line-count (at + 1 + line_count outer) inner in
    let both = length-append (lines_from (at + 1) outer) (lines_from (at + 1 + line_count outer) inner) in
    omega (arith, one, other, both)
line-count at (merge keys outer inner) =
    let one = line-count (at + 1) outer in
    let other = line-count (at + 1 + line_count outer) inner in
    let both = length-append (lines_from (at + 1) outer) (lines_from (at + 1 + line_count outer) inner) in
    omega (arith, one, other, both)

pub first-line : (at : ℕ) (p : Plan) → get_or (lines_from at p) 0 0 ≡ at
first-line at (seq r) = refl
first-line at (index r i backward p) = refl
first-line at (index_only r i backward p) = refl
first-line at (bitmap r p bits) = refl
first-line at (sort keys input) = refl
first-line at (nest outer inner) = refl
first-line at (merge keys outer inner) = refl

-- a place behind the first, in the one part of a list or in the other
module _ {A : Type 0} (x d : A) where
  behind : (xs : List A) (n : ℕ) → n ≢ 0 → get_or xs (n - 1) d ≡ get_or (x ∷ xs) n d
  behind xs zero differs = absurd (differs refl)
  behind xs (suc n) differs = let same : suc n - 1 ≡ n = omega arith in ap (λ (k : ℕ). get_or xs k d) same

  in-front : (xs ys : List A) (n m : ℕ) → length xs ≡ m → n ≢ 0 → n - 1 < m → get_or xs (n - 1) d ≡ get_or (x ∷ (xs ++ ys)) n d
  in-front xs ys n m long differs lt = sym (get_or-append xs ys d (n - 1) (omega (arith, long, lt))) ∙ behind (xs ++ ys) n differs

  in-back : (xs ys : List A) (n m : ℕ) → length xs ≡ m → n ≢ 0 → m ≤ n - 1 → get_or ys (n - 1 - m) d ≡ get_or (x ∷ (xs ++ ys)) n d
  in-back xs ys n m long differs le =
      let split : length xs + (n - 1 - m) ≡ n - 1 = omega (arith, long, le) in
      sym (get_or-append-add xs ys (n - 1 - m) d) ∙ (ap (λ (k : ℕ). get_or (xs ++ ys) k d) split ∙ behind (xs ++ ys) n differs)

module _ (c : Contents) (q : Query) where
  pub own-count : (p : Plan) → length (own_numbers c q p) ≡ nodes p
  own-count (seq r) = refl
  own-count (index r i backward p) = refl
  own-count (index_only r i backward p) = refl
  own-count (bitmap r p bits) = refl
  own-count (sort keys input) = let one = own-count input in omega (arith, one)
  own-count (nest outer inner) =
      let one = own-count outer in
      let other = own-count inner in
      let both = length-append (own_numbers c q outer) (own_numbers c q inner) in
      omega (arith, one, other, both)
  own-count (merge keys outer inner) =
      let one = own-count outer in
      let other = own-count inner in
      let both = length-append (own_numbers c q outer) (own_numbers c q inner) in
      omega (arith, one, other, both)

  pub first-own : (p : Plan) → get_or (own_numbers c q p) 0 (0, 0) ≡ own_pair c q p
  first-own (seq r) = refl
  first-own (index r i backward p) = refl
  first-own (index_only r i backward p) = refl
  first-own (bitmap r p bits) = refl
  first-own (sort keys input) = refl
  first-own (nest outer inner) = refl
  first-own (merge keys outer inner) = refl

  pub whole : (p : Plan) (at place : ℕ) → place < nodes p → IsPart c q p at place p at place
  whole p at place lt = record { within = lt; few = omega arith; line = refl; own = refl; costable = λ h. h; admissible = λ some h. h }

  pub further : (p : Plan) (at place : ℕ) (x : Plan) (from n : ℕ) (y : Plan) (to m : ℕ) → IsPart c q p at place x from n → IsPart c q x from n y to m → IsPart c q p at place y to m
  further p at place x from n y to m h k = record {
    within = k.within;
    few = let one = h.few in let other = k.few in omega (arith, one, other);
    line = k.line ∙ h.line;
    own = k.own ∙ h.own;
    costable = λ is. k.costable (h.costable is);
    admissible = λ some is. k.admissible some (h.admissible some is);
  }

  abbrev IsFound : ℕ → ℕ → Plan → ℕ → ℕ → Plan → Type 0
  IsFound at place x from n p = place < nodes p → IsPart c q p at place x from n

  pub of-sort : (p input : Plan) (keys : Keys) (at place : ℕ) → p ≡ sort keys input → place ≢ 0 → place < nodes p → IsPart c q p at place input (at + 1) (place - 1)
  of-sort p input keys at place e differs = subst (IsFound at place input (at + 1) (place - 1)) (sym e) (λ lt. record {
    within = omega (arith, lt, differs);
    few = omega arith;
    line = behind at 0 (lines_from (at + 1) input) place differs;
    own = behind (own_pair c q (sort keys input)) (0, 0) (own_numbers c q input) place differs;
    costable = λ h. h;
    admissible = λ some h. lt_of_le_of_lt (sort-most c q keys input) h;
  })

  pub outer-of-nest : (p outer inner : Plan) (at place n : ℕ) → p ≡ nest outer inner → n ≡ nodes outer → place ≢ 0 → place - 1 < n → place < nodes p → IsPart c q p at place outer (at + 1) (place - 1)
  outer-of-nest p outer inner at place n e count differs low = subst (IsFound at place outer (at + 1) (place - 1)) (sym e) (λ lt. record {
    within = omega (arith, low, count);
    few = omega arith;
    line = in-front at 0 (lines_from (at + 1) outer) (lines_from (at + 1 + line_count outer) inner) place n (line-count (at + 1) outer ∙ sym count) differs low;
    own = in-front (own_pair c q (nest outer inner)) (0, 0) (own_numbers c q outer) (own_numbers c q inner) place n (own-count outer ∙ sym count) differs low;
    costable = λ h. h.0;
    admissible = λ some h. lt_of_le_of_lt (nest-most c q some outer inner).0 h;
  })

  pub outer-of-merge : (p outer inner : Plan) (keys : Keys) (at place n : ℕ) → p ≡ merge keys outer inner → n ≡ nodes outer → place ≢ 0 → place - 1 < n → place < nodes p → IsPart c q p at place outer (at + 1) (place - 1)
  outer-of-merge p outer inner keys at place n e count differs low = subst (IsFound at place outer (at + 1) (place - 1)) (sym e) (λ lt. record {
    within = omega (arith, low, count);
    few = omega arith;
    line = in-front at 0 (lines_from (at + 1) outer) (lines_from (at + 1 + line_count outer) inner) place n (line-count (at + 1) outer ∙ sym count) differs low;
    own = in-front (own_pair c q (merge keys outer inner)) (0, 0) (own_numbers c q outer) (own_numbers c q inner) place n (own-count outer ∙ sym count) differs low;
    costable = λ h. h.2;
    admissible = λ some h. lt_of_le_of_lt (merge-most c q keys outer inner).0 h;
  })

  pub inner-of-nest : (p outer inner : Plan) (at place n l : ℕ) → p ≡ nest outer inner → n ≡ nodes outer → l ≡ line_count outer → place ≢ 0 → n ≤ place - 1 → place < nodes p → IsPart c q p at place inner (at + 1 + l) (place - 1 - n)
  inner-of-nest p outer inner at place n l e count long differs low = subst (IsFound at place inner (at + 1 + l) (place - 1 - n)) (sym e) (λ lt. record {
    within = omega (arith, low, count, differs, lt);
    few = omega (arith, long);
    line = ap (λ (k : ℕ). get_or (lines_from (at + 1 + k) inner) (place - 1 - n) 0) long ∙ in-back at 0 (lines_from (at + 1) outer) (lines_from (at + 1 + line_count outer) inner) place n (line-count (at + 1) outer ∙ sym count) differs low;
    own = in-back (own_pair c q (nest outer inner)) (0, 0) (own_numbers c q outer) (own_numbers c q inner) place n (own-count outer ∙ sym count) differs low;
    costable = λ h. h.1;
    admissible = λ some h. lt_of_le_of_lt (nest-most c q some outer inner).1 h;
  })

  pub inner-of-merge : (p outer inner : Plan) (keys : Keys) (at place n l : ℕ) → p ≡ merge keys outer inner → n ≡ nodes outer → l ≡ line_count outer → place ≢ 0 → n ≤ place - 1 → place < nodes p → IsPart c q p at place inner (at + 1 + l) (place - 1 - n)
  inner-of-merge p outer inner keys at place n l e count long differs low = subst (IsFound at place inner (at + 1 + l) (place - 1 - n)) (sym e) (λ lt. record {
    within = omega (arith, low, count, differs, lt);
    few = omega (arith, long);
    line = ap (λ (k : ℕ). get_or (lines_from (at + 1 + k) inner) (place - 1 - n) 0) long ∙ in-back at 0 (lines_from (at + 1) outer) (lines_from (at + 1 + line_count outer) inner) place n (line-count (at + 1) outer ∙ sym count) differs low;
    own = in-back (own_pair c q (merge keys outer inner)) (0, 0) (own_numbers c q outer) (own_numbers c q inner) place n (own-count outer ∙ sym count) differs low;
    costable = λ h. h.3;
    admissible = λ some h. lt_of_le_of_lt (merge-most c q keys outer inner).1 h;
  })
