-- What a bitmap may be made of is decided, and where there is room it is no more than fits.
use Rattle.std.proofs.Common.{◌≡◌, ◌≤◌, ◌<◌, ◌+◌, ℕ, zero, suc, Bool, true, false, cond, nat_lt, ltb, ◌||◌, ◌⊎◌, List, [], ◌∷◌, length, map, filter, Option, Some, None, inl, inr, refl, sym, ap, ◌∙◌, subst, arith}
use Rattle.std.specs.List.{AllByRecursion, enumerate_from}
use Rattle.std.proofs.Math.Nat.{zero-add}
use Rattle.std.proofs.lemmas.Bool.Decides.{Decides-ltb}
use Rattle.pg_base.specs.declared.numbers.IndexNo.{IndexNo}
use Rattle.pg_base.specs.declared.numbers.TableNo.{TableNo}
use Rattle.pg_expr.specs.Cond.{Cond, all_of, conds_of}
use Rattle.catalog.specs.Contents.{Contents, index_at, indexes_of, table_at}
use Rattle.catalog.specs.Indexes.{Index}
use Rattle.eq_classes.specs.Clauses.{Clause, ClassTable, Set}
use Rattle.eq_classes.specs.Listing.{clause_at}
use Rattle.eq_classes.specs.Parts.{is_base, is_param}
use Rattle.index_match.specs.Arms.{arms_of, is_matched}
use Rattle.index_match.specs.Conditions.{index_conditions}
use Rattle.index_match.specs.Numbered.{Numbered, base, conditions_of, local, numbered}
use Rattle.index_match.specs.Usable.{IsUsable, IsUsableBy}
use Rattle.sql_query.specs.Queries.{Query, width}
use Rattle.plan_tree.specs.Bitmaps.{ArePicked, none_left, picked, passed, AreElements, Element, by_clause, by_index, IsElement, IsIndexOn, IsMatchedOr, MatchesArm, MOST_ELEMENTS, condition_at, is_or, table_of_relation}
use Rattle.plan_tree.proofs.ElementLemmas.{condition-here}
use Rattle.plan_laws.specs.work.Fewer.{HasRoom, or_clauses}
use Rattle.plan_laws.proofs.DecisionLemmas.{IsDecided, alike, always, both, either, implication-decided, never, same-numbers, three, told}
use Rattle.plan_laws.proofs.PickedLemmas.{few-picked, pick-all}

usable-by : (c : Contents) (t : ClassTable) (r : ℕ) (d : Index) (e : Option Cond) → IsDecided (IsUsableBy c t r d e)
usable-by c t r d None = always tt
usable-by c t r d (Some e) = implication-decided (table_at c d.table).columns (all_of (conds_of (conditions_of (base t r)))) e

usable : (c : Contents) (t : ClassTable) (i : IndexNo) (r : ℕ) → IsDecided (IsUsable c t i r)
usable c t i r = usable-by c t r (index_at c i) (index_at c i).predicate

same-tables : (s t : TableNo) → IsDecided (s ≡ t)
same-tables s t = alike (λ e. ap (λ (n : ℕ). record { 0 = n }) e) (λ e. ap (λ (x : TableNo). x.0) e) (same-numbers s.0 t.0)

below : (m n : ℕ) → IsDecided (m < n)
below m n = record { answer = ltb m n; is = Decides-ltb m n }

-- one below a number
some-below : (P : ℕ → Type 0) → ((n : ℕ) → IsDecided (P n)) → (m : ℕ) → IsDecided ((n : ℕ) × (n < m) × P n)
some-below P d zero = never (λ h. let lt = h.1 in omega (arith, lt))
some-below P d (suc m) = alike join split (either (d m) (some-below P d m))
  where
    join : P m ⊎ ((n : ℕ) × (n < m) × P n) → (n : ℕ) × (n < suc m) × P n
    join (inl h) = (m, omega arith, h)
    join (inr h) = let lt = h.1 in (h.0, omega (arith, lt), h.2)

    by : (n : ℕ) → n < suc m → P n → (n ≡ m) ⊎ (n < m) → P m ⊎ ((k : ℕ) × (k < m) × P k)
    by n lt h (inl e) = inl (subst P e h)
    by n lt h (inr less) = inr (n, less, h)

    split : (n : ℕ) × (n < suc m) × P n → P m ⊎ ((n : ℕ) × (n < m) × P n)
    split h = by h.0 h.1 h.2 (place h.0 m h.1)
      where
        place : (n m : ℕ) → n < suc m → (n ≡ m) ⊎ (n < m)
        place zero zero lt = inl refl
        place zero (suc m) lt = inr (omega arith)
        place (suc n) zero lt = absurd (omega (arith, lt))
        place (suc n) (suc m) lt = next (place n m (omega (arith, lt)))
          where
            next : (n ≡ m) ⊎ (n < m) → (suc n ≡ suc m) ⊎ (suc n < suc m)
            next (inl e) = inl (ap suc e)
            next (inr less) = inr (omega (arith, less))

module _ (c : Contents) (q : Query) (r : ℕ) where
  index-on : (i : IndexNo) → IsDecided (IsIndexOn c q r i)
  index-on i = alike (λ h. record { made = h.0; table = h.1 }) (λ h. (h.made, h.table)) (both (below i.0 (length c.indexes)) (same-tables (index_at c i).table (table_of_relation q r)))

  matches : (arm : Cond) (i : IndexNo) → IsDecided (MatchesArm c q r arm i)
  matches arm i = alike (λ h. record { index = h.0; usable = h.1; matched = h.2 }) (λ h. (h.index, h.usable, h.matched)) (three (index-on i) (usable c q.classes i r) (told (is_matched (index_at c i) r arm)))

  some-match : (arm : Cond) → IsDecided ((i : IndexNo) × MatchesArm c q r arm i)
  some-match arm =
      alike (λ h. (record { 0 = h.0 }, h.2)) (λ h. (h.0.0, h.1.index.made, h.1))
      (some-below (λ n. MatchesArm c q r arm (record { 0 = n })) (λ n. matches arm (record { 0 = n })) (length c.indexes))

  all-match : (arms : List Cond) → IsDecided (AllByRecursion (λ arm. (i : IndexNo) × MatchesArm c q r arm i) arms)
  all-match [] = always tt
  all-match (arm ∷ arms) = both (some-match arm) (all-match arms)

  matched-or : (e : Cond) → IsDecided (IsMatchedOr c q r e)
  matched-or e = alike (λ h. record { is_an_or = h.0; arms = h.1 }) (λ h. (h.is_an_or, h.arms)) (both (told (is_or e)) (all-match (arms_of e)))

  module _ (p : Set) where
    element : (e : Element) → IsDecided (IsElement c q r p e)
    element (by_index i) = both (usable c q.classes i r) (told (nat_lt 0 (length (index_conditions c q.classes i r p))))
    element (by_clause n) = matched-or (condition_at q n)

    -- each relation has its elements
    pub elements-there : (xs : List Element) → (es : List Element) × ArePicked (IsElement c q r p) xs es
    elements-there xs = pick-all (IsElement c q r p) element xs

    -- ORs among numbered clauses
    abbrev numbers-of : (Clause → Bool) → ℕ → List Clause → List Element
    numbers-of test n ks = map (λ (k : Numbered). by_clause k.number) (map (λ (x : ℕ × Clause). numbered (x.0, x.1.cond)) (filter (λ (x : ℕ × Clause). test x.1) (enumerate_from n ks)))

    ors-by : (test : Clause → Bool) (n : ℕ) (k : Clause) (ks : List Clause) → condition_at q n ≡ k.cond →
        ((es : List Element) → ArePicked (IsElement c q r p) (numbers-of test (n + 1) ks) es → length es ≤ length (filter (λ (k : Clause). is_or k.cond) ks)) →
        (es : List Element) (b : Bool) → ArePicked (IsElement c q r p) (map (λ (k : Numbered). by_clause k.number) (map (λ (x : ℕ × Clause). numbered (x.0, x.1.cond)) (cond b ((n, k) ∷ filter (λ (x : ℕ × Clause). test x.1) (enumerate_from (n + 1) ks)) (filter (λ (x : ℕ × Clause). test x.1) (enumerate_from (n + 1) ks))))) es →
        (d : Bool) → is_or k.cond ≡ d → length es ≤ length (cond d (k ∷ filter (λ (k : Clause). is_or k.cond) ks) (filter (λ (k : Clause). is_or k.cond) ks))
    ors-by test n k ks at rest es false h true e = let few = rest es h in omega (arith, few)
    ors-by test n k ks at rest es false h false e = rest es h
    ors-by test n k ks at rest _ true (picked _ _ es is h) true e = let few = rest es h in omega (arith, few)
    ors-by test n k ks at rest _ true (picked _ _ es is h) false e = absurd (none (sym e ∙ sym (ap is_or at) ∙ is.is_an_or))
      where
        none : ¬ (false ≡ true)
        none same = cc
    ors-by test n k ks at rest es true (passed _ _ _ is h) true e = let few = rest es h in omega (arith, few)
    ors-by test n k ks at rest es true (passed _ _ _ is h) false e = rest es h

    ors-most : (test : Clause → Bool) (n : ℕ) (ks : List Clause) → ((j : ℕ) → j < length ks → condition_at q (n + j) ≡ (clause_at ks j).cond) → (es : List Element) → ArePicked (IsElement c q r p) (numbers-of test n ks) es → length es ≤ length (filter (λ (k : Clause). is_or k.cond) ks)
    ors-most test n [] at _ none_left = omega arith
    ors-most test n (k ∷ ks) at es h =
        ors-by test n k ks (let same : n ≡ n + 0 = omega arith in ap (condition_at q) same ∙ at 0 (omega arith))
        (ors-most test (n + 1) ks (λ j lt. let same : n + 1 + j ≡ n + suc j = omega arith in ap (condition_at q) same ∙ at (suc j) (omega (arith, lt))))
        es (test k) h (is_or k.cond) refl

    -- the elements are not more than the indexes of the table and the ORs
    pub few-elements : HasRoom c q → r < width q → (es : List Element) → AreElements c q r p es → length es ≤ MOST_ELEMENTS
    few-elements room lt es h =
        let most = few-picked (IsElement c q r p) (length (or_clauses q)) (map by_index (indexes_of c (table_of_relation q r))) (map (λ (k : Numbered). by_clause k.number) (local q.classes r p)) es
        (ors-most (λ (k : Clause). is_base r k || is_param r p k) 0 q.classes.clauses (λ j at. ap (condition_at q) (zero-add j) ∙ condition-here q.classes.clauses j at)) h in
        let few = room r lt in
        let long = length-mapped (indexes_of c (table_of_relation q r)) in
        omega (arith, most, few, long)
      where
        length-mapped : (is : List IndexNo) → length (map by_index is) ≡ length is
        length-mapped [] = refl
        length-mapped (i ∷ is) = ap suc (length-mapped is)
