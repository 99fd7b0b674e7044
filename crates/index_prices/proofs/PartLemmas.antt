-- The catalogue with a part of a set of candidates has a part of the indexes that it has with the set.
use Rattle.std.proofs.Common.{◌≡◌, ◌<◌, ◌+◌, ◌++◌, ◌⊎◌, ℕ, zero, suc, Bool, true, false, cond, List, [], ◌∷◌, length, map, get_or, inl, inr, refl, sym, ap, ◌∙◌, subst, arith, true≢false}
use Rattle.std.specs.List.{items_where_true}
use Rattle.pg_base.specs.Sets.{has}
use Rattle.advisor.specs.work.Choices.{IsPart}
use Rattle.catalog.specs.Contents.{Contents, NamedIndex, no_index}
use Rattle.sql_query.specs.Queries.{Query}
use Rattle.plan_tree.specs.Costs.{price}
use Rattle.plan_tree.specs.Least.{IsBestPlan, HasNoPlan}
use Rattle.plan_tree.specs.Plans.{Plan}
use Rattle.plan_laws.specs.work.Fewer.{HasRoom, KeepsRead}
use Rattle.plan_laws.specs.Moved.{HasPrice, added_from, over}
use Rattle.plan_laws.proofs.KeptPlanLemmas.{none-left, price-left}
use Rattle.index_prices.specs.Candidates.{with_added}
use Rattle.index_prices.specs.work.Quotes.{HasAllRead}

-- of the candidates of a set, which are of another one
abbrev flags : ℕ → (ℕ → Bool) → (ℕ → Bool) → List NamedIndex → List Bool
flags n s t [] = []
flags n s t (x ∷ xs) = cond (s n) (t n ∷ flags (n + 1) s t xs) (flags (n + 1) s t xs)

picked-added : (n : ℕ) (s t : ℕ → Bool) (xs : List NamedIndex) → ((k : ℕ) → t k ≡ true → s k ≡ true) → items_where_true (flags n s t xs) (added_from n s xs) ≡ added_from n t xs
picked-added n s t [] part = refl
picked-added n s t (x ∷ xs) part = by (picked-added (n + 1) s t xs part) (s n) (t n) refl refl
  where
    by : items_where_true (flags (n + 1) s t xs) (added_from (n + 1) s xs) ≡ added_from (n + 1) t xs → (b d : Bool) → s n ≡ b → t n ≡ d →
        items_where_true (cond b (t n ∷ flags (n + 1) s t xs) (flags (n + 1) s t xs)) (cond b (x ∷ added_from (n + 1) s xs) (added_from (n + 1) s xs)) ≡ cond d (x ∷ added_from (n + 1) t xs) (added_from (n + 1) t xs)
    by rest true true e f = ap (λ (b : Bool). items_where_true (b ∷ flags (n + 1) s t xs) (x ∷ added_from (n + 1) s xs)) f ∙ ap (λ (ys : List NamedIndex). x ∷ ys) rest
    by rest true false e f = ap (λ (b : Bool). items_where_true (b ∷ flags (n + 1) s t xs) (x ∷ added_from (n + 1) s xs)) f ∙ rest
    by rest false true e f = absurd (true≢false (sym (part n f) ∙ e))
    by rest false false e f = rest

-- all of a list, and some of another behind it
abbrev kept_behind : List NamedIndex → List Bool → List Bool
kept_behind xs fs = map (λ (x : NamedIndex). true) xs ++ fs

picked-behind : (xs ys : List NamedIndex) (fs : List Bool) → items_where_true (kept_behind xs fs) (xs ++ ys) ≡ xs ++ items_where_true fs ys
picked-behind [] ys fs = refl
picked-behind (x ∷ xs) ys fs = ap (λ (zs : List NamedIndex). x ∷ zs) (picked-behind xs ys fs)

-- a place is one of the second list
record IsBehind (xs ys : List NamedIndex) (fs : List Bool) (k : ℕ) : Type 0 where
  pub place : ℕ
  pub within : place < length ys
  pub flag : get_or (kept_behind xs fs) k false ≡ get_or fs place false
  pub item : get_or (xs ++ ys) k no_index ≡ get_or ys place no_index

behind-next : (x : NamedIndex) (xs ys : List NamedIndex) (fs : List Bool) (k : ℕ) → (get_or (kept_behind xs fs) k false ≡ true) ⊎ IsBehind xs ys fs k → (get_or (kept_behind (x ∷ xs) fs) (suc k) false ≡ true) ⊎ IsBehind (x ∷ xs) ys fs (suc k)
behind-next x xs ys fs k (inl e) = inl e
behind-next x xs ys fs k (inr h) = inr (record { place = h.place; within = h.within; flag = h.flag; item = h.item })

kept-at : (xs ys : List NamedIndex) (fs : List Bool) (k : ℕ) → k < length (xs ++ ys) → (get_or (kept_behind xs fs) k false ≡ true) ⊎ IsBehind xs ys fs k
kept-at [] ys fs k lt = inr (record { place = k; within = lt; flag = refl; item = refl })
kept-at (x ∷ xs) ys fs zero lt = inl refl
kept-at (x ∷ xs) ys fs (suc k) lt = behind-next x xs ys fs k (kept-at xs ys fs k (omega (arith, lt)))

-- the candidate that stands at a place among those of a set
record IsAdded (n : ℕ) (s t : ℕ → Bool) (xs : List NamedIndex) (place : ℕ) : Type 0 where
  pub number : ℕ
  pub candidate : number < length xs
  pub member : s (n + number) ≡ true
  pub item : get_or (added_from n s xs) place no_index ≡ get_or xs number no_index
  pub flag : get_or (flags n s t xs) place false ≡ t (n + number)

next-number : (n k : ℕ) → n + 1 + k ≡ n + suc k
next-number n k = omega arith

first-number : (n : ℕ) → n ≡ n + 0
first-number n = omega arith

added-at : (n : ℕ) (s t : ℕ → Bool) (xs : List NamedIndex) (place : ℕ) → place < length (added_from n s xs) → IsAdded n s t xs place
added-at n s t [] place lt = absurd (omega (arith, lt))
added-at n s t (x ∷ xs) place lt = by (s n) refl place lt (λ k small. added-at (n + 1) s t xs k small)
  where
    later : (b : Bool) (k place : ℕ) → get_or (cond b (x ∷ added_from (n + 1) s xs) (added_from (n + 1) s xs)) place no_index ≡ get_or (added_from (n + 1) s xs) k no_index → get_or (cond b (t n ∷ flags (n + 1) s t xs) (flags (n + 1) s t xs)) place false ≡ get_or (flags (n + 1) s t xs) k false → s n ≡ b →
        IsAdded (n + 1) s t xs k → IsAdded n s t (x ∷ xs) place
    later b k place item flag e h = record {
      number = suc h.number;
      candidate = let small : h.number < length xs = h.candidate in omega (arith, small);
      member = ap s (sym (next-number n h.number)) ∙ h.member;
      item = ap (λ (c : Bool). get_or (cond c (x ∷ added_from (n + 1) s xs) (added_from (n + 1) s xs)) place no_index) e ∙ item ∙ h.item;
      flag = ap (λ (c : Bool). get_or (cond c (t n ∷ flags (n + 1) s t xs) (flags (n + 1) s t xs)) place false) e ∙ flag ∙ h.flag ∙ ap t (next-number n h.number);
    }

    by : (b : Bool) → s n ≡ b → (place : ℕ) → place < length (cond b (x ∷ added_from (n + 1) s xs) (added_from (n + 1) s xs)) → ((k : ℕ) → k < length (added_from (n + 1) s xs) → IsAdded (n + 1) s t xs k) → IsAdded n s t (x ∷ xs) place
    by true e zero small rec = record {
      number = 0;
      candidate = omega arith;
      member = ap s (sym (first-number n)) ∙ e;
      item = ap (λ (c : Bool). get_or (cond c (x ∷ added_from (n + 1) s xs) (added_from (n + 1) s xs)) 0 no_index) e;
      flag = ap (λ (c : Bool). get_or (cond c (t n ∷ flags (n + 1) s t xs) (flags (n + 1) s t xs)) 0 false) e ∙ ap t (first-number n);
    }
    by true e (suc k) small rec = later true k (suc k) refl refl e (rec k (omega (arith, small)))
    by false e k small rec = later false k k refl refl e (rec k small)

module _ (c : Contents) (candidates : List NamedIndex) (s t : ℕ → Bool) where
  -- which indexes of the catalogue with a set it has with another
  abbrev kept_of : List Bool
  kept_of = kept_behind c.indexes (flags 0 s t candidates)

  part-is : ((k : ℕ) → t k ≡ true → s k ≡ true) → items_where_true kept_of (c.indexes ++ added_from 0 s candidates) ≡ c.indexes ++ added_from 0 t candidates
  part-is part = picked-behind c.indexes (added_from 0 s candidates) (flags 0 s t candidates) ∙ ap (λ (xs : List NamedIndex). c.indexes ++ xs) (picked-added 0 s t candidates part)

module _ (c : Contents) (candidates : List NamedIndex) (q : Query) (set part : ℕ) (within : IsPart part set) (room : HasRoom (with_added c candidates (has set)) q) where
  kept-read : (p : Plan) (used : ℕ) → HasAllRead (with_added c candidates (has set)) candidates set p (length candidates) used → IsPart used part → KeepsRead (with_added c candidates (has set)) p (kept_of c candidates (has set) (has part))
  kept-read p used all of i made is = by (kept-at c.indexes (added_from 0 (has set) candidates) (flags 0 (has set) (has part) candidates) i.0 made)
    where
      by : (get_or (kept_of c candidates (has set) (has part)) i.0 false ≡ true) ⊎ IsBehind c.indexes (added_from 0 (has set) candidates) (flags 0 (has set) (has part) candidates) i.0 → get_or (kept_of c candidates (has set) (has part)) i.0 false ≡ true
      by (inl e) = e
      by (inr h) =
          let a = added-at 0 (has set) (has part) candidates h.place h.within in
          let here : 0 + a.number ≡ a.number = omega arith in
          let member = ap (has set) (sym here) ∙ a.member in
          let named = ap (λ (x : NamedIndex). x.name) (h.item ∙ a.item) in
          h.flag ∙ a.flag ∙ ap (has part) here ∙ of a.number (all a.number i a.candidate member (made, named) is)

  -- the price that a plan has is the least with each part of the set that has what it reads
  pub price-between : (p : Plan) (used : ℕ) → IsBestPlan (with_added c candidates (has set)) q p → HasAllRead (with_added c candidates (has set)) candidates set p (length candidates) used → IsPart used part → HasPrice (with_added c candidates (has part)) q (price (with_added c candidates (has set)) q p)
  price-between p used best all of =
      subst (λ (xs : List NamedIndex). HasPrice (over c.tables xs) q (price (with_added c candidates (has set)) q p)) (part-is c candidates (has set) (has part) within)
      (price-left c.tables q (kept_of c candidates (has set) (has part)) (c.indexes ++ added_from 0 (has set) candidates) room p best (kept-read p used all of))

  -- where there is none with the set there is none with a part of it
  pub none-between : HasNoPlan (with_added c candidates (has set)) q → HasNoPlan (with_added c candidates (has part)) q
  none-between none =
      subst (λ (xs : List NamedIndex). HasNoPlan (over c.tables xs) q) (part-is c candidates (has set) (has part) within)
      (none-left c.tables q (kept_of c candidates (has set) (has part)) (c.indexes ++ added_from 0 (has set) candidates) room none)
