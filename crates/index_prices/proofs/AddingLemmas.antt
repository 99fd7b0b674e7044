-- Candidates of a set, added one after another: each next one is acceptable.
use Rattle.std.proofs.Common.{◌≡◌, ◌<◌, ◌≤◌, ◌+◌, ◌++◌, ℕ, zero, suc, Bool, true, false, cond, nat_eq, List, [], ◌∷◌, length, take, get_or, Contains, refl, sym, ap, ◌∙◌, subst, arith, inl, inr}
use Rattle.std.specs.List.{take-map}
use Rattle.std.proofs.lemmas.List.{get_or-map, length-map, map-append, take_all, take_more}
use Rattle.std.proofs.lemmas.List.Elements.{Contains-append_cases, Contains-append_left, Contains-append_right}
use Rattle.std.proofs.lemmas.Bool.{eq-eqb}
use Rattle.pg_base.specs.declared.limits.TheConstants.{MOST_INDEXES}
use Rattle.pg_base.specs.declared.numbers.TableNo.{TableNo}
use Rattle.catalog.specs.Contents.{Contents, NamedIndex, indexes_of, numbers_from, table_names, with_index}
use Rattle.catalog.specs.Tables.{IsAcceptableIndex, IsUnused}
use Rattle.catalog.specs.work.Tables.{Fits}
use Rattle.catalog.proofs.NameLaws.{fresh}
use Rattle.plan_laws.specs.Moved.{added_from, over}
use Rattle.catalog.specs.work.Candidates.{AreCandidateIndexes, IsCandidateIndex, names_of}
use Rattle.index_prices.specs.Candidates.{with_added}

-- how many of some indexes are on a table
abbrev held : ℕ → List NamedIndex → ℕ
held t [] = 0
held t (x ∷ xs) = cond (nat_eq x.index.table.0 t) (suc (held t xs)) (held t xs)

length-numbers : (k : ℕ) (xs : List NamedIndex) (t : TableNo) → length (numbers_from k xs t) ≡ held t.0 xs
length-numbers k [] t = refl
length-numbers k (x ∷ xs) t = by (nat_eq x.index.table.0 t.0) (length-numbers (k + 1) xs t)
  where
    by : (b : Bool) → length (numbers_from (k + 1) xs t) ≡ held t.0 xs → length (cond b (record { 0 = k } ∷ numbers_from (k + 1) xs t) (numbers_from (k + 1) xs t)) ≡ cond b (suc (held t.0 xs)) (held t.0 xs)
    by true e = ap suc e
    by false e = e

held-append : (t : ℕ) (xs ys : List NamedIndex) → held t (xs ++ ys) ≡ held t xs + held t ys
held-append t [] ys = none (held t ys)
  where
    none : (n : ℕ) → n ≡ 0 + n
    none n = omega arith
held-append t (x ∷ xs) ys = by (nat_eq x.index.table.0 t) (held-append t xs ys)
  where
    by : (b : Bool) → held t (xs ++ ys) ≡ held t xs + held t ys → cond b (suc (held t (xs ++ ys))) (held t (xs ++ ys)) ≡ cond b (suc (held t xs)) (held t xs) + held t ys
    by true e = omega (arith, e)
    by false e = e

held-added : (t n : ℕ) (s : ℕ → Bool) (xs : List NamedIndex) → held t (added_from n s xs) ≤ held t xs
held-added t n s [] = omega arith
held-added t n s (x ∷ xs) = by (s n) (nat_eq x.index.table.0 t) refl (held-added t (n + 1) s xs)
  where
    by : (b d : Bool) → nat_eq x.index.table.0 t ≡ d → held t (added_from (n + 1) s xs) ≤ held t xs → held t (cond b (x ∷ added_from (n + 1) s xs) (added_from (n + 1) s xs)) ≤ cond d (suc (held t xs)) (held t xs)
    by true true e h = let same = ap (λ (d : Bool). cond d (suc (held t (added_from (n + 1) s xs))) (held t (added_from (n + 1) s xs))) e in omega (arith, h, same)
    by true false e h = let same = ap (λ (d : Bool). cond d (suc (held t (added_from (n + 1) s xs))) (held t (added_from (n + 1) s xs))) e in omega (arith, h, same)
    by false true e h = omega (arith, h)
    by false false e h = h

-- the indexes on a table that stand before one of them are fewer
held-before : (t : ℕ) (xs : List NamedIndex) (j : ℕ) (d : NamedIndex) → j < length xs → (get_or xs j d).index.table.0 ≡ t → held t (take j xs) < held t xs
held-before t [] j d lt e = absurd (omega (arith, lt))
held-before t (x ∷ xs) zero d lt e = let here = ap (λ (b : Bool). cond b (suc (held t xs)) (held t xs)) (eq-eqb x.index.table.0 t e) in omega (arith, here)
held-before t (x ∷ xs) (suc j) d lt e = by (nat_eq x.index.table.0 t) (held-before t xs j d (omega (arith, lt)) e)
  where
    by : (b : Bool) → held t (take j xs) < held t xs → cond b (suc (held t (take j xs))) (held t (take j xs)) < cond b (suc (held t xs)) (held t xs)
    by true h = omega (arith, h)
    by false h = h

-- the names of added candidates are candidates' names
named-added : (n : ℕ) (s : ℕ → Bool) (xs : List NamedIndex) (name : List ℕ) → Contains (names_of (added_from n s xs)) name → Contains (names_of xs) name
named-added n s [] name h = h
named-added n s (x ∷ xs) name h = by (s n) (named-added (n + 1) s xs name) h
  where
    by : (b : Bool) → (Contains (names_of (added_from (n + 1) s xs)) name → Contains (names_of xs) name) → Contains (names_of (cond b (x ∷ added_from (n + 1) s xs) (added_from (n + 1) s xs))) name → Contains (names_of (x ∷ xs)) name
    by true rest k = elim (Contains-append_cases (x.name ∷ []) (names_of (added_from (n + 1) s xs)) name k) [
      | inl here ↦ Contains-append_left (x.name ∷ []) (names_of xs) name here
      | inr later ↦ Contains-append_right (x.name ∷ []) (names_of xs) name (rest later)
    ]
    by false rest k = Contains-append_right (x.name ∷ []) (names_of xs) name (rest k)

-- one more candidate from the front, where the set has it and where it has not
added-push : (n : ℕ) (s : ℕ → Bool) (xs : List NamedIndex) (x : NamedIndex) (b : Bool) → s (n + length xs) ≡ b → added_from n s (xs ++ x ∷ []) ≡ added_from n s xs ++ cond b (x ∷ []) []
added-push n s [] x b e = let same : n ≡ n + 0 = omega arith in ap (λ (c : Bool). cond c (x ∷ []) []) (ap s same ∙ e)
added-push n s (y ∷ ys) x b e =
    let same : n + 1 + length ys ≡ n + length (y ∷ ys) = omega arith in
    by (s n) (added-push (n + 1) s ys x b (ap s same ∙ e))
  where
    by : (c : Bool) → added_from (n + 1) s (ys ++ x ∷ []) ≡ added_from (n + 1) s ys ++ cond b (x ∷ []) [] → cond c (y ∷ added_from (n + 1) s (ys ++ x ∷ [])) (added_from (n + 1) s (ys ++ x ∷ [])) ≡ cond c (y ∷ added_from (n + 1) s ys) (added_from (n + 1) s ys) ++ cond b (x ∷ []) []
    by true h = ap (λ (zs : List NamedIndex). y ∷ zs) h
    by false h = h

pub append-none : (xs : List NamedIndex) → xs ++ [] ≡ xs
append-none [] = refl
append-none (x ∷ xs) = ap (λ (ys : List NamedIndex). x ∷ ys) (append-none xs)

append-three : (xs ys zs : List NamedIndex) → (xs ++ ys) ++ zs ≡ xs ++ (ys ++ zs)
append-three [] ys zs = refl
append-three (x ∷ xs) ys zs = ap (λ (us : List NamedIndex). x ∷ us) (append-three xs ys zs)

module _ (xs : List NamedIndex) (s : ℕ → Bool) (j : ℕ) (x : NamedIndex) (lt : j < length xs) (is : x ≡ get_or xs j x) where
  place : s (0 + length (take j xs)) ≡ s j
  place = ap s (number (length-front j xs lt))
    where
      number : length (take j xs) ≡ j → 0 + length (take j xs) ≡ j
      number e = omega (arith, e)

      length-front : (j : ℕ) (ys : List NamedIndex) → j < length ys → length (take j ys) ≡ j
      length-front j [] l = absurd (omega (arith, l))
      length-front zero (y ∷ ys) l = refl
      length-front (suc j) (y ∷ ys) l = ap suc (length-front j ys (omega (arith, l)))

  more : take (j + 1) xs ≡ take j xs ++ x ∷ []
  more = take_more xs j x lt ∙ ap (λ (y : NamedIndex). take j xs ++ y ∷ []) (sym is)

  -- the next candidate, where the set has it
  pub added-one : (b : Bool) → s j ≡ b → added_from 0 s (take (j + 1) xs) ≡ added_from 0 s (take j xs) ++ cond b (x ∷ []) []
  added-one b e = ap (added_from 0 s) more ∙ added-push 0 s (take j xs) x b (place ∙ e)

module _ (c : Contents) (xs : List NamedIndex) (s : ℕ → Bool) where
  -- the catalogue with those of the first candidates that the set has
  abbrev pub so_far : ℕ → Contents
  so_far j = with_added c (take j xs) s

  -- none of them
  pub none-yet : so_far 0 ≡ c
  none-yet = ap (over c.tables) (append-none c.indexes)

  -- all of them
  pub all-done : (j : ℕ) → length xs ≤ j → so_far j ≡ with_added c xs s
  all-done j le = ap (λ (ys : List NamedIndex). with_added c ys s) (take_all j xs le)

  module _ (j : ℕ) (x : NamedIndex) (lt : j < length xs) (is : x ≡ get_or xs j x) where
    -- the next one, where the set has it
    pub with-next : s j ≡ true → with_index (so_far j) x.name x.index ≡ so_far (j + 1)
    with-next e = ap (over c.tables) (append-three c.indexes (added_from 0 s (take j xs)) (x ∷ []) ∙ ap (λ (ys : List NamedIndex). c.indexes ++ ys) (sym (added-one xs s j x lt is true e)))

    -- the next candidate, where the set has it not
    pub without-next : s j ≡ false → so_far j ≡ so_far (j + 1)
    without-next e = ap (λ (ys : List NamedIndex). over c.tables (c.indexes ++ ys)) (sym (append-none (added_from 0 s (take j xs))) ∙ sym (added-one xs s j x lt is false e))

    module _ (h : AreCandidateIndexes c xs) where
      pub candidate : IsCandidateIndex c x
      candidate = subst (IsCandidateIndex c) (sym is) (h.each j x lt)

      pub fits : Fits (so_far j) x.index
      fits = record { table = candidate.fits.table; columns = candidate.fits.columns }

      named : get_or (names_of xs) j x.name ≡ x.name
      named = get_or-map (λ (y : NamedIndex). y.name) xs j x x.name lt ∙ ap (λ (y : NamedIndex). y.name) (sym is)

      unused : IsUnused (so_far j) x.name
      unused among = elim (Contains-append_cases (table_names c) (names_of (c.indexes ++ added_from 0 s (take j xs))) x.name among) [
        | inl table ↦ candidate.free (Contains-append_left (table_names c) (names_of c.indexes) x.name table)
        | inr index ↦ elim (Contains-append_cases (names_of c.indexes) (names_of (added_from 0 s (take j xs))) x.name (subst (λ (ns : List (List ℕ)). Contains ns x.name) (map-append (λ (y : NamedIndex). y.name) c.indexes (added_from 0 s (take j xs))) index)) [
          | inl old ↦ candidate.free (Contains-append_right (table_names c) (names_of c.indexes) x.name old)
          | inr new ↦ twice (named-added 0 s (take j xs) x.name new)
        ]
      ]
        where
          twice : Contains (names_of (take j xs)) x.name → ⊥
          twice k =
              let long = length-map xs (λ (y : NamedIndex). y.name) in
              fresh (names_of xs) j x.name (omega (arith, lt, long)) named h.apart (subst (λ (ns : List (List ℕ)). Contains ns x.name) (sym (take-map (λ (y : NamedIndex). y.name) j xs)) k)

      room : length (indexes_of (so_far j) x.index.table) < MOST_INDEXES
      room =
          let t = x.index.table in
          let now = length-numbers 0 (c.indexes ++ added_from 0 s (take j xs)) t ∙ held-append t.0 c.indexes (added_from 0 s (take j xs)) in
          let all = length-numbers 0 (c.indexes ++ xs) t ∙ held-append t.0 c.indexes xs in
          let few = held-added t.0 0 s (take j xs) in
          let fewer = held-before t.0 xs j x lt (ap (λ (y : NamedIndex). y.index.table.0) (sym is)) in
          let most = h.room t in
          omega (arith, now, all, few, fewer, most)

      -- the next candidate is an acceptable index
      pub acceptable : IsAcceptableIndex (so_far j) x.name x.index
      acceptable = record { free = unused; distinct = candidate.distinct; room = room; form = candidate.form }
