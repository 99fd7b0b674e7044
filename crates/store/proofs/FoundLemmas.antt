-- The entries of more rows: those of the first rows, and behind them those of the others.
use Rattle.std.proofs.Common.{◌≡◌, ◌<◌, ◌≤◌, ◌+◌, ◌-◌, ℕ, zero, suc, Bool, true, false, cond, List, [], ◌∷◌, ◌++◌, filter, length, get_or, map, take, refl, sym, ap, ap₂, ◌∙◌, arith}
use Rattle.std.specs.Prelude.{nat_lt, slice_get, Some}
use Rattle.std.specs.List.{range_with_len}
use Rattle.std.proofs.lemmas.Bool.{lt-ltb, le-ltb}
use Rattle.std.proofs.lemmas.List.{append-nil, get_or-take, length-take-le, map-append, take_more}
use Rattle.std.proofs.lemmas.List.Elements.{filter-append}
use Rattle.pg_base.specs.declared.numbers.ColNo.{ColNo}
use Rattle.std.proofs.lemmas.Option.{get_or_from_slice_get}
use Rattle.pg_value.specs.declared.value.Value.{Value}
use Rattle.pg_value.specs.declared.value.Value.TheVariants.{Null}
use Rattle.opfamily.specs.KeyOrder.{IndexEntry, first_value}
use Rattle.opfamily.specs.declared.classes.IndexKey.{IndexKey}
use Rattle.heap.specs.Stored.{Values}
use Rattle.catalog.specs.Indexes.{Index}
use Rattle.hash_index.specs.work.Held.{Held}
use Rattle.plan_tree.specs.Entries.{cell, entry, meets_predicate}
use Rattle.store.specs.work.Kept.{found, held_of}

-- the first numbers from one on, and behind them further ones
range-add : (a m n : ℕ) → range_with_len a (m + n) ≡ range_with_len a m ++ range_with_len (a + m) n
range-add a zero n = ap₂ range_with_len (omega arith) (omega arith)
range-add a (suc m) n =
    let longer : suc m + n ≡ suc (m + n) = omega arith in
    let start : a + 1 + m ≡ a + suc m = omega arith in
    ap (range_with_len a) longer ∙ ap (λ l. a ∷ l) (range-add (a + 1) m n ∙ ap (λ k. range_with_len (a + 1) m ++ range_with_len k n) start)

pub range-more : (a n : ℕ) → range_with_len a (n + 1) ≡ range_with_len a n ++ (a + n) ∷ []
range-more a n = range-add a n 1

-- the entries of n rows from number a on, in the order of the rows
abbrev pub among : Index → List Values → ℕ → ℕ → List IndexEntry
among d rows a n = map (entry d rows) (filter (λ k. meets_predicate d.predicate (get_or rows k [])) (range_with_len a n))

-- the entry of a row by its values
abbrev pub entry_by : Index → Values → ℕ → IndexEntry
entry_by d row n = record { row = n; keys = map (λ (k : IndexKey). cell row k.col) d.keys; include = map (cell row) d.include }

map-cond : {A B : Type 0} (f : A → B) (b : Bool) (x : A) (l : List A) → map f (cond b (x ∷ l) l) ≡ cond b (f x ∷ map f l) (map f l)
map-cond f true x l = refl
map-cond f false x l = refl

among-add : (d : Index) (rows : List Values) (a m n : ℕ) → among d rows a (m + n) ≡ among d rows a m ++ among d rows (a + m) n
among-add d rows a m n =
    let test : ℕ → Bool = λ k. meets_predicate d.predicate (get_or rows k []) in
    ap (λ l. map (entry d rows) (filter test l)) (range-add a m n)
    ∙ ap (map (entry d rows)) (filter-append test (range_with_len a m) (range_with_len (a + m) n))
    ∙ map-append (entry d rows) (filter test (range_with_len a m)) (filter test (range_with_len (a + m) n))

pub among-suc : (d : Index) (rows : List Values) (a n : ℕ) → among d rows a (suc n) ≡ cond (meets_predicate d.predicate (get_or rows a [])) (entry d rows a ∷ among d rows (a + 1) n) (among d rows (a + 1) n)
among-suc d rows a n = map-cond (entry d rows) (meets_predicate d.predicate (get_or rows a [])) a (filter (λ k. meets_predicate d.predicate (get_or rows k [])) (range_with_len (a + 1) n))

-- the entries of the same rows
among-alike : (d : Index) (xs ys : List Values) (a n : ℕ) → ((k : ℕ) → a ≤ k → k < a + n → get_or xs k [] ≡ get_or ys k []) → among d xs a n ≡ among d ys a n
among-alike d xs ys a zero h = refl
among-alike d xs ys a (suc n) h =
    let rest = among-alike d xs ys (a + 1) n (λ k low high. h k (omega arith) (omega arith)) in
    among-suc d xs a n
    ∙ ap₂ (λ (row : Values) (l : List IndexEntry). cond (meets_predicate d.predicate row) (entry_by d row a ∷ l) l) (h a (omega arith) (omega arith)) rest
    ∙ sym (among-suc d ys a n)

-- of entries of rows below a number all stay below it, of entries of rows from it on none
filter-kept : {A : Type 0} (p : A → Bool) (b : Bool) (x : A) (l : List A) → p x ≡ true → filter p l ≡ l → filter p (cond b (x ∷ l) l) ≡ cond b (x ∷ l) l
filter-kept p true x l e h = ap (λ c. cond c (x ∷ filter p l) (filter p l)) e ∙ ap (λ k. x ∷ k) h
filter-kept p false x l e h = h

filter-left : {A : Type 0} (p : A → Bool) (b : Bool) (x : A) (l : List A) → p x ≡ false → filter p l ≡ [] → filter p (cond b (x ∷ l) l) ≡ []
filter-left p true x l e h = ap (λ c. cond c (x ∷ filter p l) (filter p l)) e ∙ h
filter-left p false x l e h = h

all-below : (d : Index) (rows : List Values) (a n end : ℕ) → a + n ≤ end → filter (λ (e : IndexEntry). nat_lt e.row end) (among d rows a n) ≡ among d rows a n
all-below d rows a zero end le = refl
all-below d rows a (suc n) end le =
    let test : IndexEntry → Bool = λ (e : IndexEntry). nat_lt e.row end in
    ap (filter test) (among-suc d rows a n)
    ∙ filter-kept test (meets_predicate d.predicate (get_or rows a [])) (entry d rows a) (among d rows (a + 1) n) (lt-ltb a end (omega arith)) (all-below d rows (a + 1) n end (omega arith))
    ∙ sym (among-suc d rows a n)

none-below : (d : Index) (rows : List Values) (a n end : ℕ) → end ≤ a → filter (λ (e : IndexEntry). nat_lt e.row end) (among d rows a n) ≡ []
none-below d rows a zero end le = refl
none-below d rows a (suc n) end le =
    let test : IndexEntry → Bool = λ (e : IndexEntry). nat_lt e.row end in
    ap (filter test) (among-suc d rows a n)
    ∙ filter-left test (meets_predicate d.predicate (get_or rows a [])) (entry d rows a) (among d rows (a + 1) n) (le-ltb a end le) (none-below d rows (a + 1) n end (omega arith))

-- the entries of all rows
abbrev pub whole : Index → List Values → List IndexEntry
whole d rows = among d rows 0 (length rows)

module _ (d : Index) (rows : List Values) (from : ℕ) (le : from ≤ length rows) where
  -- are those of the first rows, and behind them those of the others
  pub whole-grown : whole d rows ≡ whole d (take from rows) ++ found d rows from
  whole-grown =
      let long : length (take from rows) ≡ from = length-take-le from rows le in
      let parts : length rows ≡ from + (length rows - from) = omega arith in
      let start : 0 + from ≡ from = omega arith in
      ap (among d rows 0) parts
      ∙ among-add d rows 0 from (length rows - from)
      ∙ ap₂ (λ us vs. us ++ vs)
      (sym (among-alike d (take from rows) rows 0 from (λ k low high. get_or-take from rows k [] (omega arith))) ∙ ap (among d (take from rows) 0) (sym long))
      (ap (λ a. among d rows a (length rows - from)) start)

  -- the entries of rows below a number are those of the first rows
  pub whole-cut : filter (λ (e : IndexEntry). nat_lt e.row from) (whole d rows) ≡ whole d (take from rows)
  whole-cut =
      let long : length (take from rows) ≡ from = length-take-le from rows le in
      let test : IndexEntry → Bool = λ (e : IndexEntry). nat_lt e.row from in
      ap (filter test) whole-grown
      ∙ filter-append test (whole d (take from rows)) (found d rows from)
      ∙ ap₂ (λ us vs. us ++ vs) (all-below d (take from rows) 0 (length (take from rows)) from (omega arith)) (none-below d rows from (length rows - from) from (omega arith))
      ∙ append-nil (whole d (take from rows))

-- one more row
pub mapped-next : {A B : Type 0} (f : A → B) (xs : List A) (n : ℕ) (d : A) (vs : List B) (v : B) → n < length xs → vs ≡ map f (take n xs) → v ≡ f (get_or xs n d) → vs ++ v ∷ [] ≡ map f (take (n + 1) xs)
mapped-next f xs n d vs v lt is at =
    ap₂ (λ us u. us ++ u ∷ []) is at ∙ sym (map-append f (take n xs) (get_or xs n d ∷ [])) ∙ sym (ap (map f) (take_more xs n d lt))

pub cell-at : (row : Values) (c : ColNo) (v : Value) → slice_get row c.0 ≡ Some v → v ≡ cell row c
cell-at row c v h = sym (get_or_from_slice_get row c.0 v Null h)

-- one more row
module _ (d : Index) (rows : List Values) (from n : ℕ) (le : from ≤ n) (row : Values) (at : slice_get rows n ≡ Some row) where
  pub same-row : get_or rows n [] ≡ row
  same-row = get_or_from_slice_get rows n row [] at

  among-next : among d rows from (n + 1 - from) ≡ among d rows from (n - from) ++ cond (meets_predicate d.predicate row) (entry_by d row n ∷ []) []
  among-next =
      let count : n + 1 - from ≡ n - from + 1 = omega arith in
      let place : from + (n - from) ≡ n = omega arith in
      ap (among d rows from) count
      ∙ among-add d rows from (n - from) 1
      ∙ ap (λ l. among d rows from (n - from) ++ l) (ap (λ a. among d rows a 1) place ∙ among-suc d rows n 0 ∙ ap (λ (r : Values). cond (meets_predicate d.predicate r) (entry_by d r n ∷ []) []) same-row)

  pub next-left : meets_predicate d.predicate row ≡ false → among d rows from (n + 1 - from) ≡ among d rows from (n - from)
  next-left out = among-next ∙ ap (λ b. among d rows from (n - from) ++ cond b (entry_by d row n ∷ []) []) out ∙ append-nil (among d rows from (n - from))

  pub next-taken : meets_predicate d.predicate row ≡ true → among d rows from (n + 1 - from) ≡ among d rows from (n - from) ++ entry_by d row n ∷ []
  next-taken inside = among-next ∙ ap (λ b. among d rows from (n - from) ++ cond b (entry_by d row n ∷ []) []) inside

  pub entries-left : (es : List IndexEntry) → es ≡ among d rows from (n - from) → (b : Bool) → b ≡ meets_predicate d.predicate row → b ≡ false → es ≡ among d rows from (n + 1 - from)
  entries-left es is b test out = is ∙ sym (next-left (sym test ∙ out))

  pub entries-taken : (es : List IndexEntry) (e : IndexEntry) → es ≡ among d rows from (n - from) → (b : Bool) → b ≡ meets_predicate d.predicate row → b ≡ true → e ≡ entry_by d row n → es ++ e ∷ [] ≡ among d rows from (n + 1 - from)
  entries-taken es e is b test inside of = ap₂ (λ l x. l ++ x ∷ []) is of ∙ sym (next-taken (sym test ∙ inside))

  pub held-left : (hs : List Held) → hs ≡ map held_of (among d rows from (n - from)) → (b : Bool) → b ≡ meets_predicate d.predicate row → b ≡ false → hs ≡ map held_of (among d rows from (n + 1 - from))
  held-left hs is b test out = is ∙ ap (map held_of) (sym (next-left (sym test ∙ out)))

  pub held-taken : (hs : List Held) (h : Held) → hs ≡ map held_of (among d rows from (n - from)) → (b : Bool) → b ≡ meets_predicate d.predicate row → b ≡ true → h ≡ held_of (entry_by d row n) → hs ++ h ∷ [] ≡ map held_of (among d rows from (n + 1 - from))
  held-taken hs h is b test inside of =
      ap₂ (λ l x. l ++ x ∷ []) is of ∙ sym (map-append held_of (among d rows from (n - from)) (entry_by d row n ∷ [])) ∙ ap (map held_of) (sym (next-taken (sym test ∙ inside)))

-- the entry of a row from its parts
pub entry-made : (d : Index) (row : Values) (n : ℕ) (ks : List IndexKey) (cs : List ColNo) (vs ws : List Value) → ks ≡ d.keys → vs ≡ map (λ (k : IndexKey). cell row k.col) ks → cs ≡ d.include → ws ≡ map (cell row) cs
    → (e : IndexEntry) → e ≡ record { row = n; keys = vs; include = ws } → e ≡ entry_by d row n
entry-made d row n ks cs vs ws keys values columns included e is =
    is ∙ ap₂ (λ (a b : List Value). record { row = n; keys = a; include = b }) (values ∙ ap (map (λ (k : IndexKey). cell row k.col)) keys) (included ∙ ap (map (cell row)) columns)

first-is : (ks : List IndexKey) (row : Values) (d : IndexKey) → 0 < length ks → first_value (map (λ (k : IndexKey). cell row k.col) ks) ≡ cell row (get_or ks 0 d).col
first-is [] row d lt = absurd (omega (arith, lt))
first-is (k ∷ ks) row d lt = refl

pub held-made : (d : Index) (row : Values) (n : ℕ) (k : IndexKey) → k ≡ get_or d.keys 0 k → 0 < length d.keys → (v : Value) → v ≡ cell row k.col → (h : Held) → h ≡ record { value = v; row = n } → h ≡ held_of (entry_by d row n)
held-made d row n k first some v at h is = is ∙ ap (λ (x : Value). record { value = x; row = n }) (at ∙ ap (λ (x : IndexKey). cell row x.col) first ∙ sym (first-is d.keys row k some))
