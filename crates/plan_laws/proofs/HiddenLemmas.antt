-- A catalogue in which some indexes stand on a table that a query does not read, under the numbers that they had.
use Rattle.std.proofs.Common.{◌≡◌, ◌≢◌, ◌≤◌, ◌<◌, ◌+◌, ℕ, zero, suc, Bool, true, false, cond, ◌||◌, nat_eq, List, [], ◌∷◌, length, filter, get_or, refl, sym, ap, ◌∙◌, arith}
use Rattle.std.specs.List.{items_where_true, list_any}
use Rattle.std.specs.Prelude.{None}
use Rattle.std.proofs.lemmas.Bool.{ne_eqb}
use Rattle.pg_base.specs.declared.numbers.IndexNo.{IndexNo}
use Rattle.pg_base.specs.declared.numbers.TableNo.{TableNo}
use Rattle.catalog.specs.opfamily_classes_Method_TheVariants.{Btree}
use Rattle.catalog.specs.Contents.{TableDef, NamedIndex, index_at, no_index, numbers_from}
use Rattle.catalog.specs.Indexes.{Index}
use Rattle.catalog.specs.Range.{Range}
use Rattle.sql_query.specs.Queries.{Query, width}
use Rattle.plan_tree.specs.Bitmaps.{IsIndexOn, table_of_relation}
use Rattle.plan_laws.specs.Moved.{over}
use Rattle.plan_laws.specs.work.Moved.{is_read}
use Rattle.plan_laws.proofs.ListLemmas.{not-read}

-- an index on the table of a number
abbrev away : ℕ → NamedIndex
away t = record { name = []; index = record { table = record { 0 = t }; method = Btree; keys = []; include = []; predicate = None } }

-- the indexes, with those that are not kept put away
abbrev pub hidden : ℕ → List Bool → List NamedIndex → List NamedIndex
hidden t kept [] = []
hidden t [] (x ∷ xs) = away t ∷ hidden t [] xs
hidden t (b ∷ bs) (x ∷ xs) = cond b x (away t) ∷ hidden t bs xs

-- the index of a number is kept
abbrev pub is_kept : List Bool → IndexNo → Bool
is_kept kept i = get_or kept i.0 false

-- a number that is no table of a range
abbrev pub beyond : Range → ℕ
beyond [] = 0
beyond (x ∷ xs) = suc (x.0.0 + beyond xs)

no-table : (range : Range) (t : ℕ) → beyond range ≤ t → list_any (λ rel. nat_eq t rel.0.0) range ≡ false
no-table [] t le = refl
no-table (x ∷ xs) t le =
    ap (λ (b : Bool). b || list_any (λ rel. nat_eq t rel.0.0) xs) (ne_eqb t x.0.0 (λ e. omega (arith, le, e)))
    ∙ no-table xs t (omega (arith, le))

length-hidden : (t : ℕ) (kept : List Bool) (xs : List NamedIndex) → length (hidden t kept xs) ≡ length xs
length-hidden t kept [] = refl
length-hidden t [] (x ∷ xs) = ap suc (length-hidden t [] xs)
length-hidden t (b ∷ bs) (x ∷ xs) = ap suc (length-hidden t bs xs)

get-hidden : (t : ℕ) (kept : List Bool) (xs : List NamedIndex) (k : ℕ) → k < length xs → get_or (hidden t kept xs) k no_index ≡ cond (get_or kept k false) (get_or xs k no_index) (away t)
get-hidden t kept [] k lt = absurd (omega (arith, lt))
get-hidden t [] (x ∷ xs) zero lt = refl
get-hidden t [] (x ∷ xs) (suc k) lt = get-hidden t [] xs k (omega (arith, lt))
get-hidden t (b ∷ bs) (x ∷ xs) zero lt = refl
get-hidden t (b ∷ bs) (x ∷ xs) (suc k) lt = get-hidden t bs xs k (omega (arith, lt))

-- the numbers of what is kept on another table
module _ (t : ℕ) (table : TableNo) (other : t ≢ table.0) (K : IndexNo → Bool) where
  listed-kept : (k : ℕ) (e : Bool) (is js : List IndexNo) → K (record { 0 = k }) ≡ true → is ≡ filter K js → cond e (record { 0 = k } ∷ is) is ≡ filter K (cond e (record { 0 = k } ∷ js) js)
  listed-kept k true is js at rest = ap (λ (l : List IndexNo). record { 0 = k } ∷ l) rest ∙ ap (λ (c : Bool). cond c (record { 0 = k } ∷ filter K js) (filter K js)) (sym at)
  listed-kept k false is js at rest = rest

  listed-away : (k : ℕ) (e : Bool) (is js : List IndexNo) → K (record { 0 = k }) ≡ false → is ≡ filter K js → cond (nat_eq t table.0) (record { 0 = k } ∷ is) is ≡ filter K (cond e (record { 0 = k } ∷ js) js)
  listed-away k e is js at rest = ap (λ (c : Bool). cond c (record { 0 = k } ∷ is) is) (ne_eqb t table.0 other) ∙ by e
    where
      by : (e : Bool) → is ≡ filter K (cond e (record { 0 = k } ∷ js) js)
      by true = rest ∙ ap (λ (c : Bool). cond c (record { 0 = k } ∷ filter K js) (filter K js)) (sym at)
      by false = rest

  listed-first : (k : ℕ) (x : NamedIndex) (b : Bool) (is js : List IndexNo) → K (record { 0 = k }) ≡ b → is ≡ filter K js → cond (nat_eq (cond b x (away t)).index.table.0 table.0) (record { 0 = k } ∷ is) is ≡ filter K (cond (nat_eq x.index.table.0 table.0) (record { 0 = k } ∷ js) js)
  listed-first k x true is js at rest = listed-kept k (nat_eq x.index.table.0 table.0) is js at rest
  listed-first k x false is js at rest = listed-away k (nat_eq x.index.table.0 table.0) is js at rest

  pub listed-hidden : (k : ℕ) (kept : List Bool) (xs : List NamedIndex) → ((j : ℕ) → K (record { 0 = k + j }) ≡ get_or kept j false) → numbers_from k (hidden t kept xs) table ≡ filter K (numbers_from k xs table)
  listed-hidden k kept [] h = refl
  listed-hidden k [] (x ∷ xs) h = listed-first k x false (numbers_from (k + 1) (hidden t [] xs) table) (numbers_from (k + 1) xs table) (here k h) (listed-hidden (k + 1) [] xs (λ j. later k j ∙ h (suc j)))
    where
      here : (k : ℕ) → ((j : ℕ) → K (record { 0 = k + j }) ≡ get_or [] j false) → K (record { 0 = k }) ≡ false
      here k h = let same : k ≡ k + 0 = omega arith in ap (λ (n : ℕ). K (record { 0 = n })) same ∙ h 0

      later : (k j : ℕ) → K (record { 0 = k + 1 + j }) ≡ K (record { 0 = k + suc j })
      later k j = let same : k + 1 + j ≡ k + suc j = omega arith in ap (λ (n : ℕ). K (record { 0 = n })) same
  listed-hidden k (b ∷ bs) (x ∷ xs) h = listed-first k x b (numbers_from (k + 1) (hidden t bs xs) table) (numbers_from (k + 1) xs table) (here k h) (listed-hidden (k + 1) bs xs (λ j. later k j ∙ h (suc j)))
    where
      here : (k : ℕ) → ((j : ℕ) → K (record { 0 = k + j }) ≡ get_or (b ∷ bs) j false) → K (record { 0 = k }) ≡ b
      here k h = let same : k ≡ k + 0 = omega arith in ap (λ (n : ℕ). K (record { 0 = n })) same ∙ h 0

      later : (k j : ℕ) → K (record { 0 = k + 1 + j }) ≡ K (record { 0 = k + suc j })
      later k j = let same : k + 1 + j ≡ k + suc j = omega arith in ap (λ (n : ℕ). K (record { 0 = n })) same

module _ (tables : List TableDef) (q : Query) (kept : List Bool) (xs : List NamedIndex) where
  -- the indexes of a query, with those that are not kept put away
  abbrev pub left : List NamedIndex
  left = hidden (beyond q.range) kept xs

  not-there : (r : ℕ) → r < width q → beyond q.range ≢ (table_of_relation q r).0
  not-there r lt = not-read q.range (beyond q.range) (no-table q.range (beyond q.range) (omega arith)) r lt

  put-away : is_read q (away (beyond q.range)) ≡ false
  put-away = no-table q.range (beyond q.range) (omega arith)

  same-at : (i : IndexNo) → i.0 < length xs → index_at (over tables left) i ≡ (cond (is_kept kept i) (get_or xs i.0 no_index) (away (beyond q.range))).index
  same-at i lt = ap (λ (x : NamedIndex). x.index) (get-hidden (beyond q.range) kept xs i.0 lt)

  made : (i : IndexNo) → i.0 < length left → i.0 < length xs
  made i lt = let long = length-hidden (beyond q.range) kept xs in omega (arith, lt, long)

  -- the index of a number stays where it is kept
  pub stays-at : (i : IndexNo) → i.0 < length xs → is_kept kept i ≡ true → index_at (over tables left) i ≡ index_at (over tables xs) i
  stays-at i lt k = same-at i lt ∙ ap (λ (b : Bool). (cond b (get_or xs i.0 no_index) (away (beyond q.range))).index) k

  -- an index on a table of the query is kept
  pub on-kept : (r : ℕ) (i : IndexNo) → r < width q → IsIndexOn (over tables left) q r i → is_kept kept i ≡ true
  on-kept r i lt on = by (is_kept kept i) refl
    where
      by : (b : Bool) → is_kept kept i ≡ b → b ≡ true
      by true e = refl
      by false e =
          let at = same-at i (made i on.made) ∙ ap (λ (b : Bool). (cond b (get_or xs i.0 no_index) (away (beyond q.range))).index) e in
          absurd (not-there r lt (ap (λ (d : Index). d.table.0) (sym at) ∙ ap (λ (t : TableNo). t.0) on.table))

  pub on-all : (r : ℕ) (i : IndexNo) → r < width q → IsIndexOn (over tables left) q r i → IsIndexOn (over tables xs) q r i
  on-all r i lt on = record {
    made = made i on.made;
    table = ap (λ (d : Index). d.table) (sym (stays-at i (made i on.made) (on-kept r i lt on))) ∙ on.table;
  }

  pub on-left : (r : ℕ) (i : IndexNo) → is_kept kept i ≡ true → IsIndexOn (over tables xs) q r i → IsIndexOn (over tables left) q r i
  on-left r i k on = record {
    made = let long = length-hidden (beyond q.range) kept xs in let lt : i.0 < length xs = on.made in omega (arith, lt, long);
    table = ap (λ (d : Index). d.table) (stays-at i on.made k) ∙ on.table;
  }

  -- the indexes of a table of the query are those that are kept
  pub left-listed : (r : ℕ) → r < width q → numbers_from 0 left (table_of_relation q r) ≡ filter (is_kept kept) (numbers_from 0 xs (table_of_relation q r))
  left-listed r lt = listed-hidden (beyond q.range) (table_of_relation q r) (not-there r lt) (is_kept kept) 0 kept xs (λ j. ap (λ (n : ℕ). get_or kept n false) (none j))
    where
      none : (j : ℕ) → 0 + j ≡ j
      none j = omega arith

  -- the indexes that the query reads of those that are left are those that it reads of the kept ones
  pub left-read : filter (is_read q) left ≡ filter (is_read q) (items_where_true kept xs)
  left-read = by kept xs
    where
      skip : (ys zs : List NamedIndex) → ys ≡ zs → cond (is_read q (away (beyond q.range))) (away (beyond q.range) ∷ ys) ys ≡ zs
      skip ys zs e = ap (λ (b : Bool). cond b (away (beyond q.range) ∷ ys) ys) put-away ∙ e

      by : (kept : List Bool) (ys : List NamedIndex) → filter (is_read q) (hidden (beyond q.range) kept ys) ≡ filter (is_read q) (items_where_true kept ys)
      by [] [] = refl
      by (b ∷ bs) [] = refl
      by [] (y ∷ ys) = skip (filter (is_read q) (hidden (beyond q.range) [] ys)) [] (by [] ys)
      by (true ∷ bs) (y ∷ ys) = ap (λ (zs : List NamedIndex). cond (is_read q y) (y ∷ zs) zs) (by bs ys)
      by (false ∷ bs) (y ∷ ys) = skip (filter (is_read q) (hidden (beyond q.range) bs ys)) (filter (is_read q) (items_where_true bs ys)) (by bs ys)
