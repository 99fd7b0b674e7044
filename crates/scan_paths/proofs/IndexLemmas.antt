-- The indexes of a table are those of its list.
use Rattle.std.proofs.Common.{◌≡◌, ◌<◌, ◌+◌, ℕ, zero, suc, Bool, true, false, cond, nat_eq, List, [], ◌∷◌, length, slice_index_or, refl, ◌∙◌, ap, arith}
use Rattle.std.specs.Prelude.{All, Contains}
use Rattle.std.proofs.lemmas.Bool.{eq-eqb, eqb-true}
use Rattle.std.proofs.lemmas.List.Elements.{All-cons, All-nil, Contains-append_right}
use Rattle.pg_base.specs.declared.numbers.IndexNo.{IndexNo}
use Rattle.pg_base.specs.declared.numbers.TableNo.{TableNo}
use Rattle.catalog.specs.Contents.{Contents, IsIndex, NamedIndex, index_at, indexes_of, no_index, numbers_from}
use Rattle.sql_query.specs.Queries.{Query}
use Rattle.plan_tree.specs.Bitmaps.{IsIndexOn, table_of_relation}

contains-either : (b : Bool) (x : IndexNo) (xs : List IndexNo) (i : IndexNo) → Contains xs i → Contains (cond b (x ∷ xs) xs) i
contains-either true x xs i h = Contains-append_right (x ∷ []) xs i h
contains-either false x xs i h = h

-- an index of the table, at its place, is one of the numbers
listed : (n : ℕ) (xs : List NamedIndex) (t : TableNo) (k : ℕ) (i : IndexNo) → k < length xs → i.0 ≡ n + k → (slice_index_or xs k no_index).index.table ≡ t → Contains (numbers_from n xs t) i
listed n [] t k i lt at e = absurd (omega (arith, lt))
listed n (x ∷ xs) t zero i lt at e = by (nat_eq x.index.table.0 t.0) (eq-eqb x.index.table.0 t.0 (ap (λ (s : TableNo). s.0) e))
  where
    same : n ≡ i.0
    same = omega (arith, at)

    by : (b : Bool) → b ≡ true → Contains (cond b (record { 0 = n } ∷ numbers_from (n + 1) xs t) (numbers_from (n + 1) xs t)) i
    by true is = (0, omega arith, ap (λ (m : ℕ). let j : IndexNo = record { 0 = m } in j) same)
    by false is = cc
listed n (x ∷ xs) t (suc k) i lt at e =
    contains-either (nat_eq x.index.table.0 t.0) (record { 0 = n }) (numbers_from (n + 1) xs t) i
    (listed (n + 1) xs t k i (omega (arith, lt)) (omega (arith, at)) e)

pub index-listed : (c : Contents) (i : IndexNo) (t : TableNo) → IsIndex c i → (index_at c i).table ≡ t → Contains (indexes_of c t) i
index-listed c i t lt e = listed 0 c.indexes t i.0 i lt (omega arith) e

-- each of the numbers is that of an index of the table
each-listed : (P : IndexNo → Type 0) (n : ℕ) (xs : List NamedIndex) (t : TableNo) → ((k : ℕ) (i : IndexNo) → k < length xs → i.0 ≡ n + k → (slice_index_or xs k no_index).index.table ≡ t → P i) → All P (numbers_from n xs t)
each-listed P n [] t h = All-nil P
each-listed P n (x ∷ xs) t h = by (nat_eq x.index.table.0 t.0) refl (each-listed P (n + 1) xs t (λ k i lt at e. h (suc k) i (omega (arith, lt)) (omega (arith, at)) e))
  where
    by : (b : Bool) → nat_eq x.index.table.0 t.0 ≡ b → All P (numbers_from (n + 1) xs t) → All P (cond b (record { 0 = n } ∷ numbers_from (n + 1) xs t) (numbers_from (n + 1) xs t))
    by true is later = All-cons P (record { 0 = n }) (numbers_from (n + 1) xs t) (h 0 (record { 0 = n }) (omega arith) (omega arith) (ap (λ (m : ℕ). let s : TableNo = record { 0 = m } in s) (eqb-true x.index.table.0 t.0 is))) later
    by false is later = later

pub all-on : (c : Contents) (q : Query) (r : ℕ) → All (IsIndexOn c q r) (indexes_of c (table_of_relation q r))
all-on c q r = each-listed (IsIndexOn c q r) 0 c.indexes (table_of_relation q r) (λ k i lt at e.
    let same : i.0 ≡ k = omega (arith, at) in
    record { made = omega (arith, lt, same); table = ap (λ m. (slice_index_or c.indexes m no_index).index.table) same ∙ e })
