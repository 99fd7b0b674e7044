-- Costs of scans within the limits of tables and clauses.
use Rattle.std.proofs.Common.{◌≡◌, ◌<◌, ◌≤◌, ℕ, ◌+◌, ◌*◌, ◌^◌, min, max, cond, Bool, true, false, List, [], ◌∷◌, All, length, map, filter, suc, refl, sym, ap, subst, arith, Option, Some, None, le_trans, mul-le-mul, mul-le-mul_right, mul_comm}
use Rattle.std.specs.Prelude.{sum as sum_of}
use Rattle.std.specs.Int.{div_ceil}
use Rattle.std.proofs.lemmas.List.Sums.{sum_by-le}
use Rattle.std.proofs.lemmas.List.Elements.{All-from_recursion, All-map}
use Rattle.pg_base.specs.declared.limits.TheConstants.{MOST_ATOMS}
use Rattle.pg_base.specs.declared.numbers.IndexNo.{IndexNo}
use Rattle.pg_base.specs.declared.numbers.TableNo.{TableNo}
use Rattle.catalog.specs.opfamily_classes_Method.{Method}
use Rattle.catalog.specs.opfamily_classes_Method_TheVariants.{Btree, Hash}
use Rattle.pg_expr.specs.Cond.{Cond}
use Rattle.pg_expr.specs.Columns.{atom_count}
use Rattle.catalog.specs.Contents.{Contents, IsIndex, IsTable, index_at, no_index}
use Rattle.catalog.specs.Range.{Range}
use Rattle.catalog.specs.Tables.{rows_of}
use Rattle.catalog.proofs.SizeLemmas.{pages-bounded, rows-bounded}
use Rattle.eq_classes.specs.Clauses.{Clause, Set, ClassTable}
use Rattle.eq_classes.specs.Parts.{is_base}
use Rattle.cost_rules.specs.declared.parameters.TheConstants.{BITMAP_CHILD, ENTRIES_PER_PAGE, INDEX_TUPLE, OPERATOR, RANDOM_PAGE}
use Rattle.cost_rules.specs.Costs.{row_cost}
use Rattle.cost_rules.specs.Powers.{log_up}
use Rattle.cost_rules.specs.Scans.{fetch_cost, heap_pages_of, leaves_cost, page_in_order, pages_of_entries, part_cost, run_cost}
use Rattle.cost_rules.proofs.PowerLemmas.{few-doublings, log-least}
use Rattle.cost_rules.proofs.RisingLemmas.{ceil-least}
use Rattle.path_cost.specs.work.Columns.{AreTables}
use Rattle.path_cost.specs.Costs.{arm_part, bitmap_cost, descent, descent_by, index_rows_found, index_cost, index_part, local_operators, operators, other_operators, rows_after, seq_cost}
use Rattle.path_cost.specs.Estimates.{conditions_from, conditions_where, entry_estimate, entries_by, kept_among, set_numbers_from, picked_from, table_pages, table_rows}
use Rattle.path_cost.specs.work.Limits.{AreWithinLimits, HasColumns}
use Rattle.path_cost.specs.Ranges.{conditions}
use Rattle.path_cost.specs.Runs.{runs}
use Rattle.path_cost.specs.Selectivity.{selectivity}
use Rattle.path_cost.proofs.LeftLemmas.{kept-most, kept-share}
use Rattle.path_cost.proofs.LimitLemmas.{rows-some}
use Rattle.path_cost.proofs.WeightLemmas.{share-most}
use Rattle.path_cost.proofs.PredicateLemmas.{predicate_columns}
use Rattle.path_cost.proofs.RunLemmas.{leaves-least, run-least, runs-some}

-- some conditions of a list: no more of them, and no more operators
picked-few : (n : ℕ) (chosen : ℕ → Bool) (es : List Cond) → length (picked_from n chosen es) ≤ length es
picked-few n chosen [] = omega arith
picked-few n chosen (e ∷ es) = by (chosen n) (picked-few (n + 1) chosen es)
  where
    by : (b : Bool) → length (picked_from (n + 1) chosen es) ≤ length es → length (cond b (e ∷ picked_from (n + 1) chosen es) (picked_from (n + 1) chosen es)) ≤ suc (length es)
    by true h = omega (arith, h)
    by false h = omega (arith, h)

picked-operators : (n : ℕ) (chosen : ℕ → Bool) (es : List Cond) → operators (picked_from n chosen es) ≤ operators es
picked-operators n chosen [] = omega arith
picked-operators n chosen (e ∷ es) = by (chosen n) (picked-operators (n + 1) chosen es)
  where
    by : (b : Bool) → operators (picked_from (n + 1) chosen es) ≤ operators es → operators (cond b (e ∷ picked_from (n + 1) chosen es) (picked_from (n + 1) chosen es)) ≤ atom_count e + operators es
    by true h = omega (arith, h)
    by false h = omega (arith, h)

where-operators : (test : Clause → Bool) (ks : List Clause) → operators (conditions_where test ks) ≤ operators (map (λ (k : Clause). k.cond) ks)
where-operators test [] = omega arith
where-operators test (k ∷ ks) = by (test k) (where-operators test ks)
  where
    by : (b : Bool) → operators (conditions_where test ks) ≤ operators (map (λ (x : Clause). x.cond) ks) → operators (map (λ (x : Clause). x.cond) (cond b (k ∷ filter test ks) (filter test ks))) ≤ atom_count k.cond + operators (map (λ (x : Clause). x.cond) ks)
    by true h = omega (arith, h)
    by false h = omega (arith, h)

length-all : (ks : List Clause) → length (map (λ (k : Clause). k.cond) ks) ≡ length ks
length-all [] = refl
length-all (k ∷ ks) = ap suc (length-all ks)

-- the way down is short
pages-few : (n : ℕ) → n ≤ 10 ^ 9 → pages_of_entries n ≤ 5 * 10 ^ 6
pages-few n h = let up = ceil-least n (5 * 10 ^ 6) ENTRIES_PER_PAGE (omega arith) (omega (arith, h)) in omega (arith, up)

descent-few : (m : Method) (n : ℕ) → n ≤ 10 ^ 9 → descent_by m n ≤ 2090
descent-few Btree n h =
    let pages = pages-few n h in
    let high = few-doublings ENTRIES_PER_PAGE (pages_of_entries n) (log_up ENTRIES_PER_PAGE (pages_of_entries n)) (omega arith) (omega (arith, pages)) (log-least ENTRIES_PER_PAGE (pages_of_entries n) (omega arith)) in
    let deep = few-doublings 2 (max n 2) (log_up 2 (max n 2)) (omega arith) (omega (arith, h)) (log-least 2 (max n 2) (omega arith)) in
    omega (arith, high, deep)
descent-few Hash n h = omega arith

times-few : (a b x y : ℕ) → a ≤ x → b ≤ y → a * b ≤ x * y
times-few a b x y h k = mul-le-mul h k

-- a part of so many entries with few conditions
part-few : (runs d looked all n : ℕ) → 1 ≤ runs → d ≤ 2090 → 1 ≤ all → looked ≤ all → all ≤ 10 ^ 9 → n ≤ 512 → part_cost runs d looked all n ≤ 523 * 10 ^ 9
part-few runs d looked all n once down some within few conditions =
    let pages = pages_of_entries all in
    let read = ceil-least (looked * pages) pages all some (subst (λ x. looked * pages ≤ x) (mul_comm all pages) (mul-le-mul_right pages within)) in
    let work = times-few looked (INDEX_TUPLE + n * OPERATOR) (10 ^ 9) 514 (le_trans within few) (omega (arith, conditions)) in
    sum (leaves_cost runs (div_ceil (looked * pages) all) pages) pages (looked * (INDEX_TUPLE + n * OPERATOR)) (leaves-least runs (div_ceil (looked * pages) all) pages once read) (pages-few all few) work
  where
    sum : (x y z : ℕ) → x ≤ y * 1600 → y ≤ 5 * 10 ^ 6 → z ≤ 10 ^ 9 * 514 → d + x + z ≤ 523 * 10 ^ 9
    sum x y z h k l = omega (arith, h, k, l, down)

-- each row with few operators
work-few : (rows ops : ℕ) → rows ≤ 10 ^ 9 → ops ≤ 1024 → rows * row_cost ops ≤ 10 ^ 9 * 1028
work-few rows ops h k = times-few rows (row_cost ops) (10 ^ 9) 1028 h (omega (arith, k))

module _ (c : Contents) (range : Range) (t : ClassTable) (h : AreWithinLimits c range t) where
  rows-few : (r : ℕ) → r < length range → (1 ≤ table_rows c range r) × (table_rows c range r ≤ 10 ^ 9)
  rows-few r within =
      let there = h.tables r _ within in
      (rows-some c _ h.lawful there, rows-bounded c _ h.lawful there (h.loaded _ there))

  heap-pages-few : (r : ℕ) → r < length range → table_pages c range r ≤ 10 ^ 9
  heap-pages-few r within =
      let there = h.tables r _ within in
      pages-bounded c _ h.lawful there (h.loaded _ there)

  operators-few : (test : Clause → Bool) → operators (conditions_where test t.clauses) ≤ 1024
  operators-few test = le_trans (where-operators test t.clauses) h.operators

  pub seq-few : (r : ℕ) → r < length range → (seq_cost c range t r).total ≤ 2 * 10 ^ 12
  seq-few r within =
      sum (table_pages c range r) _ (heap-pages-few r within) (work-few (table_rows c range r) _ (rows-few r within).1 (operators-few (is_base r)))
    where
      sum : (x y : ℕ) → x ≤ 10 ^ 9 → y ≤ 10 ^ 9 * 1028 → x * 400 + y ≤ 2 * 10 ^ 12
      sum x y h k = omega (arith, h, k)

  entries-few : (i : IndexNo) → IsIndex c i → (1 ≤ entry_estimate c i) × (entry_estimate c i ≤ 10 ^ 9)
  entries-few i within = by (index_at c i).predicate refl
    where
      there : IsTable c (index_at c i).table
      there = (h.lawful.indexes i.0 no_index within).table

      some : 1 ≤ rows_of c (index_at c i).table
      some = rows-some c (index_at c i).table h.lawful there

      few : rows_of c (index_at c i).table ≤ 10 ^ 9
      few = rows-bounded c (index_at c i).table h.lawful there (h.loaded (index_at c i).table there)

      alone : AreTables c (((index_at c i).table, []) ∷ [])
      alone = All-from_recursion (λ (r : TableNo × List ℕ). IsTable c r.0) (((index_at c i).table, []) ∷ []) (there, tt)

      by : (o : Option Cond) → (index_at c i).predicate ≡ o → (1 ≤ entries_by c (index_at c i) o) × (entries_by c (index_at c i) o ≤ 10 ^ 9)
      by None e = (some, few)
      by (Some p) e =
          let own = predicate_columns c i (index_at c i) p h.lawful within refl e in
          let kept = kept-share (rows_of c (index_at c i).table) (selectivity c (((index_at c i).table, []) ∷ []) p) (share-most c (((index_at c i).table, []) ∷ []) h.lawful alone p own) some in
          (kept.0, le_trans kept.1 few)

  within-few : (p : Set) (i : IndexNo) (rows n : ℕ) → IsIndex c i → n ≤ 512 → part_cost (runs c range t p) (descent c i) (min (entry_estimate c i) rows) (entry_estimate c i) n ≤ 523 * 10 ^ 9
  within-few p i rows n within conditions =
      let all = entries-few i within in
      part-few (runs c range t p) (descent c i) (min (entry_estimate c i) rows) (entry_estimate c i) n (runs-some c range t p) (descent-few (index_at c i).method (entry_estimate c i) all.1) all.0 (least (entry_estimate c i) rows) all.1 conditions
    where
      least : (x y : ℕ) → min x y ≤ x
      least x y = omega arith

  pub index-part-few : (i : IndexNo) (r : ℕ) (p : Set) (bounds conditions : ℕ → Bool) → IsIndex c i → index_part c range t i r p bounds conditions ≤ 523 * 10 ^ 9
  index-part-few i r p bounds conditions within =
      within-few p i (rows_after c range t r bounds) (length (conditions_from 0 conditions t.clauses)) within
      (le_trans (picked-few 0 conditions (map (λ (k : Clause). k.cond) t.clauses)) (subst (λ n. n ≤ 512) (sym (length-all t.clauses)) h.few))

  pub arm-part-few : (i : IndexNo) (r : ℕ) (p : Set) (parts : List Cond) (bounds : ℕ → Bool) → IsIndex c i → length parts ≤ MOST_ATOMS → arm_part c range t i r p parts bounds ≤ 523 * 10 ^ 9
  arm-part-few i r p parts bounds within few =
      within-few p i (kept_among c range (table_rows c range r) bounds parts) (length parts) within (omega (arith, few))

  pub index-few : (i : IndexNo) (r : ℕ) (p : Set) (bounds conditions : ℕ → Bool) (only : Bool) → r < length range → IsIndex c i → (index_cost c range t i r p bounds conditions only).total ≤ 4 * 10 ^ 12
  index-few i r p bounds conditions only within is =
      let all = entries-few i is in
      let work = work-few (index_rows_found c range t i r conditions) (other_operators c range t r p conditions) (le_trans (least (entry_estimate c i) (rows_after c range t r conditions)) all.1)
      (le_trans (picked-operators 0 _ (map (λ (k : Clause). k.cond) t.clauses)) h.operators) in
      sum (index_part c range t i r p bounds conditions) (fetch_cost (runs c range t p) only (index_rows_found c range t i r conditions) (table_pages c range r)) _ (index-part-few i r p bounds conditions is) (fetched only) work
    where
      least : (x y : ℕ) → min x y ≤ x
      least x y = omega arith

      fetched : (o : Bool) → fetch_cost (runs c range t p) o (index_rows_found c range t i r conditions) (table_pages c range r) ≤ 10 ^ 9 * 1600
      fetched true = omega arith
      fetched false = le_trans (run-least (runs c range t p) (index_rows_found c range t i r conditions) (table_pages c range r) RANDOM_PAGE (runs-some c range t p)) (mul-le-mul_right RANDOM_PAGE (heap-pages-few r within))

      sum : (x y z : ℕ) → x ≤ 523 * 10 ^ 9 → y ≤ 10 ^ 9 * 1600 → z ≤ 10 ^ 9 * 1028 → x + y + z ≤ 4 * 10 ^ 12
      sum x y z k l m = omega (arith, k, l, m)

  pub bitmap-few : (r : ℕ) (p : Set) (used : ℕ → Bool) (parts : ℕ) → r < length range → (bitmap_cost c range t r p used parts).total ≤ parts + 3 * 10 ^ 12
  bitmap-few r p used parts within =
      let rows = rows_after c range t r used in
      let few = kept-most c range h.lawful h.tables (table_rows c range r) (conditions t) (set_numbers_from 0 (length t.clauses) used) (All-map (HasColumns c range) (λ (k : Clause). k.cond) t.clauses h.columns) (rows-few r within).0 in
      let page = page_in_order (heap_pages_of rows (table_pages c range r)) (table_pages c range r) in
      let read : run_cost (runs c range t p) rows (table_pages c range r) page ≤ 10 ^ 9 * 1600 =
      le_trans (run-least (runs c range t p) rows (table_pages c range r) page (runs-some c range t p))
      (times-few (table_pages c range r) page (10 ^ 9) 1600 (heap-pages-few r within) (in-order (heap_pages_of rows (table_pages c range r)) (table_pages c range r))) in
      sum _ _ read (work-few rows (local_operators c range t r p) (le_trans few.1 (rows-few r within).1) (operators-few _))
    where
      in-order : (x pages : ℕ) → page_in_order x pages ≤ 1600
      in-order x pages = omega arith

      sum : (x y : ℕ) → x ≤ 10 ^ 9 * 1600 → y ≤ 10 ^ 9 * 1028 → parts + x + y ≤ parts + 3 * 10 ^ 12
      sum x y k l = omega (arith, k, l)

  pub bitmap-parts-few : (r : ℕ) (p : Set) (used : ℕ → Bool) (parts : List ℕ) → r < length range → length parts ≤ MOST_ATOMS + 8 →
      All (λ n. n ≤ 523 * 10 ^ 9) parts → (bitmap_cost c range t r p used (sum_of parts + BITMAP_CHILD * length parts)).total ≤ 142 * 10 ^ 12
  bitmap-parts-few r p used parts within few small =
      most _ (sum_of parts) (length parts) (bitmap-few r p used (sum_of parts + BITMAP_CHILD * length parts) within) (sum_by-le (λ n. n) (523 * 10 ^ 9) parts small) few
    where
      most : (total s n : ℕ) → total ≤ s + BITMAP_CHILD * n + 3 * 10 ^ 12 → s ≤ n * (523 * 10 ^ 9) → n ≤ MOST_ATOMS + 8 → total ≤ 142 * 10 ^ 12
      most total s n k l m = omega (arith, k, l, m)
