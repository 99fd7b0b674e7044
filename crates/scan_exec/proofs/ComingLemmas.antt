-- The rows that a scan comes to are those of its plan, and count as its plan says.
use Rattle.std.proofs.Common.{append-nil, ◌≡◌, ◌+◌, ◌≤◌, ℕ, suc, Bool, true, false, cond, ◌&&◌, List, [], ◌∷◌, ◌++◌, length, map, filter, reverse, refl, sym, ap, ap₂, ◌∙◌, arith}
use Rattle.std.specs.List.{list_all}
use Rattle.std.proofs.lemmas.List.{length-reverse, reverse-append}
use Rattle.std.proofs.lemmas.Bool.{and_parts, and_from, true≢false}
use Rattle.pg_base.specs.Sets.{has}
use Rattle.pg_base.specs.declared.numbers.RelNo.{RelNo}
use Rattle.pg_base.specs.declared.numbers.IndexNo.{IndexNo}
use Rattle.pg_base.specs.declared.rel_set.RelSet.{RelSet}
use Rattle.opfamily.specs.declared.classes.Method.{Method}
use Rattle.opfamily.specs.declared.classes.Method.TheVariants.{Btree, Hash}
use Rattle.pg_expr.specs.Cond.{Cond}
use Rattle.catalog.specs.Contents.{index_at}
use Rattle.index_match.specs.Numbered.{Numbered, base, conditions_of, is_one_of_chosen}
use Rattle.index_match.specs.Conditions.{index_conditions, is_hash}
use Rattle.index_match.specs.Bounds.{bounding, index_bounds}
use Rattle.sql_query.specs.Queries.{Query}
use Rattle.sql_query.specs.Worlds.{World}
use Rattle.sql_query.specs.Tuples.{Tuple, beside, one_row, row_numbers}
use Rattle.sql_query.specs.Meaning.{all_true}
use Rattle.plan_tree.specs.Counts.{entries_met, fetches, given_looks, index_looks, looks}
use Rattle.plan_tree.specs.Entries.{entry_rows}
use Rattle.plan_tree.specs.Plans.{Plan, seq, index, index_only, bitmap, sort, nest, merge}
use Rattle.plan_tree.specs.Run.{at_which, clauses_at, index_scan_conditions, in_scan_direction, held, met, run}
use Rattle.plan_tree.specs.Space.{IsBuilt}
use Rattle.scan_exec.specs.Coming.{Coming, bounded, coming, entry_row, fetched_row, index_coming, owed}
use Rattle.scan_exec.specs.work.Coming.{looks_allowed, rows_to_come}
use Rattle.scan_exec.specs.work.Plans.{IsScan, param_set, relation_of}
use Rattle.plan_laws.proofs.ScanLemmas.{all_filtered as part_true}

-- rows by a test of each
module _ {A : Type 0} (f : A → Coming) where
  left_of : (row : A → ℕ) (test : A → Bool) → ((x : A) → (f x).row ≡ row x) → ((x : A) → (f x).given ≡ test x) → (xs : List A) → rows_to_come (map f xs) ≡ map row (filter test xs)
  left_of row test rows tests [] = refl
  left_of row test rows tests (x ∷ xs) = by (f x).given (test x) (tests x) (left_of row test rows tests xs)
    where
      by : (a b : Bool) → a ≡ b → rows_to_come (map f xs) ≡ map row (filter test xs) → map (λ (c : Coming). c.row) (cond a (f x ∷ filter (λ (c : Coming). c.given) (map f xs)) (filter (λ (c : Coming). c.given) (map f xs))) ≡ map row (cond b (x ∷ filter test xs) (filter test xs))
      by true true e later = ap₂ (λ (n : ℕ) (l : List ℕ). n ∷ l) (rows x) later
      by true false e later = absurd (true≢false e)
      by false true e later = absurd (true≢false (sym e))
      by false false e later = later

  counted_of : (pick : Coming → Bool) (test : A → Bool) → ((x : A) → pick (f x) ≡ test x) → (xs : List A) → length (filter pick (map f xs)) ≡ length (filter test xs)
  counted_of pick test tests [] = refl
  counted_of pick test tests (x ∷ xs) = by (pick (f x)) (test x) (tests x) (counted_of pick test tests xs)
    where
      by : (a b : Bool) → a ≡ b → length (filter pick (map f xs)) ≡ length (filter test xs) → length (cond a (f x ∷ filter pick (map f xs)) (filter pick (map f xs))) ≡ length (cond b (x ∷ filter test xs) (filter test xs))
      by true true e later = ap suc later
      by true false e later = absurd (true≢false e)
      by false true e later = absurd (true≢false (sym e))
      by false false e later = later

map_same : (xs : List ℕ) → map (λ n. n) xs ≡ xs
map_same [] = refl
map_same (x ∷ xs) = ap (λ (l : List ℕ). x ∷ l) (map_same xs)

filter_all : (xs : List ℕ) → filter (λ n. true) xs ≡ xs
filter_all [] = refl
filter_all (x ∷ xs) = ap (λ (l : List ℕ). x ∷ l) (filter_all xs)

filter_none : (xs : List ℕ) → filter (λ n. false) xs ≡ []
filter_none [] = refl
filter_none (x ∷ xs) = filter_none xs

filter-append : (p : ℕ → Bool) (xs ys : List ℕ) → filter p (xs ++ ys) ≡ filter p xs ++ filter p ys
filter-append p [] ys = refl
filter-append p (x ∷ xs) ys = by (p x) (filter-append p xs ys)
  where
    by : (b : Bool) → filter p (xs ++ ys) ≡ filter p xs ++ filter p ys → cond b (x ∷ filter p (xs ++ ys)) (filter p (xs ++ ys)) ≡ cond b (x ∷ filter p xs) (filter p xs) ++ filter p ys
    by true later = ap (λ (l : List ℕ). x ∷ l) later
    by false later = later

-- a test that passes only where another does, after it
filter_within : (narrow wide : ℕ → Bool) → ((n : ℕ) → narrow n ≡ true → wide n ≡ true) → (xs : List ℕ) → filter narrow (filter wide xs) ≡ filter narrow xs
filter_within narrow wide within [] = refl
filter_within narrow wide within (x ∷ xs) = by (wide x) (narrow x) refl refl (filter_within narrow wide within xs)
  where
    by : (a b : Bool) → wide x ≡ a → narrow x ≡ b → filter narrow (filter wide xs) ≡ filter narrow xs → filter narrow (cond a (x ∷ filter wide xs) (filter wide xs)) ≡ cond b (x ∷ filter narrow xs) (filter narrow xs)
    by true b e d later = ap₂ (λ (c : Bool) (l : List ℕ). cond c (x ∷ l) l) d later
    by false true e d later = absurd (true≢false (sym (within x d) ∙ e))
    by false false e d later = later

filter_both : (p k : ℕ → Bool) (xs : List ℕ) → filter (λ n. p n && k n) xs ≡ filter k (filter p xs)
filter_both p k [] = refl
filter_both p k (x ∷ xs) = by (p x) (filter_both p k xs)
  where
    by : (a : Bool) → filter (λ n. p n && k n) xs ≡ filter k (filter p xs) → cond (a && k x) (x ∷ filter (λ n. p n && k n) xs) (filter (λ n. p n && k n) xs) ≡ filter k (cond a (x ∷ filter p xs) (filter p xs))
    by true later = ap (λ (l : List ℕ). cond (k x) (x ∷ l) l) later
    by false later = later

filter-reverse : (p : ℕ → Bool) (xs : List ℕ) → filter p (reverse xs) ≡ reverse (filter p xs)
filter-reverse p [] = refl
filter-reverse p (x ∷ xs) =
    ap (filter p) (reverse-append (x ∷ []) xs) ∙ filter-append p (reverse xs) (x ∷ []) ∙ by (p x) (filter-reverse p xs)
  where
    by : (b : Bool) → filter p (reverse xs) ≡ reverse (filter p xs) → filter p (reverse xs) ++ cond b (x ∷ []) [] ≡ reverse (cond b (x ∷ filter p xs) (filter p xs))
    by true later = ap (λ (l : List ℕ). l ++ x ∷ []) later ∙ sym (reverse-append (x ∷ []) (filter p xs))
    by false later = append-nil _ ∙ later

module _ (w : World) (q : Query) where
  filter_directed : (p : ℕ → Bool) (b : Bool) (xs : List ℕ) → filter p (in_scan_direction w q b xs) ≡ in_scan_direction w q b (filter p xs)
  filter_directed p false xs = refl
  filter_directed p true xs = filter-reverse p xs

  length_directed : (b : Bool) (xs : List ℕ) → length (in_scan_direction w q b xs) ≡ length xs
  length_directed false xs = refl
  length_directed true xs = length-reverse xs

  module _ (r : RelNo) (es : List Cond) (o : Tuple) where
    abbrev passes : ℕ → Bool
    passes n = all_true w q (beside q r.0 n o) es

    fetched_left : (ns : List ℕ) → rows_to_come (map (fetched_row w q r o es) ns) ≡ at_which w q r o es ns
    fetched_left ns = left_of (fetched_row w q r o es) (λ n. n) passes (λ n. refl) (λ n. refl) ns ∙ map_same (filter passes ns)

    fetched_owed : (ns : List ℕ) → owed (map (fetched_row w q r o es) ns) ≡ length ns
    fetched_owed ns = counted_of (fetched_row w q r o es) (λ (c : Coming). c.fetched) (λ n. true) (λ n. refl) ns ∙ ap length (filter_all ns)

    pub fetched_allowed : (ns : List ℕ) → looks_allowed (map (fetched_row w q r o es) ns) ≡ 0
    fetched_allowed ns = counted_of (fetched_row w q r o es) (λ (c : Coming). c.looked) (λ n. false) (λ n. refl) ns ∙ ap length (filter_none ns)

  module _ (r : RelNo) (i : IndexNo) (only : Bool) (p : RelSet) (o : Tuple) where
    abbrev meet : ℕ → Bool
    meet n = all_true w q (beside q r.0 n o) (index_scan_conditions w q r i p)

    abbrev hold : ℕ → Bool
    hold n = all_true w q (beside q r.0 n o) (clauses_at w q r p)

    abbrev limit : ℕ → Bool
    limit n = all_true w q (beside q r.0 n o) (conditions_of (index_bounds w.contents q.classes i r.0 (has p.0)))

    met_of : filter meet (bounded w q r i p o) ≡ met w q r i p o
    met_of = filter_within meet limit
        (λ n h. part_true _ (is_one_of_chosen (bounding (index_at w.contents i).method r.0 (index_at w.contents i).keys (index_conditions w.contents q.classes i r.0 (has p.0)))) (index_conditions w.contents q.classes i r.0 (has p.0)) h)
        (entry_rows w i)

    entry_left : (b : Bool) → rows_to_come (map (entry_row w q r i only p o) (in_scan_direction w q b (bounded w q r i p o))) ≡ at_which w q r o (clauses_at w q r p) (in_scan_direction w q b (met w q r i p o))
    entry_left b =
        left_of (entry_row w q r i only p o) (λ n. n) (λ n. meet n && hold n) (λ n. refl) (λ n. refl) (in_scan_direction w q b (bounded w q r i p o))
        ∙ map_same (filter (λ n. meet n && hold n) (in_scan_direction w q b (bounded w q r i p o)))
        ∙ filter_both meet hold (in_scan_direction w q b (bounded w q r i p o))
        ∙ ap (filter hold) (filter_directed meet b (bounded w q r i p o) ∙ ap (in_scan_direction w q b) met_of)

    entry_allowed : (b : Bool) → looks_allowed (map (entry_row w q r i only p o) (in_scan_direction w q b (bounded w q r i p o))) ≡ length (bounded w q r i p o)
    entry_allowed b =
        counted_of (entry_row w q r i only p o) (λ (c : Coming). c.looked) (λ n. true) (λ n. refl) (in_scan_direction w q b (bounded w q r i p o))
        ∙ ap length (filter_all (in_scan_direction w q b (bounded w q r i p o))) ∙ length_directed b (bounded w q r i p o)

  entry_owed : (r : RelNo) (i : IndexNo) (p : RelSet) (o : Tuple) (b : Bool) → owed (map (entry_row w q r i false p o) (in_scan_direction w q b (bounded w q r i p o))) ≡ length (met w q r i p o)
  entry_owed r i p o b =
      counted_of (entry_row w q r i false p o) (λ (c : Coming). c.fetched) (meet r i false p o) (λ n. refl) (in_scan_direction w q b (bounded w q r i p o))
      ∙ ap length (filter_directed (meet r i false p o) b (bounded w q r i p o)) ∙ length_directed b (filter (meet r i false p o) (bounded w q r i p o)) ∙ ap length (met_of r i false p o)

  only_owed : (r : RelNo) (i : IndexNo) (p : RelSet) (o : Tuple) (b : Bool) → owed (map (entry_row w q r i true p o) (in_scan_direction w q b (bounded w q r i p o))) ≡ 0
  only_owed r i p o b =
      counted_of (entry_row w q r i true p o) (λ (c : Coming). c.fetched) (λ n. false) (λ n. refl) (in_scan_direction w q b (bounded w q r i p o))
      ∙ ap length (filter_none (in_scan_direction w q b (bounded w q r i p o)))

  index_left : (r : RelNo) (i : IndexNo) (b : Bool) (p : RelSet) (o : Tuple) (m : Method) → rows_to_come (index_coming w q m r i b p o) ≡ at_which w q r o (clauses_at w q r p) (in_scan_direction w q b (met w q r i p o))
  index_left r i b p o Btree = entry_left r i false p o b
  index_left r i b p o Hash = fetched_left r (clauses_at w q r p) o (in_scan_direction w q b (met w q r i p o))

  index_owed : (r : RelNo) (i : IndexNo) (b : Bool) (p : RelSet) (o : Tuple) (m : Method) → owed (index_coming w q m r i b p o) ≡ length (met w q r i p o)
  index_owed r i b p o Btree = entry_owed r i p o b
  index_owed r i b p o Hash = fetched_owed r (clauses_at w q r p) o (in_scan_direction w q b (met w q r i p o)) ∙ length_directed b (met w q r i p o)

  pub given_rows : (p : Plan) (o : Tuple) → IsScan p → map (one_row q (relation_of p).0) (rows_to_come (coming w q p o)) ≡ run w q p o
  given_rows (seq r) o is = ap (map (one_row q r.0)) (fetched_left r (conditions_of (base q.classes r.0)) o (row_numbers w q r))
  given_rows (index r i b p) o is = ap (map (one_row q r.0)) (index_left r i b p o (index_at w.contents i).method)
  given_rows (index_only r i b p) o is = ap (map (one_row q r.0)) (entry_left r i true p o b)
  given_rows (bitmap r p bits) o is = ap (map (one_row q r.0)) (fetched_left r (clauses_at w q r p) o (held w q r p bits o))
  given_rows (sort keys input) o is = absurd is
  given_rows (nest outer inner) o is = absurd is
  given_rows (merge keys outer inner) o is = absurd is

  pub fetched_rows : (p : Plan) (o : Tuple) → IsScan p → owed (coming w q p o) ≡ fetches w q p o
  fetched_rows (seq r) o is = fetched_owed r (conditions_of (base q.classes r.0)) o (row_numbers w q r)
  fetched_rows (index r i b p) o is = index_owed r i b p o (index_at w.contents i).method
  fetched_rows (index_only r i b p) o is = only_owed r i p o b
  fetched_rows (bitmap r p bits) o is = fetched_owed r (clauses_at w q r p) o (held w q r p bits o)
  fetched_rows (sort keys input) o is = absurd is
  fetched_rows (nest outer inner) o is = absurd is
  fetched_rows (merge keys outer inner) o is = absurd is

  index_allowed : (r : RelNo) (i : IndexNo) (b : Bool) (p : RelSet) (o : Tuple) (m : Method) → looks_allowed (index_coming w q m r i b p o) ≡ entries_met w q m r i o (conditions_of (index_bounds w.contents q.classes i r.0 (has p.0)))
  index_allowed r i b p o Btree = entry_allowed r i false p o b
  index_allowed r i b p o Hash = fetched_allowed r (clauses_at w q r p) o (in_scan_direction w q b (met w q r i p o))

  is_tree : (m : Method) → is_hash m ≡ false → m ≡ Btree
  is_tree Btree h = refl
  is_tree Hash h = absurd (true≢false h)

  pub looked_rows : (p : Plan) (o : Tuple) → IsScan p → IsBuilt w.contents q p → looks_allowed (coming w q p o) + given_looks w q (param_set p) ≤ looks w q p o
  looked_rows (seq r) o is built = let none = fetched_allowed r (conditions_of (base q.classes r.0)) o (row_numbers w q r) in omega (arith, none)
  looked_rows (index r i b p) o is built = let e = index_allowed r i b p o (index_at w.contents i).method in omega (arith, e)
  looked_rows (index_only r i b p) o is built =
      let e : looks_allowed (coming w q (index_only r i b p) o) ≡ index_looks w q r i p o =
      entry_allowed r i true p o b ∙ sym (ap (λ (m : Method). entries_met w q m r i o (conditions_of (index_bounds w.contents q.classes i r.0 (has p.0)))) (is_tree (index_at w.contents i).method built.ordered)) in
      omega (arith, e)
  looked_rows (bitmap r p bits) o is built = let none = fetched_allowed r (clauses_at w q r p) o (held w q r p bits o) in omega (arith, none)
  looked_rows (sort keys input) o is built = absurd is
  looked_rows (nest outer inner) o is built = absurd is
  looked_rows (merge keys outer inner) o is built = absurd is
