-- What is found of lawful rows is lawful.
use Rattle.std.proofs.Common.{◌≡◌, ◌≢◌, ℕ, zero, suc, ◌<◌, ◌≤◌, ◌+◌, ◌-◌, ◌*◌, ◌/◌, Bool, true, false, not, cond, List, [], ◌∷◌, length, map, take, get_or, All, Option, Some, None, refl, sym, ap, ap₂, ◌∙◌, subst, arith, inl, inr}
use Rattle.std.specs.Prelude.{filter, max, nat_le, nat_lt, slice_index_or}
use Rattle.std.specs.List.{AllByRecursion, AllZip, range_with_len}
use Rattle.std.specs.Bool.{IsFalse}
use Rattle.std.specs.Ordering.{is_gt, is_lt, ordering_reverse}
use Rattle.std.specs.declared.cmp.Ordering.{Ordering}
use Rattle.std.specs.declared.cmp.Ordering.TheVariants.{Less, Equal, Greater}
use Rattle.std.proofs.lemmas.Bool.{cases_lt, true≢false, false≢true}
use Rattle.std.proofs.lemmas.Bool.Decides.{nat_tests}
use Rattle.std.proofs.lemmas.List.{length-map, length-take}
use Rattle.std.proofs.lemmas.List.FromFn.{get_or-map-range_with_len, length-map-range_with_len}
use Rattle.std.proofs.lemmas.List.Elements.{All-from_recursion, recursion_from_All}
use Rattle.std.proofs.lemmas.List.Kept.{AllPairs-filter}
use Rattle.std.proofs.lemmas.Nat.{le-div}
use Rattle.std.proofs.Math.Nat.{div-le_of_le-mul, div-mul-le_self, mul-le-mul_right}
use Rattle.pg_base.specs.declared.limits.TheConstants.{MOST_ROWS}
use Rattle.pg_value.specs.declared.operators.Family.{Family}
use Rattle.pg_value.specs.declared.columns.Column.{Column}
use Rattle.pg_value.specs.declared.value.SqlType.{SqlType}
use Rattle.pg_value.specs.declared.value.Value.{Value}
use Rattle.pg_value.specs.declared.value.Value.TheVariants.{Null, Int, Bool as Flag, Text as String}
use Rattle.pg_value.specs.Types.{IsOfType}
use Rattle.pg_value.specs.Sorting.{IsInOrder, in_order}
use Rattle.opfamily.specs.Answers.{default_family_of}
use Rattle.heap.specs.Stored.{IsLawfulData, IsRowOf, Stored, Values, IsColumnValue as MayHold}
use Rattle.catalog.specs.Indexes.{no_column}
use Rattle.catalog.specs.declared.limits.TheConstants.{MOST_BOUNDS, MOST_COMMON, ROWS_PER_PAGE, WHOLE_SHARE}
use Rattle.catalog.specs.work.Analysed.{FitColumns, IsAllowedTable}
use Rattle.catalog.specs.Statistics.{AreAllowed, AreValuesOf, Common, IsLawfulStatistics, IsValueOf, Statistics, is_below, is_count, is_equal, shares}
use Rattle.catalog.proofs.StatisticsLemmas.{lawful-allowed}
use Rattle.analyze.specs.Analysis.{Counted, ascending, bound_count, bound_in, bounds, commoner, commonest, counted, different, found, is_among, is_null, occurrences, others, rising, share, statistics_in, statistics_of, table_statistics, values_of}
use Rattle.analyze.proofs.ListLemmas.{each-weaker}
use Rattle.pg_base.proofs.ListLemmas.{all-filter as each-filter}
use Rattle.analyze.proofs.OrderLemmas.{ascending_total, not-after}
use Rattle.analyze.proofs.GroupLemmas.{each-different}
use Rattle.analyze.proofs.PairLemmas.{Pairs, each-in_order, pairs-all, pairs-map}
use Rattle.pg_base.proofs.ListLemmas.{each-map}
use Rattle.analyze.proofs.CommonLemmas.{AreApart, commonest-pairs, counts, each-commonest, few-commonest, few-counts, few-different, share-most, share-some, shared, shares-most}
use Rattle.analyze.proofs.FoundLemmas.{null-count, rising-few, rising-up}
use Rattle.analyze.proofs.KindLemmas.{below-is, equal-is}

length-take-most : {X : Type 0} (n : ℕ) (xs : List X) → length (take n xs) ≤ n
length-take-most n xs = let len = length-take n xs in omega (arith, len)

-- the values of a list in rising order that are a type's
module _ (t : SqlType) (f : Family) (e : default_family_of t ≡ Some f) (rows nulls : ℕ) (vs : List Value) (few-rows : rows ≤ MOST_ROWS) (all : nulls + length vs ≤ rows) (up : IsInOrder (ascending f) vs) (typed : AllByRecursion (IsValueOf t) vs) where
  abbrev IsCounted : Counted → Type 0
  IsCounted p = (p.1 ≡ occurrences f vs p.0) × IsValueOf t p.0

  exact : (ds : List Value) → AllByRecursion (IsValueOf t) ds → AllByRecursion (λ v. IsCounted (v, occurrences f vs v)) ds
  exact [] h = tt
  exact (d ∷ ds) h = ((refl, h.0), exact ds h.1)

  each : AllByRecursion (λ p. (2 ≤ p.1) × IsCounted p) (commonest f vs)
  each = each-commonest f IsCounted vs (exact (different f vs) (each-different f (IsValueOf t) vs typed))

  apart : (ps : List Counted) → AllByRecursion (λ p. (2 ≤ p.1) × IsCounted p) ps → Pairs (AreApart f) ps → Pairs (λ (p q : Counted). is_equal p.0 q.0 ≡ false) ps
  apart [] h k = tt
  apart (p ∷ ps) h k = (one ps h.1 k.0, apart ps h.1 k.1)
    where
      one : (qs : List Counted) → AllByRecursion (λ q. (2 ≤ q.1) × IsCounted q) qs → AllByRecursion (AreApart f p) qs → AllByRecursion (λ (q : Counted). is_equal p.0 q.0 ≡ false) qs
      one [] a b = tt
      one (q ∷ qs) a b = (equal-is t f e p.0 q.0 h.0.1.1 a.0.1.1 ∙ b.0, one qs a.1 b.1)

  total-few : counts f (commonest f vs) ≤ length vs
  total-few = few-counts f vs (commonest f vs) (each-weaker (λ p. (2 ≤ p.1) × IsCounted p) (λ p. p.1 ≡ occurrences f vs p.0) (commonest f vs) (λ p h. h.1.0) each) (commonest-pairs f vs)

  whole : share rows nulls + shares (map (shared rows) (commonest f vs)) ≤ WHOLE_SHARE
  whole =
      let most = shares-most rows f nulls (commonest f vs) in
      let sum = total-few in
      let end = share-most rows (nulls + counts f (commonest f vs)) (omega (arith, sum, all)) in
      omega (arith, most, end)

  some-shared : AllByRecursion (λ (p : Common). 1 ≤ p.1) (map (shared rows) (commonest f vs))
  some-shared = each-map (λ (p : Common). 1 ≤ p.1) (shared rows) (commonest f vs) (each-weaker (λ p. (2 ≤ p.1) × IsCounted p) (λ (p : Counted). 1 ≤ (shared rows p).1) (commonest f vs) (λ p h. let two = h.0 in share-some rows p.1 (omega (arith, two)) (omega (arith, few-rows))) each)

  -- the bounds
  rest-up : IsInOrder (ascending f) (others f vs)
  rest-up = AllPairs-filter (λ x y. IsFalse (is_gt (ascending f x y))) (λ v. not (is_among f (commonest f vs) v)) vs up

  rest-typed : AllByRecursion (IsValueOf t) (others f vs)
  rest-typed = each-filter (IsValueOf t) (λ v. not (is_among f (commonest f vs) v)) vs typed

-- the places of bounds rise, and are within the list
div-rises : (a b k : ℕ) → 0 < k → a ≤ b → a / k ≤ b / k
div-rises a b k some le = let low = div-mul-le_self a k in le-div (a / k) b k some (omega (arith, low, le))

module _ (us : List Value) (two : 2 ≤ length us) where
  abbrev place : ℕ → ℕ
  place j = j * (length us - 1) / (bound_count us - 1)

  some-count : 0 < bound_count us - 1
  some-count = omega (arith, two)

  place-rises : (j : ℕ) → place j ≤ place (j + 1)
  place-rises j = div-rises (j * (length us - 1)) ((j + 1) * (length us - 1)) (bound_count us - 1) some-count (mul-le-mul_right (length us - 1) (omega arith))

  place-within : (j : ℕ) → j < bound_count us → place j < length us
  place-within j lt =
      let far : j * (length us - 1) ≤ (bound_count us - 1) * (length us - 1) = mul-le-mul_right (length us - 1) (omega (arith, lt)) in
      let low : place j ≤ length us - 1 = div-le_of_le-mul (bound_count us - 1) {m = j * (length us - 1)} {n = length us - 1} far in
      omega (arith, low, two)

  pub bounds-are : bounds us ≡ map (bound_in us) (range_with_len 0 (bound_count us))
  bounds-are = let e : nat_lt (length us) 2 ≡ false = grind (arith, nat_tests) in ap (λ b. cond b [] (map (bound_in us) (range_with_len 0 (bound_count us)))) e

  pub bound-count : length (bounds us) ≡ bound_count us
  bound-count = ap length bounds-are ∙ length-map-range_with_len (bound_in us) 0 (bound_count us)

  pub bound-is : (j : ℕ) (d : Value) → j < bound_count us → get_or (bounds us) j d ≡ bound_in us j
  bound-is j d lt = ap (λ (bs : List Value). get_or bs j d) bounds-are ∙ get_or-map-range_with_len (bound_in us) 0 (bound_count us) j j d lt (omega arith)

  pub bounds-each : (P : Value → Type 0) → AllByRecursion P us → All P (bounds us)
  bounds-each P h j d lt =
      let low : j < bound_count us = omega (arith, lt, bound-count) in
      subst P (sym (bound-is j d low)) (All-from_recursion P us h (place j) Null (place-within j low))

  module _ (f : Family) (up : IsInOrder (ascending f) us) where
    pub bounds-rise : (j : ℕ) → j + 1 < bound_count us → is_lt (ascending f (bound_in us (j + 1)) (bound_in us j)) ≡ false
    bounds-rise j lt =
        back (ascending f (bound_in us j) (bound_in us (j + 1))) _ ((ascending_total f).antisymm (bound_in us (j + 1)) (bound_in us j))
        (not-after f us up (place j) (place (j + 1)) Null (place-rises j) (place-within (j + 1) lt))
      where
        back : (o p : Ordering) → p ≡ ordering_reverse o → is_gt o ≡ false → is_lt p ≡ false
        back Less p e h = ap is_lt e
        back Equal p e h = ap is_lt e
        back Greater p e h = absurd (true≢false h)

no-bounds : (us : List Value) → length us < 2 → bounds us ≡ []
no-bounds us lt = let e : nat_lt (length us) 2 ≡ true = grind (arith, nat_tests) in ap (λ b. cond b [] (map (bound_in us) (range_with_len 0 (bound_count us)))) e

module _ (t : SqlType) (f : Family) (e : default_family_of t ≡ Some f) (us : List Value) (up : IsInOrder (ascending f) us) (typed : AllByRecursion (IsValueOf t) us) where
  pub bounds-typed : All (IsValueOf t) (bounds us)
  bounds-typed = elim (cases_lt (length us) 2) [
    | inl lt ↦ let none = no-bounds us lt in subst (λ (bs : List Value). All (IsValueOf t) bs) (sym none) (λ k d low. absurd (omega (arith, low)))
    | inr ge ↦ bounds-each us ge (IsValueOf t) typed
  ]

  pub bounds-few : length (bounds us) ≤ MOST_BOUNDS
  bounds-few = elim (cases_lt (length us) 2) [
    | inl lt ↦ let none = ap length (no-bounds us lt) in omega (arith, none)
    | inr ge ↦ let count = bound-count us ge in omega (arith, count)
  ]

  pub bounds-two : length (bounds us) ≢ 1
  bounds-two = elim (cases_lt (length us) 2) [
    | inl lt ↦ let none = ap length (no-bounds us lt) in λ one. absurd (omega (arith, none, one))
    | inr ge ↦ let count = bound-count us ge in λ one. absurd (omega (arith, count, one, ge))
  ]

  pub bounds-rising : (n : ℕ) → n + 1 < length (bounds us) → is_below (slice_index_or (bounds us) (n + 1) Null) (slice_index_or (bounds us) n Null) ≡ false
  bounds-rising n lt = elim (cases_lt (length us) 2) [
    | inl less ↦ let none = ap length (no-bounds us less) in absurd (omega (arith, none, lt))
    | inr ge ↦
        let count = bound-count us ge in
        let low : n + 1 < bound_count us = omega (arith, count, lt) in
        below-is t f e (slice_index_or (bounds us) (n + 1) Null) (slice_index_or (bounds us) n Null) (bounds-typed (n + 1) Null lt) (bounds-typed n Null (omega (arith, lt)))
        ∙ ap₂ (λ v w. is_lt (ascending f v w)) (bound-is us ge (n + 1) Null low) (bound-is us ge n Null (omega (arith, low)))
        ∙ bounds-rise us ge f up n low
  ]

module _ (t : SqlType) (f : Family) (e : default_family_of t ≡ Some f) (rows nulls : ℕ) (vs : List Value) (few-rows : rows ≤ MOST_ROWS) (all : nulls + length vs ≤ rows) (up : IsInOrder (ascending f) vs) (typed : AllByRecursion (IsValueOf t) vs) where
  pub found-lawful : IsLawfulStatistics t (found f rows nulls vs)
  found-lawful =
      let few = few-different f vs in
      let within = few-commonest f vs in
      let shown = length-map (commonest f vs) (shared rows) in
      let cut = length-take-most MOST_COMMON (in_order (commoner f) (filter (λ (p : Counted). nat_le 2 p.1) (counted f vs))) in
      let us-up = rest-up t f e rows nulls vs few-rows all up typed in
      let us-typed = rest-typed t f e rows nulls vs few-rows all up typed in
      let counted-each = each t f e rows nulls vs few-rows all up typed in
      record {
        some = omega arith;
        most = omega (arith, few, all, few-rows);
        few = omega (arith, shown, cut);
        within = omega (arith, shown, within);
        different = pairs-all (λ (a b : Common). is_equal a.0 b.0 ≡ false) _ (pairs-map (λ (a b : Common). is_equal a.0 b.0 ≡ false) (shared rows) (commonest f vs) (apart t f e rows nulls vs few-rows all up typed (commonest f vs) counted-each (commonest-pairs f vs)));
        shared = All-from_recursion (λ (p : Common). 1 ≤ p.1) _ (some-shared t f e rows nulls vs few-rows all up typed);
        whole = whole t f e rows nulls vs few-rows all up typed;
        bounds = bounds-few t f e (others f vs) us-up us-typed;
        two = bounds-two t f e (others f vs) us-up us-typed;
        rising = bounds-rising t f e (others f vs) us-up us-typed;
        values = record {
          common = All-from_recursion (λ (p : Common). IsValueOf t p.0) _ (each-map (λ (p : Common). IsValueOf t p.0) (shared rows) (commonest f vs) (each-weaker (λ p. (2 ≤ p.1) × ((p.1 ≡ occurrences f vs p.0) × IsValueOf t p.0)) (λ (p : Counted). IsValueOf t p.0) (commonest f vs) (λ p h. h.1.1) counted-each));
          histogram = bounds-typed t f e (others f vs) us-up us-typed;
        };
      }

-- the values of a column of lawful rows
not-null : (v : Value) → not (is_null v) ≡ true → v ≢ Null
not-null Null e = absurd (false≢true e)
not-null (Int n) e = λ h. cc
not-null (Flag b) e = λ h. cc
not-null (String s) e = λ h. cc

held-type : (c : Column) (v : Value) → MayHold c v → v ≢ Null → IsOfType c.typed v
held-type c Null h n = absurd (n refl)
held-type c (Int k) h n = h
held-type c (Flag b) h n = h
held-type c (String s) h n = h.0

zip-at : (cs : List Column) (vs : Values) (k : ℕ) (c : Column) (v : Value) → AllZip MayHold cs vs → k < length cs → MayHold (get_or cs k c) (get_or vs k v)
zip-at [] vs k c v h lt = absurd (omega (arith, lt))
zip-at (x ∷ xs) [] k c v h lt = absurd h
zip-at (x ∷ xs) (y ∷ ys) zero c v h lt = h.0
zip-at (x ∷ xs) (y ∷ ys) (suc k) c v h lt = zip-at xs ys k c v h.1 (omega (arith, lt))

abbrev pub MayBe : SqlType → Value → Type 0
MayBe t v = v ≢ Null → IsOfType t v

column-typed : (cs : List Column) (k : ℕ) → k < length cs → (rows : List Values) → AllByRecursion (IsRowOf cs) rows → AllByRecursion (MayBe (slice_index_or cs k no_column).typed) (values_of k rows)
column-typed cs k lt [] h = tt
column-typed cs k lt (r ∷ rs) h = (held-type (slice_index_or cs k no_column) (slice_index_or r k Null) (zip-at cs r k no_column Null h.0 lt), column-typed cs k lt rs h.1)

known-typed : (t : SqlType) (vs : List Value) → AllByRecursion (MayBe t) vs → AllByRecursion (IsValueOf t) (filter (λ v. not (is_null v)) vs)
known-typed t [] h = tt
known-typed t (v ∷ vs) h = by (not (is_null v)) refl (known-typed t vs h.1)
  where
    by : (b : Bool) → not (is_null v) ≡ b → AllByRecursion (IsValueOf t) (filter (λ w. not (is_null w)) vs) → AllByRecursion (IsValueOf t) (cond b (v ∷ filter (λ w. not (is_null w)) vs) (filter (λ w. not (is_null w)) vs))
    by true g later = ((not-null v g, h.0 (not-null v g)), later)
    by false g later = later

column-lawful : (t : SqlType) (vs : List Value) → length vs ≤ MOST_ROWS → AllByRecursion (MayBe t) vs → (o : Option Family) → default_family_of t ≡ o → IsLawfulStatistics t (statistics_in o vs)
column-lawful t vs few h None e = record {
  some = omega arith;
  most = omega arith;
  few = omega arith;
  within = omega arith;
  different = λ i j d lt low. absurd (omega (arith, low));
  shared = λ i d lt. absurd (omega (arith, lt));
  whole = omega arith;
  bounds = omega arith;
  two = λ one. absurd (omega (arith, one));
  rising = λ n lt. absurd (omega (arith, lt));
  values = record { common = λ i d lt. absurd (omega (arith, lt)); histogram = λ i d lt. absurd (omega (arith, lt)) };
}
column-lawful t vs few h (Some f) e =
    let sorted = rising-few f vs in
    let nulls = null-count f vs in
    found-lawful t f e (length vs) (length (filter is_null vs)) (rising f vs) few (omega (arith, sorted, nulls)) (rising-up f vs) (each-in_order (ascending f) (IsValueOf t) (filter (λ v. not (is_null v)) vs) (known-typed t vs h))

pub columns-lawful : (h : Stored) → IsLawfulData h → (k : ℕ) → k < length h.columns → IsLawfulStatistics (slice_index_or h.columns k no_column).typed (statistics_of h k)
columns-lawful h lawful k lt =
    let t = (slice_index_or h.columns k no_column).typed in
    let long = length-map h.rows (λ (row : Values). slice_index_or row k Null) in
    column-lawful t (values_of k h.rows) (omega (arith, long, lawful.few)) (column-typed h.columns k lt h.rows (recursion_from_All (IsRowOf h.columns) h.rows lawful.each)) (default_family_of t) refl

-- the statistics of each column in turn are of values of its type
zip-range : (f : ℕ → Statistics) (cs : List Column) (from : ℕ) → ((k : ℕ) → k < length cs → AreValuesOf (slice_index_or cs k no_column).typed (f (from + k)))
    → AllZip (λ (c : Column) (s : Statistics). AreValuesOf c.typed s) cs (map f (range_with_len from (length cs)))
zip-range f [] from each = tt
zip-range f (c ∷ cs) from each =
    let first : from + 0 ≡ from = omega arith in (
      subst (λ n. AreValuesOf c.typed (f n)) first (each 0 (omega arith)),
      zip-range f cs (from + 1) (λ k lt. let same : from + suc k ≡ from + 1 + k = omega arith in subst (λ n. AreValuesOf (slice_index_or cs k no_column).typed (f n)) same (each (suc k) (omega (arith, lt)))),
    )

pub columns-fit : (h : Stored) → IsLawfulData h → FitColumns h.columns (table_statistics h).columns
columns-fit h lawful = zip-range (statistics_of h) h.columns 0 (λ k lt. let same : k ≡ 0 + k = omega arith in subst (λ n. AreValuesOf (slice_index_or h.columns k no_column).typed (statistics_of h n)) same (columns-lawful h lawful k lt).values)

counts-so : (n : ℕ) → n ≤ MOST_ROWS → is_count (max 1 n) ≡ true
counts-so n few = grind (arith, nat_tests)

few-pages : (n : ℕ) → n ≤ MOST_ROWS → (n + (ROWS_PER_PAGE - 1)) / ROWS_PER_PAGE ≤ MOST_ROWS
few-pages n few = omega (arith, few)

pub table-allowed : (h : Stored) → IsLawfulData h → IsAllowedTable (table_statistics h)
table-allowed h lawful = record {
  rows = counts-so (length h.rows) lawful.few;
  pages = counts-so ((length h.rows + (ROWS_PER_PAGE - 1)) / ROWS_PER_PAGE) (few-pages (length h.rows) lawful.few);
  columns = λ i d lt.
      let many = length-map-range_with_len (statistics_of h) 0 (length h.columns) in
      let within : i < length h.columns = omega (arith, many, lt) in
      let same = get_or-map-range_with_len (statistics_of h) 0 (length h.columns) i i d within (omega arith) in
      subst AreAllowed (sym same) (lawful-allowed (slice_index_or h.columns i no_column).typed (statistics_of h i) (columns-lawful h lawful i within));
}
