-- The run of an index scan is in the order of the scan's keys: from the order of entries to that of classes.
use Rattle.std.proofs.Common.{◌≡◌, Ordering, Less, Equal, Greater, ℕ, ◌<◌, Bool, true, false, cond, ◌||◌, List, [], ◌∷◌, map, filter, length, refl, sym, ap, ap₂, ◌∙◌, subst, ⊎_elim}
use Rattle.std.specs.Prelude.{Option, None, Some, nat_eq, slice_index_or}
use Rattle.std.specs.List.{AllByRecursion, list_any, range_with_len}
use Rattle.std.specs.Ordering.{is_gt, ordering_then, nat_cmp}
use Rattle.std.proofs.lemmas.Bool.{or_cases, and_parts, true≢false, eq-eqb, eqb-true}
use Rattle.pg_base.specs.Sets.{has}
use Rattle.pg_base.specs.declared.numbers.RelNo.{RelNo}
use Rattle.pg_base.specs.declared.numbers.TableNo.{TableNo}
use Rattle.pg_base.specs.declared.numbers.IndexNo.{IndexNo}
use Rattle.pg_base.specs.declared.rel_set.RelSet.{RelSet}
use Rattle.pg_value.specs.declared.operators.Family.{Family}
use Rattle.pg_value.specs.declared.value.Value.{Value}
use Rattle.pg_value.specs.ColumnOrder.{column_order}
use Rattle.pg_value.specs.Sorting.{in_order}
use Rattle.pg_value.proofs.ColumnOrderLemmas.{column_total}
use Rattle.opfamily.specs.KeyOrder.{key_family, key_values_order as values_order, IndexEntry, entry_order}
use Rattle.opfamily.specs.declared.classes.IndexKey.{IndexKey}
use Rattle.opfamily.specs.declared.classes.Method.{Method}
use Rattle.opfamily.specs.declared.classes.Method.TheVariants.{Btree, Hash}
use Rattle.opfamily.proofs.KeyOrderLemmas.{entries_total}
use Rattle.pg_expr.specs.declared.operand.ColRef.{ColRef}
use Rattle.heap.specs.Stored.{Values}
use Rattle.catalog.specs.Contents.{index_at}
use Rattle.catalog.specs.Indexes.{Index}
use Rattle.eq_classes.specs.Clauses.{Set, one, ClassTable, first_in}
use Rattle.eq_classes.specs.Listing.{class_at}
use Rattle.eq_classes.specs.Parts.{is_all, is_base}
use Rattle.eq_classes.proofs.ListLemmas.{found_in, found_passes}
use Rattle.eq_classes.proofs.SoundLemmas.{in_member}
use Rattle.sql_query.specs.Meaning.{all_true}
use Rattle.sql_query.specs.Queries.{Query, width}
use Rattle.sql_query.specs.Tuples.{Tuple, row_of, one_row, beside, value_at, rows_of_relation}
use Rattle.sql_query.specs.WellBound.{IsWellBound}
use Rattle.sql_query.specs.Worlds.{World, IsWorld, stored_at}
use Rattle.pathkeys.specs.Keys.{Keys, class_of_key, key_column, ends, passes, gives, step_of, keys_from, keys_by, has_direction, turned, is_same_direction, is_constant}
use Rattle.pathkeys.specs.Sorted.{class_order, order_at, keys_order}
use Rattle.plan_tree.specs.Entries.{cell, meets_predicate, entry, ordered, entries_over, entry_rows}
use Rattle.plan_tree.specs.Keys.{scan_keys}
use Rattle.plan_tree.specs.Plans.{is_empty}
use Rattle.plan_tree.specs.Run.{in_scan_direction, index_scan_conditions, clauses_at, index_rows, tuples}
use Rattle.plan_tree.specs.Space.{IsIndexScan}
use Rattle.plan_laws.specs.work.Meant.{holds_at}
use Rattle.plan_laws.proofs.ClauseLemmas.{one_is_base, local_base}
use Rattle.plan_laws.proofs.EachLemmas.{each_made}
use Rattle.pg_base.proofs.ListLemmas.{filter-passes}
use Rattle.plan_laws.proofs.FilterLemmas.{each_Perm}
use Rattle.plan_laws.proofs.PermLemmas.{Perm-sym}
use Rattle.plan_laws.proofs.ReorderLemmas.{Perm-in_order}
use Rattle.plan_laws.proofs.ScanLemmas.{clauses_hold, base_of_tested}
use Rattle.plan_laws.proofs.TupleLemmas.{row_at}
use Rattle.plan_laws.proofs.IndexOrderLemmas.{way, column_way, way_ties, way_then, up_reverse, up_mapped, row_order, rows_order, key_values, by_key_values, KeyClass, class_found, first_of, equal_bools}
use Rattle.plan_laws.proofs.KeyLemmas.{AreKeys, by_keys, no_keys_up}
use Rattle.plan_laws.proofs.TieLemmas.{tie_in_all, members_alike, constants_tie}
use Rattle.plan_laws.proofs.TotalLemmas.{IsUp, in_order_up, up_filter}

-- the keys of an index are classes with members in the relation
keys_from_are : (t : ClassTable) (r : ℕ) (backward : Bool) (taken : Keys) (ks : List IndexKey) → AreKeys t (one r) (keys_from t r backward taken ks)
keys_from_are t r backward taken [] = tt
keys_from_are t r backward taken (k ∷ ks) = by (λ more. keys_from_are t r backward more ks) (class_of_key t r k) refl
  where
    by_tests : ((more : Keys) → AreKeys t (one r) (keys_from t r backward more ks)) → (n : ℕ) → KeyClass t r k n → (A D : Bool)
        → AreKeys t (one r) (elim (cond A passes (cond D (gives n) ends)) [ ends ↦ [] | passes ↦ keys_from t r backward taken ks | gives m ↦ m ∷ keys_from t r backward (m ∷ taken) ks ])
    by_tests later n key true D = later taken
    by_tests later n key false true = let first = first_of t r k n key in (record { class = key.class; member = first.0; first = first.1 }, later (n ∷ taken))
    by_tests later n key false false = tt

    by : ((more : Keys) → AreKeys t (one r) (keys_from t r backward more ks)) → (o : Option ℕ) → class_of_key t r k ≡ o
        → AreKeys t (one r) (elim (step_of t backward taken k o) [ ends ↦ [] | passes ↦ keys_from t r backward taken ks | gives m ↦ m ∷ keys_from t r backward (m ∷ taken) ks ])
    by later None e = tt
    by later (Some n) e = by_tests later n (class_found t (key_column r k) (key_family k) n e) (is_constant t n || list_any (nat_eq n) taken) (has_direction backward k (class_at t.classes n))

keys_by_are : (m : Method) (t : ClassTable) (r : ℕ) (backward : Bool) (ks : List IndexKey) → AreKeys t (one r) (keys_by m t r backward ks)
keys_by_are Btree t r backward ks = keys_from_are t r backward [] ks
keys_by_are Hash t r backward ks = tt

-- of two orders, one after the other
after_equal : (a b : Ordering) → a ≡ Equal → is_gt (ordering_then a b) ≡ false → is_gt b ≡ false
after_equal Equal b e h = h
after_equal Less b e h = absurd (differ e)
  where
    differ : Less ≡ Equal → ⊥
    differ x = cc
after_equal Greater b e h = absurd (true≢false h)

pub after_same : (a b c : Ordering) → is_gt (ordering_then a b) ≡ false → (a ≡ Equal → is_gt b ≡ false → is_gt c ≡ false) → is_gt (ordering_then a c) ≡ false
after_same Less b c h f = refl
after_same Equal b c h f = f refl h
after_same Greater b c h f = h

module _ (w : World) (q : Query) (world : IsWorld w) (bound : IsWellBound w.contents q) (r : RelNo) (lt : r.0 < width q) (x y : ℕ)
    (holds_x : holds_at w q (one_row q r.0 x) (is_all (one r.0)) ≡ true) (holds_y : holds_at w q (one_row q r.0 y) (is_all (one r.0)) ≡ true) where
  abbrev rows : List Values
  rows = rows_of_relation w q r

  abbrev b : ColRef → Value
  b = value_at w q (one_row q r.0 x)

  abbrev d : ColRef → Value
  d = value_at w q (one_row q r.0 y)

  own : one r.0 r.0 ≡ true
  own = eq-eqb r.0 r.0 refl

  row_value : (row : ℕ) (k : IndexKey) → value_at w q (one_row q r.0 row) (key_column r.0 k) ≡ cell (slice_index_or rows row []) k.col
  row_value row k = ap (λ (n : ℕ). cell (slice_index_or rows n []) k.col) (row_at (width q) (λ j. cond (one r.0 j) row 0) r.0 lt ∙ ap (λ (v : Bool). cond v row 0) own)

  -- a key column orders as the first member of its class
  first_alike : (k : IndexKey) (n : ℕ) → KeyClass q.classes r.0 k n → (z : ColRef) → first_in (class_at q.classes.classes n) (one r.0) ≡ Some z → (e m : Bool)
      → column_order (class_at q.classes.classes n).family e m (b (key_column r.0 k)) (d (key_column r.0 k)) ≡ column_order (class_at q.classes.classes n).family e m (b z) (d z)
  first_alike k n key z first e m =
      let c = class_at q.classes.classes n in
      members_alike w q world bound (one r.0) c key.class (one_row q r.0 x) (one_row q r.0 y) holds_x holds_y (key_column r.0 k) z key.member (in_member c z (found_in (λ u. one r.0 u.rel.0) c.members z first)) own (found_passes (λ u. one r.0 u.rel.0) c.members z first) e m

  key_value : (backward : Bool) (k : IndexKey) (n : ℕ) → KeyClass q.classes r.0 k n → way backward (row_order rows k) x y ≡ way backward (column_order (class_at q.classes.classes n).family k.descending k.nulls_first) (b (key_column r.0 k)) (d (key_column r.0 k))
  key_value backward k n key =
      ap (λ (f : Family). way backward (λ (i j : ℕ). column_order f k.descending k.nulls_first (cell (slice_index_or rows i []) k.col) (cell (slice_index_or rows j []) k.col)) x y) key.family
      ∙ by backward
    where
      F : Family
      F = (class_at q.classes.classes n).family

      by : (v : Bool) → way v (λ (i j : ℕ). column_order F k.descending k.nulls_first (cell (slice_index_or rows i []) k.col) (cell (slice_index_or rows j []) k.col)) x y ≡ way v (column_order F k.descending k.nulls_first) (b (key_column r.0 k)) (d (key_column r.0 k))
      by true = ap₂ (column_order F k.descending k.nulls_first) (sym (row_value y k)) (sym (row_value x k))
      by false = ap₂ (column_order F k.descending k.nulls_first) (sym (row_value x k)) (sym (row_value y k))

  abbrev TiesAt : ℕ → Type 0
  TiesAt n = class_order (class_at q.classes.classes n) (one r.0) b d ≡ Equal

  among : (n : ℕ) (taken : Keys) → AllByRecursion TiesAt taken → list_any (nat_eq n) taken ≡ true → TiesAt n
  among n [] h g = absurd (true≢false (sym g))
  among n (m ∷ ms) h g = ⊎_elim (λ (here : nat_eq n m ≡ true). subst TiesAt (sym (eqb-true n m here)) h.0) (λ (later : list_any (nat_eq n) ms ≡ true). among n ms h.1 later) (or_cases (nat_eq n m) (list_any (nat_eq n) ms) g)

  constant_ties : (backward : Bool) (k : IndexKey) (n : ℕ) → KeyClass q.classes r.0 k n → is_constant q.classes n ≡ true → way backward (row_order rows k) x y ≡ Equal
  constant_ties backward k n key h =
      let c = class_at q.classes.classes n in
      key_value backward k n key
      ∙ way_ties (column_order c.family k.descending k.nulls_first) (column_total c.family k.descending k.nulls_first) backward (b (key_column r.0 k)) (d (key_column r.0 k))
      (constants_tie w q world bound (one r.0) c key.class (one_row q r.0 x) (one_row q r.0 y) holds_x holds_y (key_column r.0 k) h key.member own k.descending k.nulls_first)

  taken_ties : (backward : Bool) (k : IndexKey) (n : ℕ) → KeyClass q.classes r.0 k n → TiesAt n → way backward (row_order rows k) x y ≡ Equal
  taken_ties backward k n key h =
      let c = class_at q.classes.classes n in
      let first = first_of q.classes r.0 k n key in
      key_value backward k n key
      ∙ way_ties (column_order c.family k.descending k.nulls_first) (column_total c.family k.descending k.nulls_first) backward (b (key_column r.0 k)) (d (key_column r.0 k))
      (tie_in_all c.family c.descending c.nulls_first k.descending k.nulls_first (b (key_column r.0 k)) (d (key_column r.0 k))
      (first_alike k n key first.0 first.1 c.descending c.nulls_first ∙ ap (λ (o : Option ColRef). order_at c o b d) (sym first.1) ∙ h))

  given_order : (backward : Bool) (k : IndexKey) (n : ℕ) → KeyClass q.classes r.0 k n → has_direction backward k (class_at q.classes.classes n) ≡ true → way backward (row_order rows k) x y ≡ class_order (class_at q.classes.classes n) (one r.0) b d
  given_order backward k n key h =
      let c = class_at q.classes.classes n in
      let first = first_of q.classes r.0 k n key in
      let parts : (is_same_direction (turned backward k.descending) c.descending ≡ true) × (is_same_direction (turned backward k.nulls_first) c.nulls_first ≡ true) = and_parts (is_same_direction (turned backward k.descending) c.descending) (is_same_direction (turned backward k.nulls_first) c.nulls_first) h in
      key_value backward k n key
      ∙ column_way c.family backward k.descending k.nulls_first (b (key_column r.0 k)) (d (key_column r.0 k))
      ∙ ap₂ (λ (e m : Bool). column_order c.family e m (b (key_column r.0 k)) (d (key_column r.0 k))) (equal_bools (turned backward k.descending) c.descending parts.0) (equal_bools (turned backward k.nulls_first) c.nulls_first parts.1)
      ∙ first_alike k n key first.0 first.1 c.descending c.nulls_first
      ∙ ap (λ (o : Option ColRef). order_at c o b d) (sym first.1)

  abbrev Ups : Keys → Type 0
  Ups keys = is_gt (keys_order (λ (v : ColRef → Value). v) q.classes (one r.0) keys b d) ≡ false

  -- rows in the order of entries are in that of the keys
  pub keys_from_up : (backward : Bool) (ks : List IndexKey) (taken : Keys) → AllByRecursion TiesAt taken → is_gt (way backward (rows_order rows ks) x y) ≡ false → Ups (keys_from q.classes r.0 backward taken ks)
  keys_from_up backward [] taken ties h = refl
  keys_from_up backward (k ∷ ks) taken ties h =
      by (λ more. keys_from_up backward ks more) (class_of_key q.classes r.0 k) refl (sym (ap is_gt (way_then (row_order rows k) (map (row_order rows) ks) backward x y)) ∙ h)
    where
      by_tests : ((more : Keys) → AllByRecursion TiesAt more → is_gt (way backward (rows_order rows ks) x y) ≡ false → Ups (keys_from q.classes r.0 backward more ks))
          → (n : ℕ) → KeyClass q.classes r.0 k n → (A B D : Bool) → is_constant q.classes n ≡ A → list_any (nat_eq n) taken ≡ B → has_direction backward k (class_at q.classes.classes n) ≡ D
          → is_gt (ordering_then (way backward (row_order rows k) x y) (way backward (rows_order rows ks) x y)) ≡ false
          → Ups (elim (cond (A || B) passes (cond D (gives n) ends)) [ ends ↦ [] | passes ↦ keys_from q.classes r.0 backward taken ks | gives m ↦ m ∷ keys_from q.classes r.0 backward (m ∷ taken) ks ])
      by_tests later n key true B D is_a is_b is_d g = later taken ties (after_equal (way backward (row_order rows k) x y) (way backward (rows_order rows ks) x y) (constant_ties backward k n key is_a) g)
      by_tests later n key false true D is_a is_b is_d g = later taken ties (after_equal (way backward (row_order rows k) x y) (way backward (rows_order rows ks) x y) (taken_ties backward k n key (among n taken ties is_b)) g)
      by_tests later n key false false true is_a is_b is_d g =
          let same = given_order backward k n key is_d in
          after_same (class_order (class_at q.classes.classes n) (one r.0) b d) (way backward (rows_order rows ks) x y) (keys_order (λ (v : ColRef → Value). v) q.classes (one r.0) (keys_from q.classes r.0 backward (n ∷ taken) ks) b d)
          (ap (λ (o : Ordering). is_gt (ordering_then o (way backward (rows_order rows ks) x y))) (sym same) ∙ g)
          (λ tie rest. later (n ∷ taken) (tie, ties) rest)
      by_tests later n key false false false is_a is_b is_d g = refl

      by : ((more : Keys) → AllByRecursion TiesAt more → is_gt (way backward (rows_order rows ks) x y) ≡ false → Ups (keys_from q.classes r.0 backward more ks))
          → (o : Option ℕ) → class_of_key q.classes r.0 k ≡ o
          → is_gt (ordering_then (way backward (row_order rows k) x y) (way backward (rows_order rows ks) x y)) ≡ false
          → Ups (elim (step_of q.classes backward taken k o) [ ends ↦ [] | passes ↦ keys_from q.classes r.0 backward taken ks | gives m ↦ m ∷ keys_from q.classes r.0 backward (m ∷ taken) ks ])
      by later None e g = refl
      by later (Some n) e g = by_tests later n (class_found q.classes (key_column r.0 k) (key_family k) n e) (is_constant q.classes n) (list_any (nat_eq n) taken) (has_direction backward k (class_at q.classes.classes n)) refl refl refl g

-- an order by keys reads the values alone
read_alike : {X : Type 0} (value : X → ColRef → Value) (t : ClassTable) (set : Set) (keys : Keys) (x y : X) → keys_order value t set keys x y ≡ keys_order (λ (v : ColRef → Value). v) t set keys (value x) (value y)
read_alike value t set [] x y = refl
read_alike value t set (n ∷ ns) x y = ap (ordering_then (class_order (class_at t.classes n) set (value x) (value y))) (read_alike value t set ns x y)

-- the entries of a B-tree as rows are in the order of the rows by its keys
not_after : (a b : Ordering) → is_gt (ordering_then a b) ≡ false → is_gt a ≡ false
not_after Less b h = refl
not_after Equal b h = refl
not_after Greater b h = h

abbrev IsEntryOf : Index → List Values → IndexEntry → Type 0
IsEntryOf d rows e = e.keys ≡ key_values rows d.keys e.row

entries_up : (d : Index) (rows : List Values) → d.method ≡ Btree → IsUp (rows_order rows d.keys) (map (λ (e : IndexEntry). e.row) (entries_over d rows))
entries_up d rows btree =
    let ns = filter (λ n. meets_predicate d.predicate (slice_index_or rows n [])) (range_with_len 0 (length rows)) in
    let es = map (entry d rows) ns in
    subst (λ (m : Method). IsUp (rows_order rows d.keys) (map (λ (e : IndexEntry). e.row) (ordered m d.keys es))) (sym btree)
    (up_mapped (entry_order d.keys) (rows_order rows d.keys) (IsEntryOf d rows) (λ (e : IndexEntry). e.row)
    (λ e f he hf up. ap is_gt (sym (by_key_values rows d.keys e.row f.row)) ∙ ap is_gt (ap₂ (values_order d.keys) (sym he) (sym hf)) ∙ not_after (values_order d.keys e.keys f.keys) (nat_cmp e.row f.row) up)
    (in_order (entry_order d.keys) es)
    (each_Perm (IsEntryOf d rows) es (in_order (entry_order d.keys) es) (Perm-sym (in_order (entry_order d.keys) es) es (Perm-in_order (entry_order d.keys) es)) (each_made (IsEntryOf d rows) (entry d rows) (λ n. refl) ns))
    (in_order_up (entry_order d.keys) (entries_total d.keys) es))

module _ (w : World) (q : Query) where
  directed_up : (backward : Bool) (R : ℕ → ℕ → Ordering) (ns : List ℕ) → IsUp R ns → IsUp (way backward R) (in_scan_direction w q backward ns)
  directed_up false R ns h = h
  directed_up true R ns h = up_reverse R ns h

  -- the keys of an index scan that is given no rows are classes with members in its relation
  pub scan_keys_are : (r : RelNo) (i : IndexNo) (backward : Bool) (p : RelSet) → is_empty p ≡ true → AreKeys q.classes (one r.0) (scan_keys w.contents q r i backward p)
  scan_keys_are r i backward p e =
      subst (λ (v : Bool). AreKeys q.classes (one r.0) (cond v (keys_by (index_at w.contents i).method q.classes r.0 backward (index_at w.contents i).keys) [])) (sym e)
      (keys_by_are (index_at w.contents i).method q.classes r.0 backward (index_at w.contents i).keys)

  module _ (world : IsWorld w) (bound : IsWellBound w.contents q) where
    -- the clauses over a relation are True at its row alone where they are beside the rows of others
    base_alone : (r : ℕ) → r < width q → (o : Tuple) (row : ℕ) → holds_at w q (beside q r row o) (is_base r) ≡ true → holds_at w q (one_row q r row) (is_all (one r)) ≡ true
    base_alone r lt o row h =
        one_is_base w q world bound (one_row q r row) r
        ∙ local_base w q world bound (one_row q r row) (beside q r row o) r (λ k is.
        let low : k < width q = subst (λ (j : ℕ). j < width q) (sym (eqb-true k r is)) lt in
        (row_at (width q) (λ j. cond (one r j) row 0) k low ∙ ap (λ (v : Bool). cond v row 0) is)
        ∙ sym (row_at (width q) (λ j. cond (one r j) row (row_of o j)) k low ∙ ap (λ (v : Bool). cond v row (row_of o k)) is))
        ∙ h

    scan_up_by : (r : RelNo) (i : IndexNo) (backward : Bool) (p : RelSet) (o : Tuple) → IsIndexScan w.contents q r i backward p → (m : Method) → (index_at w.contents i).method ≡ m
        → IsUp (by_keys w q (one r.0) (keys_by m q.classes r.0 backward (index_at w.contents i).keys)) (tuples w q r (index_rows w q r i backward p o))
    scan_up_by r i backward p o is Hash e = no_keys_up w q (one r.0) (tuples w q r (index_rows w q r i backward p o))
    scan_up_by r i backward p o is Btree e =
        let rows = rows_of_relation w q r in
        let index = index_at w.contents i in
        let ks = index.keys in
        let E = rows_order rows ks in
        let clause = λ (row : ℕ). all_true w q (beside q r.0 row o) (clauses_at w q r p) in
        let condition = λ (row : ℕ). all_true w q (beside q r.0 row o) (index_scan_conditions w q r i p) in
        let entries : IsUp E (entry_rows w i) =
        subst (λ (t : TableNo). IsUp E (map (λ (e : IndexEntry). e.row) (entries_over index (stored_at w t).rows))) (sym is.index.table) (entries_up index rows e) in
        let holds = λ (row : ℕ) (h : clause row ≡ true). base_alone r.0 is.relation o row (base_of_tested w q r.0 (has p.0) (beside q r.0 row o) (sym (clauses_hold w q r p o row) ∙ h)) in
        up_mapped (way backward E) (by_keys w q (one r.0) (keys_from q.classes r.0 backward [] ks)) (λ (row : ℕ). clause row ≡ true) (one_row q r.0)
        (λ x y hx hy up. ap is_gt (read_alike (value_at w q) q.classes (one r.0) (keys_from q.classes r.0 backward [] ks) (one_row q r.0 x) (one_row q r.0 y))
        ∙ keys_from_up w q world bound r is.relation x y (holds x hx) (holds y hy) backward ks [] tt up)
        (index_rows w q r i backward p o)
        (filter-passes clause (in_scan_direction w q backward (filter condition (entry_rows w i))))
        (up_filter (way backward E) clause (in_scan_direction w q backward (filter condition (entry_rows w i))) (directed_up backward E (filter condition (entry_rows w i)) (up_filter E condition (entry_rows w i) entries)))

    pub scan_is_up : (r : RelNo) (i : IndexNo) (backward : Bool) (p : RelSet) (o : Tuple) → IsIndexScan w.contents q r i backward p → is_empty p ≡ true → IsUp (by_keys w q (one r.0) (scan_keys w.contents q r i backward p)) (tuples w q r (index_rows w q r i backward p o))
    scan_is_up r i backward p o is e =
        subst (λ (v : Bool). IsUp (by_keys w q (one r.0) (cond v (keys_by (index_at w.contents i).method q.classes r.0 backward (index_at w.contents i).keys) [])) (tuples w q r (index_rows w q r i backward p o))) (sym e)
        (scan_up_by r i backward p o is (index_at w.contents i).method refl)
