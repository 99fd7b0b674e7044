-- A hash index of the scan's relation: its one key, its one condition, and the rows that it gives.
use Rattle.std.proofs.Common.{◌≡◌, ◌+◌, ◌<◌, ◌≤◌, ℕ, Bool, true, false, ◌||◌, List, [], ◌∷◌, length, map, filter, refl, sym, ap, ap₂, ◌∙◌, subst, arith, inl, inr, All}
use Rattle.std.specs.Prelude.{get_or, nat_eq, nat_lt, slice_index_or}
use Rattle.std.specs.List.{list_any}
use Rattle.std.proofs.lemmas.Bool.{and_parts, eqb-true, ltb-true, true≢false}
use Rattle.std.proofs.lemmas.List.{length-map}
use Rattle.std.proofs.Math.Bool.{and-true}
use Rattle.std.proofs.lemmas.Simd.{map-map}
use Rattle.pg_base.specs.Sets.{has}
use Rattle.pg_base.specs.declared.numbers.ColNo.{ColNo}
use Rattle.pg_base.specs.declared.numbers.IndexNo.{IndexNo}
use Rattle.pg_base.specs.declared.numbers.RelNo.{RelNo}
use Rattle.pg_base.specs.declared.numbers.TableNo.{TableNo}
use Rattle.pg_base.specs.declared.numbers.Tid.{Tid}
use Rattle.pg_base.specs.declared.rel_set.RelSet.{RelSet}
use Rattle.pg_value.specs.declared.columns.Column.{Column}
use Rattle.pg_value.specs.declared.operators.Op.TheVariants.{Eq}
use Rattle.pg_value.specs.declared.value.Value.{Value}
use Rattle.pg_value.specs.work.Order.{IsOfFamily}
use Rattle.pg_value.specs.Truths.{is_true, truth_of_op}
use Rattle.opfamily.specs.Answers.{accepted}
use Rattle.opfamily.specs.KeyOrder.{IndexEntry, first_value, key_family}
use Rattle.opfamily.specs.declared.classes.IndexKey.{IndexKey}
use Rattle.opfamily.specs.declared.classes.Method.{Method}
use Rattle.opfamily.specs.declared.classes.Method.TheVariants.{Btree, Hash}
use Rattle.pg_expr.specs.Cond.{Cond}
use Rattle.std.specs.Borrow.{Bor}
use Rattle.pg_expr.specs.declared.expr.Expr.{Expr}
use Rattle.pg_expr.specs.work.View as view
use Rattle.pg_expr.specs.Truths.{truth_at}
use Rattle.pg_expr.proofs.PushedLaws.{IsDefined}
use Rattle.heap.specs.Stored.{IsRowOf, Values}
use Rattle.heap.specs.work.Tuples.{padded}
use Rattle.catalog.specs.Contents.{Contents, IsLawful, index_at, table_at}
use Rattle.catalog.specs.Indexes.{Index, IsKeyOf, IsLawfulIndex}
use Rattle.catalog.specs.Indexes as indexes
use Rattle.catalog.specs.Range.{Range, relation_at, type_in}
use Rattle.eq_classes.proofs.HoldLemmas.{in_map}
use Rattle.eq_classes.proofs.ListLemmas.{IsIn, all_from, in_filter}
use Rattle.hash_index.specs.work.Held.{Held, HashTable, rows_equal}
use Rattle.index_match.specs.Conditions.{allowed, has_key_form, index_conditions, is_condition, is_hash}
use Rattle.index_match.specs.Numbered.{Numbered, conditions_of, local}
use Rattle.sql_query.specs.Meaning.{all_true}
use Rattle.sql_query.specs.Queries.{Query, width}
use Rattle.sql_query.specs.Tuples.{Tuple, beside, rows_of_relation}
use Rattle.sql_query.specs.Worlds.{Holds, World, stored_at, world}
use Rattle.plan_tree.specs.Bitmaps.{IsIndexOn}
use Rattle.plan_tree.specs.Entries.{cell, entries, entries_over, entry_rows}
use Rattle.plan_tree.specs.Run.{at_which, clauses_at, index_scan_conditions, met}
use Rattle.plan_tree.specs.Space.{may_go}
use Rattle.store.specs.work.Kept.{Kept, built_by, built_of, first_key, hashed, held_of, hash_table}
use Rattle.store.proofs.FitLemmas.{key-fits, key-hashes}
use Rattle.store.proofs.StoreLemmas.{holds}
use Rattle.scan_probes.specs.work.Probes.{FitOwn, column_of, compared_with, is_known}
use Rattle.scan_probes.specs.work.Filters as refs
use Rattle.scan_probes.specs.work.Values.{Given, value_beside, value_in}
use Rattle.scan_probes.proofs.LawLemmas.{defined_beside, defined_sampled}
use Rattle.scan_probes.proofs.ProbeLemmas.{key_fits}
use Rattle.scan_exec.specs.work.Scene.{AreUsed, IsNear, IsScene, IsUsed}
use Rattle.scan_exec.specs.Coming.{fetched_row}
use Rattle.scan_exec.specs.work.Kinds.{IsReadyNumber, rows_of}
use Rattle.scan_exec.proofs.BegunLemmas.{clauses_ready, fetched_are}
use Rattle.pg_base.proofs.ListLemmas.{filter-map-is as filter_of_map}
use Rattle.scan_exec.proofs.MovedLemmas.{moved}
use Rattle.scan_exec.proofs.HashLemmas.{entries_rise, equal_rows, equals_true, fits_key}
use Rattle.scan_exec.proofs.IndexLemmas.{IsEntryAt}
use Rattle.scan_exec.proofs.NearLemmas.{clauses_near, true_at}
use Rattle.scan_exec.proofs.SeekLemmas.{at_entries, entries_are, filter_in_same, given_fits, lawful, own_fits, probes_known}

-- what was built of a hash index
pub is_hashed : (d : Index) (rows : List Values) (t : HashTable) → hashed t ≡ built_of d rows → d.method ≡ Hash
is_hashed d rows t e = by d.method refl e
  where
    by : (m : Method) → d.method ≡ m → hashed t ≡ built_by m d rows → d.method ≡ Hash
    by Btree is e = cc
    by Hash is e = is

pub table_is : (d : Index) (rows : List Values) (t : HashTable) → hashed t ≡ built_of d rows → t ≡ hash_table d rows
table_is d rows t e = by d.method e
  where
    by : (m : Method) → hashed t ≡ built_by m d rows → t ≡ hash_table d rows
    by Btree e = cc
    by Hash e = cc

one_passes : (test : IndexKey → Bool) (ks : List IndexKey) → nat_eq (length ks) 1 ≡ true → list_any test ks ≡ true → test (first_key ks) ≡ true
one_passes test [] one any = absurd (true≢false (sym one))
one_passes test (k ∷ []) one any = or_false (test k) any
  where
    or_false : (b : Bool) → b || false ≡ true → b ≡ true
    or_false true h = refl
    or_false false h = h
one_passes test (k ∷ l ∷ ks) one any =
    let e = eqb-true (length (k ∷ l ∷ ks)) 1 one in
    let long : length (k ∷ l ∷ ks) ≡ length ks + 2 = omega arith in
    absurd (omega (arith, e, long))

first_is : (k : IndexKey) (ks : List IndexKey) → nat_eq (length ks) 1 ≡ true → k ≡ get_or ks 0 k → k ≡ first_key ks
first_is k [] one is = absurd (true≢false (sym one))
first_is k (l ∷ ks) one is = is

first_read : (row : Values) (ks : List IndexKey) → nat_eq (length ks) 1 ≡ true → first_value (map (λ (k : IndexKey). cell row k.col) ks) ≡ cell row (first_key ks).col
first_read row [] one = absurd (true≢false (sym one))
first_read row (k ∷ ks) one = refl

-- a hash index has one condition
one_at_most : (m : Method) → m ≡ Hash → (cs : List Numbered) → length (conditions_of (allowed m cs)) ≤ 1
one_at_most Btree e cs = cc
one_at_most Hash e [] = omega arith
one_at_most Hash e (x ∷ cs) = omega arith

pub only_of : (es : List Cond) (vs : List (Bor Expr)) (x : Bor Expr) → refs.lent_conditions vs ≡ es → x ≡ get_or vs 0 x → 0 < length es → length es ≤ 1 → es ≡ view.cond x.now ∷ []
only_of es [] x are first some few = let e : 0 ≡ length es = ap length are in absurd (omega (arith, e, some))
only_of es (v ∷ []) x are first some few = sym are ∙ ap (λ (y : Bor Expr). view.cond y.now ∷ []) (sym first)
only_of es (v ∷ u ∷ vs) x are first some few =
    let e : length (refs.lent_conditions (v ∷ u ∷ vs)) ≡ length es = ap length are in
    let long : length (refs.lent_conditions (v ∷ u ∷ vs)) ≡ length (refs.lent_conditions vs) + 2 = omega arith in
    absurd (omega (arith, e, few, long))

pub hash_condition : (w : World) (q : Query) (r : RelNo) (i : IndexNo) (p : RelSet) → (index_at w.contents i).method ≡ Hash → nat_lt 0 (length (index_conditions w.contents q.classes i r.0 (has p.0))) ≡ true
    → (vs : List (Bor Expr)) (x : Bor Expr) → refs.lent_conditions vs ≡ index_scan_conditions w q r i p → x ≡ get_or vs 0 x → index_scan_conditions w q r i p ≡ view.cond x.now ∷ []
hash_condition w q r i p hash some vs x are first =
    let long = length-map (index_conditions w.contents q.classes i r.0 (has p.0)) (λ (y : Numbered). y.cond) in
    let lt = ltb-true 0 (length (index_conditions w.contents q.classes i r.0 (has p.0))) some in
    only_of (index_scan_conditions w q r i p) vs x are first (omega (arith, long, lt))
    (one_at_most (index_at w.contents i).method hash (filter (λ (y : Numbered). is_condition (index_at w.contents i) r.0 y.cond) (local q.classes r.0 (has p.0))))

pub first_in : (e : Cond) (es : List Cond) → es ≡ e ∷ [] → IsIn e es
first_in e es is = subst (IsIn e) (sym is) (inl refl)

pub forward : (m : Method) → m ≡ Hash → (b : Bool) (p : RelSet) → may_go b (is_hash m) p ≡ true → b ≡ false
forward Btree e b p h = cc
forward Hash e true p h = absurd (true≢false (sym h))
forward Hash e false p h = refl

module _ (c : Contents) (k : Kept) (q : Query) (r : RelNo) (p : RelSet) (outer : List Tid) (given : Given) (at : IsScene c k q r p outer given) (i : IndexNo) (on : IsIndexOn c q r.0 i) where
  -- the rows of entries are those of the relation
  pub met_within : (es : List Cond) (n : ℕ) → IsIn n (at_which (world c k.stored) q r (padded (width q) (has p.0) outer) es (entry_rows (world c k.stored) i)) → n < length (rows_of_relation (world c k.stored) q r)
  met_within es n j =
      let m = in_map (λ (x : IndexEntry). x.row) (entries (world c k.stored) i) n (in_filter (λ (y : ℕ). all_true (world c k.stored) q (beside q r.0 y (padded (width q) (has p.0) outer)) es) (entry_rows (world c k.stored) i) n j).0 in
      let is = (at_entries c k q r p outer given at i on m.0 m.1).within in
      let e : n ≡ (m.0).row = m.2 in
      omega (arith, is, e)

  -- the scan that begins with them
  module _ (c' : Contents) (s' : Range) (r' : RelNo) (cls' : List Cond) (rows' : List Values) (ce : c' ≡ c) (se : s' ≡ q.range) (re : r' ≡ r) (ee : cls' ≡ clauses_at (world c k.stored) q r p) (we : rows' ≡ rows_of_relation (world c k.stored) q r) (ns : List ℕ) (es : List Cond) (ne : ns ≡ at_which (world c k.stored) q r (padded (width q) (has p.0) outer) es (entry_rows (world c k.stored) i)) where
    within_rows : (n : ℕ) → IsIn n ns → n < length (rows_of_relation (world c k.stored) q r)
    within_rows n j = met_within es n (subst (IsIn n) ne j)

    pub hash_begins : All (IsReadyNumber c' s' r'.0 given cls' rows') ns
    hash_begins =
        moved (λ a l e f h. All (IsReadyNumber a l e.0 given f h) ns) c c' q.range s' r r' (clauses_at (world c k.stored) q r p) cls' (rows_of_relation (world c k.stored) q r) rows' ce se re ee we
        (clauses_ready c k q r p outer given at ns within_rows)

    pub hash_begun : index_scan_conditions (world c k.stored) q r i p ≡ es → rows_of r'.0 given cls' rows' ns ≡ map (fetched_row (world c k.stored) q r (padded (width q) (has p.0) outer) (clauses_at (world c k.stored) q r p)) (met (world c k.stored) q r i p (padded (width q) (has p.0) outer))
    hash_begun is =
        moved (λ a l e f h. rows_of e.0 given f h ns ≡ map (fetched_row (world c k.stored) q r (padded (width q) (has p.0) outer) (clauses_at (world c k.stored) q r p)) ns) c c' q.range s' r r' (clauses_at (world c k.stored) q r p) cls' (rows_of_relation (world c k.stored) q r) rows' ce se re ee we
        (fetched_are c k q r p outer given at (clauses_at (world c k.stored) q r p) (clauses_near c k q r p outer given at) ns within_rows)
        ∙ ap (map (fetched_row (world c k.stored) q r (padded (width q) (has p.0) outer) (clauses_at (world c k.stored) q r p)))
        (ne ∙ sym (ap (λ (x : List Cond). at_which (world c k.stored) q r (padded (width q) (has p.0) outer) x (entry_rows (world c k.stored) i)) is))

module _ (c : Contents) (k : Kept) (q : Query) (r : RelNo) (p : RelSet) (outer : List Tid) (given : Given) (at : IsScene c k q r p outer given) (i : IndexNo) (on : IsIndexOn c q r.0 i) (contents : IsLawful c) (e : Cond) (used : IsUsed c q r.0 (has p.0) i e) where
  abbrev w : World
  w = world c k.stored

  abbrev o : Tuple
  o = padded (width q) (has p.0) outer

  abbrev rows : List Values
  rows = rows_of_relation w q r

  abbrev d : Index
  d = index_at c i

  abbrev columns : List Column
  columns = (table_at c (relation_at q.range r).0).columns

  abbrev key : IndexKey
  key = first_key d.keys

  index_lawful : IsLawfulIndex columns d
  index_lawful = lawful c k q r p outer given at i on contents

  -- its condition alone is used
  one_used : AreUsed c q r p i (e ∷ [])
  one_used = all_from (IsUsed c q r.0 (has p.0) i) (e ∷ []) (λ x j. only x j)
    where
      only : (x : Cond) → IsIn x (e ∷ []) → IsUsed c q r.0 (has p.0) i x
      only x (inl same) = subst (IsUsed c q r.0 (has p.0) i) (sym same) used
      only x (inr none) = absurd none

  one_near : (x : Cond) → IsIn x (e ∷ []) → IsNear c q r.0 (has p.0) x
  one_near x (inl same) = subst (IsNear c q r.0 (has p.0)) (sym same) used.near
  one_near x (inr none) = absurd none

  pub value_known : is_known r.0 given e ≡ true
  value_known = (probes_known c k q r p outer given at i on (e ∷ []) one_used).0

  module _ (hash : d.method ≡ Hash) where
    one_key : nat_eq (length d.keys) 1 ≡ true
    one_key =
        let P : Method → Type 0 = λ m. indexes.has_form (record d { method = m }) ≡ true in
        (and_parts (nat_eq (length d.keys) 1) _ (subst P hash index_lawful.form)).0

    form_first : has_key_form Hash r.0 key e ≡ true
    form_first = one_passes (λ x. has_key_form Hash r.0 x e) d.keys one_key (subst (λ (m : Method). list_any (λ x. has_key_form m r.0 x e) d.keys ≡ true) hash used.form)

    pub first_of : (x : IndexKey) (ks : List IndexKey) → ks ≡ d.keys → x ≡ get_or ks 0 x → x ≡ key
    first_of x ks keys is = first_is x d.keys one_key (is ∙ ap (λ (l : List IndexKey). get_or l 0 x) keys)

    pub form_of : (x : IndexKey) (ks : List IndexKey) → ks ≡ d.keys → x ≡ get_or ks 0 x → has_key_form Hash r.0 x e ≡ true
    form_of x ks keys is = ap (λ (y : IndexKey). has_key_form Hash r.0 y e) (first_of x ks keys is) ∙ form_first

    of_key : IsKeyOf columns d.method key
    of_key = first_at d.keys one_key index_lawful.fits.keys
      where
        first_at : (ks : List IndexKey) → nat_eq (length ks) 1 ≡ true → All (IsKeyOf columns d.method) ks → IsKeyOf columns d.method (first_key ks)
        first_at [] one all = absurd (true≢false (sym one))
        first_at (x ∷ ks) one all = all 0 x (omega arith)

    accepts : accepted key.class Hash (type_in c q.range (column_of r.0 key.col)) ≡ true
    accepts = subst (λ (m : Method). accepted key.class m (type_in c q.range (column_of r.0 key.col)) ≡ true) hash of_key.class

    defined_at : (own : ColNo → Value) → FitOwn (type_in c q.range) r.0 own → IsDefined (value_beside r.0 own given) e
    defined_at own fit = defined_beside (type_in c q.range) r.0 given (given_fits c k q r p outer given at) own fit e used.near.typed

    abbrev value : Value
    value = compared_with r.0 key given e

    pub value_fits : IsOfFamily (key_family key) value
    value_fits =
        fits_key r.0 key given (type_in c q.range) e (key_fits key Hash (type_in c q.range (column_of r.0 key.col)) accepts) form_first
        (defined_sampled (type_in c q.range) r.0 given (given_fits c k q r p outer given at) e used.near.typed)

    abbrev es : List IndexEntry
    es = entries_over d rows

    here : (x : IndexEntry) → IsIn x es → IsEntryAt d rows x
    here x j = at_entries c k q r p outer given at i on x (subst (IsIn x) (sym (entries_are c k q r p outer given at i on)) j)

    value_of_entry : (x : IndexEntry) → IsEntryAt d rows x → first_value x.keys ≡ value_in (slice_index_or rows x.row []) key.col
    value_of_entry x is = ap (λ (y : IndexEntry). first_value y.keys) is.is ∙ first_read (slice_index_or rows x.row []) d.keys one_key

    row_lawful : (n : ℕ) → n < length rows → IsRowOf columns (slice_index_or rows n [])
    row_lawful n lt =
        let t : TableNo = (relation_at q.range r).0 in
        let h : Holds (table_at c t) (stored_at w t) = holds c k at.store t (at.bound.range.tables r.0 (record { 0 = 0 }, []) at.relation) in
        subst (λ (l : List Column). IsRowOf l (slice_index_or rows n [])) h.columns (h.lawful.each n [] lt)

    all_fit : (x : Held) → IsIn x (map held_of es) → IsOfFamily (key_family key) x.value
    all_fit x j =
        let m = in_map held_of es x j in
        let is = here m.0 m.1 in
        subst (IsOfFamily (key_family key)) (sym (ap (λ (y : Held). y.value) m.2 ∙ value_of_entry m.0 is))
        (key-fits columns d.method key (slice_index_or rows (m.0).row []) of_key (row_lawful (m.0).row is.within))

    equal_at : (x : IndexEntry) → IsEntryAt d rows x → is_true (truth_of_op Eq (held_of x).value value) ≡ all_true w q (beside q r.0 x.row o) (e ∷ [])
    equal_at x is =
        let own = value_in (slice_index_or rows x.row []) in
        equals_true r.0 key given own (first_value x.keys) (value_of_entry x is) e form_first (defined_at own (own_fits c k q r p outer given at x.row))
        ∙ sym (and-true (is_true (truth_at (value_beside r.0 own given) e)))
        ∙ true_at c k q r p outer given at x.row is.within (e ∷ []) one_near

    pub rows_are : rows_equal value (hash_table d rows).held ≡ at_which w q r o (e ∷ []) (entry_rows w i)
    rows_are =
        equal_rows key (key-hashes (type_in c q.range (column_of r.0 key.col)) key accepts) value value_fits (map held_of es) (entries_rise d rows hash) all_fit
        ∙ ap (map (λ (h : Held). h.row)) (filter_of_map (λ (h : Held). is_true (truth_of_op Eq h.value value)) held_of es)
        ∙ map-map (λ (h : Held). h.row) held_of (filter (λ (x : IndexEntry). is_true (truth_of_op Eq (held_of x).value value)) es)
        ∙ ap (map (λ (x : IndexEntry). x.row)) (filter_in_same (λ (x : IndexEntry). is_true (truth_of_op Eq (held_of x).value value)) (λ (x : IndexEntry). all_true w q (beside q r.0 x.row o) (e ∷ [])) es (λ x j. equal_at x (here x j)))
        ∙ sym (filter_of_map (λ (n : ℕ). all_true w q (beside q r.0 n o) (e ∷ [])) (λ (x : IndexEntry). x.row) es)
        ∙ ap (λ (l : List IndexEntry). at_which w q r o (e ∷ []) (map (λ (x : IndexEntry). x.row) l)) (sym (entries_are c k q r p outer given at i on))

    -- in what a call was handed
    pub value_fits_table : (t : HashTable) → hashed t ≡ built_of d rows → (v : Value) (x : IndexKey) → x ≡ key → v ≡ compared_with r.0 x given e → IsOfFamily (key_family t.key) v
    value_fits_table t built v x first is =
        subst (λ (y : IndexKey). IsOfFamily (key_family y) v) (sym (ap (λ (y : HashTable). y.key) (table_is d rows t built)))
        (subst (IsOfFamily (key_family key)) (sym (is ∙ ap (λ (y : IndexKey). compared_with r.0 y given e) first)) value_fits)

    pub table_rows : (t : HashTable) → hashed t ≡ built_of d rows → (v : Value) (x : IndexKey) → x ≡ key → v ≡ compared_with r.0 x given e → rows_equal v t.held ≡ at_which w q r o (e ∷ []) (entry_rows w i)
    table_rows t built v x first is =
        ap₂ (λ (y : Value) (z : HashTable). rows_equal y z.held) (is ∙ ap (λ (y : IndexKey). compared_with r.0 y given e) first) (table_is d rows t built) ∙ rows_are
