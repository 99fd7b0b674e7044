-- The entries of an index of the scan's relation: each is of a row, its values are those of the row, and conditions of the
-- index can be tested there.
use Rattle.std.proofs.Common.{◌≡◌, ◌+◌, ◌<◌, ℕ, zero, suc, Bool, true, false, not, cond, ◌&&◌, ◌||◌, nat_eq, List, [], ◌∷◌, length, map, filter, refl, sym, ap, ◌∙◌, subst, arith, ⊎_elim, inl, inr, All}
use Rattle.std.specs.Prelude.{slice_index_or}
use Rattle.std.specs.List.{AllByRecursion, list_any, range_with_len}
use Rattle.std.proofs.lemmas.Bool.{and_parts, and_from, or_cases, or_left, or_right, true≢false, eq-eqb, eqb-true, lt-ltb}
use Rattle.std.proofs.lemmas.List.{length-map}
use Rattle.pg_base.specs.Sets.{has}
use Rattle.pg_base.specs.declared.numbers.ColNo.{ColNo}
use Rattle.pg_base.specs.declared.numbers.IndexNo.{IndexNo}
use Rattle.pg_base.specs.declared.numbers.RelNo.{RelNo}
use Rattle.pg_base.specs.declared.numbers.Tid.{Tid}
use Rattle.pg_base.specs.declared.rel_set.RelSet.{RelSet}
use Rattle.pg_value.specs.declared.columns.Column.{Column}
use Rattle.pg_value.specs.declared.value.Value.{Value}
use Rattle.pg_value.specs.declared.value.Value.TheVariants.{Null}
use Rattle.pg_value.proofs.SortingLemmas.{All-in_order}
use Rattle.opfamily.specs.KeyOrder.{IndexEntry, entry_order}
use Rattle.opfamily.specs.declared.classes.IndexKey.{IndexKey}
use Rattle.opfamily.specs.declared.classes.Method.{Method}
use Rattle.opfamily.specs.declared.classes.Method.TheVariants.{Btree, Hash}
use Rattle.opfamily.proofs.KeyOrderLemmas.{entries_total}
use Rattle.pg_expr.specs.declared.operand.ColRef.{ColRef}
use Rattle.pg_expr.specs.declared.operand.Operand.{Operand}
use Rattle.pg_expr.specs.declared.operand.Operand.TheVariants.{Col, Lit}
use Rattle.pg_expr.specs.Columns.{each_column, passes_column}
use Rattle.pg_expr.specs.Cond.{Cond, compare, is_null, is_not_null, bool_col, const, all_of, any_of, negation}
use Rattle.pg_expr.proofs.ColumnLaws.{weaker-each}
use Rattle.heap.specs.Stored.{Values}
use Rattle.heap.specs.work.Tuples.{padded}
use Rattle.catalog.specs.Contents.{Contents, index_at}
use Rattle.catalog.specs.Indexes.{Index, IsLawfulIndex}
use Rattle.eq_classes.proofs.HoldLemmas.{in_map}
use Rattle.eq_classes.proofs.ListLemmas.{IsIn, all_from, any_at, in_filter}
use Rattle.index_match.specs.Conditions.{has_key_form, is_condition, is_hash, is_key, is_key_side, is_family_operator, is_outside}
use Rattle.sql_query.specs.Meaning.{all_true}
use Rattle.sql_query.specs.Queries.{Query, width}
use Rattle.sql_query.specs.Tuples.{Tuple, beside, rows_of_relation}
use Rattle.sql_query.specs.Worlds.{World, world}
use Rattle.plan_tree.specs.Entries.{cell, entries_over, entry, meets_predicate, ordered}
use Rattle.store.specs.work.Kept.{Kept}
use Rattle.scan_probes.specs.work.Scenes.{AreReadyAtEntry, IsTestable}
use Rattle.scan_probes.specs.work.Values as values
use Rattle.scan_probes.specs.work.Values.{Given, are_true, has_entry_value, is_held, key_columns, value_among, value_beside, value_in, value_in_entry}
use Rattle.scan_probes.proofs.WorldLemmas.{fits, tested}
use Rattle.scan_exec.specs.work.Kinds.{passes_entry}
use Rattle.scan_exec.specs.work.Scene.{IsNear, IsScene, IsUsed}
use Rattle.scan_exec.proofs.NearLemmas.{all_recursive, over, testable_where}

-- an entry of an index over some rows
pub record IsEntryAt (d : Index) (rows : List Values) (e : IndexEntry) : Type 0 where
  pub within : e.row < length rows
  pub is : e ≡ entry d rows e.row

pub in_range : (a m n : ℕ) → IsIn n (range_with_len a m) → n < a + m
in_range a zero n i = absurd i
in_range a (suc m) n (inl same) = omega (arith, same)
in_range a (suc m) n (inr i) = let later = in_range (a + 1) m n i in omega (arith, later)

module _ (d : Index) (rows : List Values) where
  one_entry : (e : IndexEntry) → IsIn e (map (entry d rows) (filter (λ n. meets_predicate d.predicate (slice_index_or rows n [])) (range_with_len 0 (length rows)))) → IsEntryAt d rows e
  one_entry e i =
      let x = in_map (entry d rows) (filter (λ n. meets_predicate d.predicate (slice_index_or rows n [])) (range_with_len 0 (length rows))) e i in
      let number : e.row ≡ x.0 = ap (λ (y : IndexEntry). y.row) x.2 in
      let lt = in_range 0 (length rows) x.0 (in_filter (λ n. meets_predicate d.predicate (slice_index_or rows n [])) (range_with_len 0 (length rows)) x.0 x.1).0 in
      record { within = omega (arith, number, lt); is = x.2 ∙ ap (entry d rows) (sym number) }

  abbrev listed : List IndexEntry
  listed = map (entry d rows) (filter (λ n. meets_predicate d.predicate (slice_index_or rows n [])) (range_with_len 0 (length rows)))

  pub entries_at : All (IsEntryAt d rows) (entries_over d rows)
  entries_at = by d.method
    where
      by : (m : Method) → All (IsEntryAt d rows) (ordered m d.keys listed)
      by Btree = All-in_order (entry_order d.keys) (entries_total d.keys) (IsEntryAt d rows) listed (all_from (IsEntryAt d rows) listed one_entry)
      by Hash = all_from (IsEntryAt d rows) listed one_entry

-- the value of a column in an entry is that in its row
abbrev among : List ColNo → ColNo → Bool
among ns x = list_any (λ (n : ColNo). nat_eq x.0 n.0) ns

step_value : (b rest : Bool) (v w other : Value) → (b ≡ true → v ≡ w) → cond b v (cond rest w other) ≡ cond (b || rest) w other
step_value true rest v w other same = same refl
step_value false rest v w other same = refl

keys_value : (row : Values) (ks : List IndexKey) (other : Value) (x : ColNo) →
    value_among (map (λ (k : IndexKey). k.col) ks) (map (λ (k : IndexKey). cell row k.col) ks) other x ≡ cond (among (map (λ (k : IndexKey). k.col) ks) x) (value_in row x) other
keys_value row [] other x = refl
keys_value row (k ∷ ks) other x =
    ap (cond (nat_eq x.0 k.col.0) (cell row k.col)) (keys_value row ks other x)
    ∙ step_value (nat_eq x.0 k.col.0) (among (map (λ (k : IndexKey). k.col) ks) x) (cell row k.col) (value_in row x) other
    (λ h. ap (λ (n : ℕ). slice_index_or row n Null) (sym (eqb-true x.0 k.col.0 h)))

included_value : (row : Values) (ns : List ColNo) (other : Value) (x : ColNo) → value_among ns (map (cell row) ns) other x ≡ cond (among ns x) (value_in row x) other
included_value row [] other x = refl
included_value row (n ∷ ns) other x =
    ap (cond (nat_eq x.0 n.0) (cell row n)) (included_value row ns other x)
    ∙ step_value (nat_eq x.0 n.0) (among ns x) (cell row n) (value_in row x) other
    (λ h. ap (λ (m : ℕ). slice_index_or row m Null) (sym (eqb-true x.0 n.0 h)))

module _ (d : Index) (rows : List Values) where
  value_at_entry : (n : ℕ) (x : ColNo) → is_held d x ≡ true → value_in_entry d (entry d rows n) x ≡ value_in (slice_index_or rows n []) x
  value_at_entry n x held =
      keys_value (slice_index_or rows n []) d.keys (value_among d.include (map (cell (slice_index_or rows n [])) d.include) Null x) x
      ∙ by (among (key_columns d) x) (among d.include x) held (included_value (slice_index_or rows n []) d.include Null x)
    where
      by : (a b : Bool) → a || b ≡ true → {v w : Value} → v ≡ cond b w Null → cond a w v ≡ w
      by true b h e = refl
      by false true h e = e
      by false false h e = absurd (true≢false (sym h))

  module _ (e : IndexEntry) (at : IsEntryAt d rows e) where
    pub own_is : (x : ColNo) → has_entry_value d e x ≡ true → value_in_entry d e x ≡ value_in (slice_index_or rows e.row []) x
    own_is x h =
        ap (λ (y : IndexEntry). value_in_entry d y x) at.is
        ∙ value_at_entry e.row x (and_parts (is_held d x) _ h).0

    pub held_here : (columns : List Column) → IsLawfulIndex columns d → (x : ColNo) → is_held d x ≡ true → has_entry_value d e x ≡ true
    held_here columns lawful x held =
        let keys : length e.keys ≡ length d.keys = ap (λ (y : IndexEntry). length y.keys) at.is ∙ length-map d.keys (λ (k : IndexKey). cell (slice_index_or rows e.row []) k.col) in
        let include : length e.include ≡ length d.include = ap (λ (y : IndexEntry). length y.include) at.is ∙ length-map d.include (cell (slice_index_or rows e.row [])) in
        let few = lawful.fits.few in
        and_from _ _ held (and_from _ _ (eq-eqb _ _ keys) (and_from _ _ (eq-eqb _ _ include) (lt-ltb _ _ (omega (arith, few)))))

-- the relation's columns in a condition of the index are held
module _ (d : Index) (r : ℕ) where
  abbrev pub holds_own : ColRef → Bool
  holds_own x = not (nat_eq x.rel.0 r) || is_held d x.col

  module _ (k : IndexKey) (i : IsIn k d.keys) where
    key_held : (x : ColRef) → is_key r k x ≡ true → holds_own x ≡ true
    key_held x h =
        or_right (not (nat_eq x.rel.0 r)) (is_held d x.col)
        (or_left (among (key_columns d) x.col) (among d.include x.col)
        (any_key d.keys i (and_parts (nat_eq x.rel.0 r) (nat_eq x.col.0 k.col.0) h).1))
      where
        any_key : (ks : List IndexKey) → IsIn k ks → nat_eq x.col.0 k.col.0 ≡ true → among (map (λ (j : IndexKey). j.col) ks) x.col ≡ true
        any_key [] j e = absurd j
        any_key (l ∷ ks) (inl same) e = or_left (nat_eq x.col.0 l.col.0) (among (map (λ (j : IndexKey). j.col) ks) x.col) (ap (λ (m : IndexKey). nat_eq x.col.0 m.col.0) (sym same) ∙ e)
        any_key (l ∷ ks) (inr j) e = or_right (nat_eq x.col.0 l.col.0) (among (map (λ (j : IndexKey). j.col) ks) x.col) (any_key ks j e)

    side_held : (o : Operand) → is_key_side r k o ≡ true → passes_column holds_own o ≡ true
    side_held (Col x) h = key_held x h
    side_held (Lit v) h = refl

    outside_held : (o : Operand) → is_outside r o ≡ true → passes_column holds_own o ≡ true
    outside_held (Col x) h = or_left (not (nat_eq x.rel.0 r)) (is_held d x.col) h
    outside_held (Lit v) h = refl

    form_held : (m : Method) (e : Cond) → has_key_form m r k e ≡ true → each_column holds_own e ≡ true
    form_held m (compare op a b) h = ⊎_elim
        (λ (t : (is_key_side r k a && is_outside r b) ≡ true).
        let parts = and_parts (is_key_side r k a) (is_outside r b) t in
        and_from _ _ (side_held a parts.0) (outside_held b parts.1))
        (λ (t : (is_outside r a && is_key_side r k b) ≡ true).
        let parts = and_parts (is_outside r a) (is_key_side r k b) t in
        and_from _ _ (outside_held a parts.0) (side_held b parts.1))
        (or_cases (is_key_side r k a && is_outside r b) (is_outside r a && is_key_side r k b) (and_parts (is_family_operator m k op) _ h).1)
    form_held m (is_null x) h = key_held x (and_parts (not (is_hash m)) (is_key r k x) h).1
    form_held m (is_not_null x) h = key_held x (and_parts (not (is_hash m)) (is_key r k x) h).1
    form_held m (bool_col x) h = absurd (true≢false (sym h))
    form_held m (const t) h = absurd (true≢false (sym h))
    form_held m (all_of cs) h = absurd (true≢false (sym h))
    form_held m (any_of cs) h = absurd (true≢false (sym h))
    form_held m (negation e) h = absurd (true≢false (sym h))

  pub condition_held : (e : Cond) → is_condition d r e ≡ true → each_column holds_own e ≡ true
  condition_held e h =
      let w = any_at (λ (k : IndexKey). has_key_form d.method r k e) d.keys h in
      form_held w.0 w.1 d.method e w.2

-- conditions whose own columns are held are ready at an entry, and are True there where they are at the tuple
pub record IsHeldNear (c : Contents) (q : Query) (r : ℕ) (p : ℕ → Bool) (d : Index) (e : Cond) : Type 0 where
  pub near : IsNear c q r p e
  pub held : each_column (holds_own d r) e ≡ true

module _ (c : Contents) (k : Kept) (q : Query) (r : RelNo) (p : RelSet) (outer : List Tid) (given : Given) (at : IsScene c k q r p outer given) where
  abbrev w : World
  w = world c k.stored

  abbrev o : Tuple
  o = padded (width q) (has p.0) outer

  abbrev g : Given
  g = values.tuple_given w q (has p.0) o

  pub used_held : (i : IndexNo) (e : Cond) → IsUsed c q r.0 (has p.0) i e → IsHeldNear c q r.0 (has p.0) (index_at c i) e
  used_held i e is = record { near = is.near; held = condition_held (index_at c i) r.0 e is.form }

  module _ (d : Index) (columns : List Column) (lawful : IsLawfulIndex columns d) (e : IndexEntry) (is : IsEntryAt d (rows_of_relation w q r) e) (es : List Cond) (each : (x : Cond) → IsIn x es → IsHeldNear c q r.0 (has p.0) d x) where
    can_test : AllByRecursion (IsTestable c q.range r.0 (has_entry_value d e) g) es
    can_test =
        all_recursive (IsTestable c q.range r.0 (has_entry_value d e) g) es
        (λ x i. testable_where c k q r p outer given at (has_entry_value d e) x (each x i).near
        (weaker-each (holds_own d r.0) (λ y. not (nat_eq y.rel.0 r.0) || has_entry_value d e y.col)
        (λ y h. by (not (nat_eq y.rel.0 r.0)) (is_held d y.col) (has_entry_value d e y.col) (held_here d (rows_of_relation w q r) e is columns lawful y.col) h)
        x (each x i).held))
      where
        by : (a b x : Bool) → (b ≡ true → x ≡ true) → a || b ≡ true → a || x ≡ true
        by true b x f h = refl
        by false b x f h = f h

    pub ready_entry : AreReadyAtEntry c q.range r.0 given es d e
    ready_entry =
        let P : Given → Type 0 = λ x. AreReadyAtEntry c q.range r.0 x es d e in
        subst P (sym at.given) (record {
          testable = can_test;
          values = fits w q (over c k q r p outer given at) r (has p.0) o e.row (has_entry_value d e) (value_in_entry d e) (own_is d (rows_of_relation w q r) e is);
        })

    pub true_entry : passes_entry r.0 given es d e ≡ all_true w q (beside q r.0 e.row o) es
    true_entry =
        ap (λ (x : Given). are_true (value_beside r.0 (value_in_entry d e) x) es) at.given
        ∙ tested w q (over c k q r p outer given at) r (has p.0) o e.row (has_entry_value d e) (value_in_entry d e) (own_is d (rows_of_relation w q r) e is) es can_test
