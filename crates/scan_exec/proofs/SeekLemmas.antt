-- The part of an index that a cursor gives: the entries at whose rows the conditions that bound it are True.
use Rattle.std.proofs.Common.{◌≡◌, ◌+◌, ◌<◌, ℕ, zero, suc, Bool, true, false, not, cond, ◌||◌, nat_eq, List, [], ◌∷◌, length, map, filter, Option, Some, None, refl, sym, ap, ap₂, ◌∙◌, subst, arith, ⊎_elim, inl, inr, All}
use Rattle.std.specs.Prelude.{slice_get, slice_index_or}
use Rattle.std.specs.List.{AllByRecursion}
use Rattle.std.proofs.lemmas.Bool.{and_parts, eq-eqb}
use Rattle.std.proofs.lemmas.Bool.{cases_lt}
use Rattle.std.proofs.lemmas.List.FromFn.{length-map-range_with_len}
use Rattle.pg_base.specs.Sets.{has}
use Rattle.pg_base.specs.declared.numbers.ColNo.{ColNo}
use Rattle.pg_base.specs.declared.numbers.IndexNo.{IndexNo}
use Rattle.pg_base.specs.declared.numbers.RelNo.{RelNo}
use Rattle.pg_base.specs.declared.numbers.TableNo.{TableNo}
use Rattle.pg_base.specs.declared.numbers.Tid.{Tid}
use Rattle.pg_base.specs.declared.rel_set.RelSet.{RelSet}
use Rattle.pg_value.specs.declared.columns.Column.{Column}
use Rattle.pg_value.specs.declared.value.SqlType.{SqlType}
use Rattle.pg_value.specs.declared.value.Value.{Value}
use Rattle.pg_value.specs.Types.{IsOfType}
use Rattle.opfamily.specs.Answers.{accepted}
use Rattle.opfamily.specs.KeyOrder.{IndexEntry}
use Rattle.opfamily.specs.declared.classes.IndexKey.{IndexKey}
use Rattle.opfamily.specs.declared.classes.Method.{Method}
use Rattle.opfamily.specs.declared.classes.Method.TheVariants.{Btree, Hash}
use Rattle.pg_expr.specs.declared.operand.ColRef.{ColRef}
use Rattle.pg_expr.specs.Columns.{each_column}
use Rattle.pg_expr.specs.Cond.{Cond}
use Rattle.pg_expr.specs.Typed.{IsTyped}
use Rattle.pg_expr.proofs.ColumnLaws.{weaker-each}
use Rattle.heap.specs.Stored.{Values}
use Rattle.heap.specs.work.Tuples.{padded}
use Rattle.catalog.specs.Contents.{Contents, IsLawful, index_at, table_at}
use Rattle.catalog.specs.Indexes.{Index, IsKeyOf, IsLawfulIndex}
use Rattle.catalog.specs.Range.{relation_at, type_in}
use Rattle.eq_classes.proofs.ListLemmas.{IsIn, all_at, all_from}
use Rattle.scan_probes.specs.plan_laws_FitsLemmas.{values_fit}
use Rattle.btree_index.specs.work.Bounds.{AreBounds, meets_all, key_value_at}
use Rattle.btree_index.specs.work.Tree.{Tree, in_direction}
use Rattle.btree_index.specs.declared.bounds.Probe.{Probe}
use Rattle.index_match.specs.Bounds.{bounding}
use Rattle.index_match.specs.Numbered.{conditions_of, numbered_from_0}
use Rattle.sql_query.specs.Meaning.{all_true}
use Rattle.sql_query.specs.Queries.{Query, width}
use Rattle.sql_query.specs.Tuples.{Tuple, beside, row_at, row_of, rows_of_relation}
use Rattle.sql_query.specs.Worlds.{World, stored_at, world}
use Rattle.plan_tree.specs.Bitmaps.{IsIndexOn}
use Rattle.plan_tree.specs.Entries.{entries, entries_over}
use Rattle.store.specs.work.Kept.{Built, Kept, built_by, built_of, sorted, tree_of}
use Rattle.store.proofs.GrowthLemmas.{lawful-index}
use Rattle.store.proofs.StoreLemmas.{built-at}
use Rattle.scan_probes.specs.work.Probes.{AreKnown, AreOf, FitGiven, FitOwn, IsKeyTyped, is_known, probes_from}
use Rattle.scan_probes.specs.work.Scenes.{binds_at}
use Rattle.scan_probes.specs.work.Values as values
use Rattle.scan_probes.specs.work.Values.{Given, are_true, is_beside, value_beside, value_in, row_value}
use Rattle.scan_probes.proofs.LawLemmas.{conditions_bound, conditions_met, each_any}
use Rattle.scan_probes.proofs.WorldLemmas.{row_beside, slot}
use Rattle.scan_exec.specs.work.Scene.{AreUsed, IsNear, IsScene, IsUsed, limits}
use Rattle.scan_exec.proofs.IndexLemmas.{IsEntryAt, entries_at}
use Rattle.scan_exec.proofs.LimitLemmas.{in_limits, numbered_are}
use Rattle.scan_exec.proofs.NearLemmas.{all_recursive, over, testable_where, true_at}

-- tests that agree on a list
pub filter_in_same : {A : Type 0} (p q : A → Bool) (xs : List A) → ((x : A) → IsIn x xs → p x ≡ q x) → filter p xs ≡ filter q xs
filter_in_same p q [] h = refl
filter_in_same p q (x ∷ xs) h =
    ap₂ (λ b l. cond b (x ∷ l) l) (h x (inl refl)) (filter_in_same p q xs (λ y i. h y (inr i)))

-- key values from a place on
keys_of : (own : ColNo → Value) (n : ℕ) (ks : List IndexKey) (vs : List Value) →
    ((j : ℕ) → key_value_at vs (n + j) ≡ key_value_at (map (λ (k : IndexKey). own k.col) ks) j) → AreOf own n ks vs
keys_of own n [] vs h = tt
keys_of own n (k ∷ ks) vs h = (
  ap (key_value_at vs) (let e : n ≡ n + 0 = omega arith in e) ∙ h 0,
  keys_of own (n + 1) ks vs (λ j. ap (key_value_at vs) (let e : n + 1 + j ≡ n + suc j = omega arith in e) ∙ h (suc j)),
)

-- a tree that was built is of a B-tree
pub is_btree : (d : Index) (rows : List Values) (t : Tree) → sorted t ≡ built_of d rows → d.method ≡ Btree
is_btree d rows t e = by d.method refl e
  where
    by : (m : Method) → d.method ≡ m → sorted t ≡ built_by m d rows → d.method ≡ Btree
    by Btree is e = is
    by Hash is e = cc

pub tree_is : (d : Index) (rows : List Values) (t : Tree) → sorted t ≡ built_of d rows → t ≡ tree_of d rows
tree_is d rows t e = by d.method e
  where
    by : (m : Method) → sorted t ≡ built_by m d rows → t ≡ tree_of d rows
    by Btree e = cc
    by Hash e = cc

module _ (c : Contents) (k : Kept) (q : Query) (r : RelNo) (p : RelSet) (outer : List Tid) (given : Given) (at : IsScene c k q r p outer given) where
  abbrev w : World
  w = world c k.stored

  abbrev o : Tuple
  o = padded (width q) (has p.0) outer

  abbrev g : Given
  g = values.tuple_given w q (has p.0) o

  abbrev rows : List Values
  rows = rows_of_relation w q r

  abbrev type_of : ColRef → SqlType
  type_of = type_in c q.range

  -- values given are of their types
  pub given_fits : FitGiven type_of given
  given_fits = subst (FitGiven type_of) (sym at.given) (λ x. ⊎_elim
      (λ (lt : x.rel.0 < width q).
      subst (λ (v : Option Values). IsOfType (type_of x) (row_value v x.col)) (sym (slot w q (over c k q r p outer given at) r (has p.0) o x.rel.0 lt)) (by x (has p.0 x.rel.0)))
      (λ le.
      subst (λ (v : Option Values). IsOfType (type_of x) (row_value v x.col)) (sym (past_end g x.rel.0 (let long : length g ≡ width q = length-map-range_with_len (λ j. cond (has p.0 j) (Some (row_at w q o (record { 0 = j }))) None) 0 (width q) in omega (arith, long, le)))) tt)
      (cases_lt x.rel.0 (width q)))
    where
      by : (x : ColRef) (b : Bool) → IsOfType (type_of x) (row_value (cond b (Some (row_at w q o x.rel)) None) x.col)
      by x true = values_fit w q o at.store.world x
      by x false = tt

      past_end : (l : Given) (n : ℕ) → length l < n + 1 → slice_index_or l n None ≡ None
      past_end [] n lt = refl
      past_end (v ∷ l) zero lt = absurd (omega (arith, lt))
      past_end (v ∷ l) (suc n) lt = past_end l n (omega (arith, lt))

  pub own_fits : (n : ℕ) → FitOwn type_of r.0 (value_in (slice_index_or rows n []))
  own_fits n x =
      subst (λ (m : ℕ). IsOfType (type_of (record { rel = r; col = x })) (value_in (slice_index_or rows m []) x))
      (row_beside w q (over c k q r p outer given at) r (has p.0) o n r.0 at.relation ∙ ap (λ (b : Bool). cond b n (row_of o r.0)) (eq-eqb r.0 r.0 refl))
      (values_fit w q (beside q r.0 n o) at.store.world (record { rel = r; col = x }))

  module _ (i : IndexNo) (on : IsIndexOn c q r.0 i) where
    abbrev d : Index
    d = index_at c i

    abbrev columns : List Column
    columns = (table_at c (relation_at q.range r).0).columns

    pub lawful : IsLawful c → IsLawfulIndex columns d
    lawful contents = lawful-index c contents i.0 (relation_at q.range r).0 d on.made refl (ap (λ (t : TableNo). t.0) on.table) columns refl

    -- the entries of the index are over the relation's rows
    pub entries_are : entries w i ≡ entries_over d rows
    entries_are = ap (λ (t : TableNo). entries_over d (stored_at w t).rows) on.table

    pub at_entries : (e : IndexEntry) → IsIn e (entries w i) → IsEntryAt d rows e
    at_entries e j = all_at (IsEntryAt d rows) (entries_over d rows) (entries_at d rows) e (subst (IsIn e) entries_are j)

    -- what is built of the index is over the relation's rows
    pub built_is : (b : Built) → slice_get k.built i.0 ≡ Some b → b ≡ built_of d rows
    built_is b is =
        let e : Some b ≡ Some (built_of d (stored_at w d.table).rows) = sym is ∙ built-at c k at.store i on.made in
        some_is b _ e ∙ ap (λ (t : TableNo). built_of d (stored_at w t).rows) on.table
      where
        some_is : (a b : Built) → Some a ≡ Some b → a ≡ b
        some_is a b e = cc

    keys_typed : IsLawful c → d.method ≡ Btree → AllByRecursion (IsKeyTyped type_of r.0) d.keys
    keys_typed contents is =
        all_recursive (IsKeyTyped type_of r.0) d.keys
        (λ x j. subst (λ (m : Method). accepted x.class m (type_of (record { rel = r; col = x.col })) ≡ true) is (all_at (IsKeyOf columns d.method) d.keys (lawful contents).fits.keys x j).class)

    module _ (es : List Cond) (used : AreUsed c q r p i es) where
      near : (e : Cond) → IsIn e es → IsNear c q r.0 (has p.0) e
      near e j = (all_at (IsUsed c q r.0 (has p.0) i) es used e j).near

      -- what is asked of the bounds
      pub probes_known : AreKnown r.0 given es
      probes_known = subst (λ (x : Given). AreKnown r.0 x es) (sym at.given)
          (all_recursive (λ e. is_known r.0 g e ≡ true) es (λ e j.
          let t = testable_where c k q r p outer given at (λ x. true) e (near e j) (any_own e) in
          weaker-each (binds_at c q.range r.0 (λ x. true) g) (is_beside r.0 (λ x. true) g)
          (λ x h. (and_parts _ (is_beside r.0 (λ y. true) g x) (and_parts _ _ h).1).1) e t.columns))
        where
          any_own : (e : Cond) → each_column (λ x. not (nat_eq x.rel.0 r.0) || true) e ≡ true
          any_own e = weaker-each (λ x. true) (λ x. not (nat_eq x.rel.0 r.0) || true) (λ x h. always (not (nat_eq x.rel.0 r.0))) e (each_any e)
            where
              always : (b : Bool) → b || true ≡ true
              always true = refl
              always false = refl

      pub keys_few : IsLawful c → length d.keys < 256
      keys_few contents = let few = (lawful contents).fits.few in omega (arith, few)

      typed : (e : Cond) → IsIn e es → IsTyped type_of e
      typed e j = (near e j).typed

      pub probes_bound : IsLawful c → d.method ≡ Btree → AreBounds 0 d.keys (probes_from r.0 0 d.keys given es)
      probes_bound contents is = conditions_bound type_of r.0 given given_fits d.keys es (keys_typed contents is) (all_from (IsTyped type_of) es typed)

      abbrev passes : IndexEntry → Bool
      passes e = all_true w q (beside q r.0 e.row o) (limits d r.0 es)

      limits_typed : All (IsTyped type_of) (conditions_of (numbered_from_0 es))
      limits_typed = subst (All (IsTyped type_of)) (sym (numbered_are 0 es)) (all_from (IsTyped type_of) es typed)

      met_at : d.method ≡ Btree → (e : IndexEntry) → IsEntryAt d rows e → meets_all (probes_from r.0 0 d.keys given es) e.keys ≡ passes e
      met_at is e here =
          let own = value_in (slice_index_or rows e.row []) in
          let keys : e.keys ≡ map (λ (x : IndexKey). own x.col) d.keys = ap (λ (y : IndexEntry). y.keys) here.is in
          ap (λ (l : List Cond). meets_all (probes_from r.0 0 d.keys given l) e.keys) (sym (numbered_are 0 es))
          ∙ conditions_met type_of r.0 given given_fits own (own_fits e.row) d.keys e.keys (numbered_from_0 es)
          (keys_of own 0 d.keys e.keys (λ j. ap₂ (λ (vs : List Value) (n : ℕ). key_value_at vs n) keys (let z : 0 + j ≡ j = omega arith in z)))
          limits_typed
          ∙ ap (λ (m : Method). are_true (value_beside r.0 own given) (conditions_of (bounding m r.0 d.keys (numbered_from_0 es)))) (sym is)
          ∙ true_at c k q r p outer given at e.row here.within (limits d r.0 es) (λ x j. near x (in_limits d r.0 es x j))

      -- the part that a cursor gives
      pub part_is : d.method ≡ Btree → filter (λ e. meets_all (probes_from r.0 0 d.keys given es) e.keys) (entries w i) ≡ filter passes (entries w i)
      part_is is =
          filter_in_same (λ e. meets_all (probes_from r.0 0 d.keys given es) e.keys) passes (entries w i) (λ e j. met_at is e (at_entries e j))

      pub sought : (t : Tree) → sorted t ≡ built_of d rows → (b : Bool) (ps : List Probe) → ps ≡ probes_from r.0 0 d.keys given es →
          in_direction b (filter (λ e. meets_all ps e.keys) t.entries) ≡ in_direction b (filter passes (entries w i))
      sought t built b ps is =
          ap₂ (λ (l : List Probe) (x : List IndexEntry). in_direction b (filter (λ e. meets_all l e.keys) x)) is
          (ap (λ (x : Tree). x.entries) (tree_is d rows t built) ∙ sym entries_are)
          ∙ ap (in_direction b) (part_is (is_btree d rows t built))

      pub bounds_of_tree : IsLawful c → (t : Tree) → sorted t ≡ built_of d rows → (ps : List Probe) → ps ≡ probes_from r.0 0 d.keys given es → AreBounds 0 t.keys ps
      bounds_of_tree contents t built ps is =
          subst (AreBounds 0 t.keys) (sym is)
          (subst (λ (l : List IndexKey). AreBounds 0 l (probes_from r.0 0 d.keys given es)) (sym (ap (λ (x : Tree). x.keys) (tree_is d rows t built)))
          (probes_bound contents (is_btree d rows t built)))
