-- The rows of an index's entries put into a set.
use Rattle.std.proofs.Common.{◌≡◌, ◌+◌, ◌<◌, ◌≤◌, ℕ, Bool, true, false, List, [], ◌∷◌, length, map, filter, refl, sym, ap, ap₂, ◌∙◌, subst, arith, inl, inr, All}
use Rattle.std.specs.Prelude.{get_or}
use Rattle.std.specs.List.{AllByRecursion}
use Rattle.std.specs.Borrow.{Bor}
use Rattle.std.proofs.lemmas.Bool.{and_parts, eqb-true}
use Rattle.std.proofs.lemmas.List.{length-map}
use Rattle.pg_base.specs.Sets.{has}
use Rattle.pg_base.specs.declared.numbers.IndexNo.{IndexNo}
use Rattle.pg_base.specs.declared.numbers.RelNo.{RelNo}
use Rattle.pg_base.specs.declared.numbers.Tid.{Tid}
use Rattle.pg_base.specs.declared.rel_set.RelSet.{RelSet}
use Rattle.opfamily.specs.KeyOrder.{IndexEntry}
use Rattle.opfamily.specs.declared.classes.Method.{Method}
use Rattle.opfamily.specs.declared.classes.Method.TheVariants.{Btree, Hash}
use Rattle.pg_expr.specs.Cond.{Cond}
use Rattle.pg_expr.specs.declared.expr.Expr.{Expr}
use Rattle.pg_expr.specs.work.View as view
use Rattle.heap.specs.Stored.{Values}
use Rattle.heap.specs.work.TidSets.{TidSet}
use Rattle.heap.specs.work.Tuples.{padded}
use Rattle.catalog.specs.Contents.{Contents, IsLawful, index_at, table_at}
use Rattle.catalog.specs.Indexes.{Index}
use Rattle.catalog.specs.Range.{Range, relation_at}
use Rattle.eq_classes.proofs.ListLemmas.{IsIn, all_at, all_from, in_filter}
use Rattle.btree_index.specs.work.Tree.{in_direction}
use Rattle.index_match.specs.Arms.{arm_parts, is_matched, takes_parts}
use Rattle.sql_query.specs.Meaning.{all_true}
use Rattle.sql_query.specs.Queries.{Query, width}
use Rattle.sql_query.specs.Tuples.{Tuple, beside, rows_of_relation}
use Rattle.sql_query.specs.Worlds.{World, world}
use Rattle.plan_tree.specs.Bitmaps.{IsIndexOn}
use Rattle.plan_tree.specs.Counts.{entries_met}
use Rattle.plan_tree.specs.Entries.{entries, entry_rows}
use Rattle.plan_tree.specs.Run.{at_which}
use Rattle.store.specs.work.Kept.{Kept}
use Rattle.scan_probes.specs.work.Filters as refs
use Rattle.scan_probes.specs.work.Values.{Given}
use Rattle.scan_exec.specs.work.Held.{IsReadyMark, with_rows}
use Rattle.scan_exec.specs.work.Kinds.{passes_entry}
use Rattle.scan_exec.specs.work.Scene.{AreUsed, IsScene, IsUsed, limits}
use Rattle.scan_exec.proofs.EqualLemmas.{met_within, only_of}
use Rattle.scan_exec.proofs.HeldLemmas.{part_looks, part_rows}
use Rattle.scan_exec.proofs.IndexLemmas.{IsEntryAt, IsHeldNear, ready_entry, true_entry, used_held}
use Rattle.scan_exec.proofs.MovedLemmas.{moved_index}
use Rattle.scan_exec.proofs.NearLemmas.{all_recursive}
use Rattle.scan_exec.proofs.SeekLemmas.{at_entries, lawful}

-- the one condition of a hash index
pub first_used : (P : Cond → Type 0) (vs : List (Bor Expr)) (x : Bor Expr) → x ≡ get_or vs 0 x → length vs ≡ 1 → All P (refs.lent_conditions vs) → P (view.cond x.now)
first_used P [] x first one all = absurd (omega (arith, one))
first_used P (v ∷ vs) x first one all = subst (λ (y : Bor Expr). P (view.cond y.now)) (sym first) (all 0 (view.cond v.now) (omega arith))

pub only_one : (vs : List (Bor Expr)) (x : Bor Expr) → x ≡ get_or vs 0 x → length vs ≡ 1 → refs.lent_conditions vs ≡ view.cond x.now ∷ []
only_one vs x first one =
    let long = length-map vs (λ (e : Bor Expr). view.cond e.now) in
    only_of (refs.lent_conditions vs) vs x refl first (omega (arith, long, one)) (omega (arith, long, one))

pub takes_one : (m : Method) → m ≡ Hash → (n : ℕ) → takes_parts m n ≡ true → n ≡ 1
takes_one Btree e n h = cc
takes_one Hash e n h = eqb-true n 1 h

pub arm_taken : (c : Contents) (r : ℕ) (i : IndexNo) (arm : Cond) → is_matched (index_at c i) r arm ≡ true → (vs : List (Bor Expr)) → refs.lent_conditions vs ≡ arm_parts arm → takes_parts (index_at c i).method (length vs) ≡ true
arm_taken c r i arm matched vs are =
    ap (takes_parts (index_at c i).method) (sym (length-map vs (λ (e : Bor Expr). view.cond e.now)) ∙ ap length are)
    ∙ (and_parts (takes_parts (index_at c i).method (length (arm_parts arm))) _ matched).0

module _ (c : Contents) (k : Kept) (q : Query) (r : RelNo) (p : RelSet) (outer : List Tid) (given : Given) (at : IsScene c k q r p outer given) (i : IndexNo) (on : IsIndexOn c q r.0 i) where
  abbrev w : World
  w = world c k.stored

  abbrev o : Tuple
  o = padded (width q) (has p.0) outer

  abbrev rows : List Values
  rows = rows_of_relation w q r

  -- the rows that a hash index gives
  pub tids_within : (ts : List Tid) (es : List Cond) (bound : ℕ) → map (λ (t : Tid). t.0) ts ≡ at_which w q r o es (entry_rows w i) → bound ≡ length rows → AllByRecursion (λ (t : Tid). t.0 < bound) ts
  tids_within ts es bound are same = all_recursive (λ (t : Tid). t.0 < bound) ts (λ t j.
      let lt = met_within c k q r p outer given at i on es t.0 (subst (IsIn t.0) are (mapped t ts j)) in
      omega (arith, lt, same))
    where
      mapped : (t : Tid) (l : List Tid) → IsIn t l → IsIn t.0 (map (λ (x : Tid). x.0) l)
      mapped t [] j = absurd j
      mapped t (x ∷ l) (inl same) = inl (ap (λ (y : Tid). y.0) same)
      mapped t (x ∷ l) (inr j) = inr (mapped t l j)

  -- the entries of a B-tree
  module _ (contents : IsLawful c) (es : List Cond) (used : AreUsed c q r p i es) where
    abbrev d : Index
    d = index_at c i

    abbrev passes : IndexEntry → Bool
    passes e = all_true w q (beside q r.0 e.row o) (limits d r.0 es)

    each : (e : Cond) → IsIn e es → IsHeldNear c q r.0 (has p.0) d e
    each e j = used_held c k q r p outer given at i e (all_at (IsUsed c q r.0 (has p.0) i) es used e j)

    here : (e : IndexEntry) → IsIn e (entries w i) → IsEntryAt d rows e
    here e j = at_entries c k q r p outer given at i on e j

    ready_marks : All (IsReadyMark c q.range r.0 given es d (length rows)) (filter passes (entries w i))
    ready_marks = all_from (IsReadyMark c q.range r.0 given es d (length rows)) (filter passes (entries w i)) (λ e j.
        let is = here e (in_filter passes (entries w i) e j).0 in
        record {
          within = is.within;
          entry = ready_entry c k q r p outer given at d (table_at c (relation_at q.range r).0).columns (lawful c k q r p outer given at i on contents) e is es each;
        })

    module _ (c' : Contents) (s' : Range) (r' : RelNo) (d' : Index) (ce : c' ≡ c) (se : s' ≡ q.range) (re : r' ≡ r) (de : d' ≡ d) (cursor : List IndexEntry) (ie : cursor ≡ in_direction false (filter passes (entries w i))) (s : TidSet) (be : s.bound ≡ length rows) where
      pub marks_ready : All (IsReadyMark c' s' r'.0 given es d' s.bound) cursor
      marks_ready =
          subst (All (IsReadyMark c' s' r'.0 given es d' s.bound)) (sym ie)
          (subst (λ (n : ℕ). All (IsReadyMark c' s' r'.0 given es d' n) (filter passes (entries w i))) (sym be)
          (moved_index (λ a l e f h t y. All (IsReadyMark a l e.0 given es y (length rows)) (filter passes (entries w i))) c c' q.range s' r r' es es rows rows es es d d' ce se re refl refl refl de ready_marks))

      pub marked : (new : TidSet) → new ≡ with_rows s (map (λ (e : IndexEntry). e.row) (filter (passes_entry r'.0 given es d') cursor)) → new ≡ with_rows s (at_which w q r o es (entry_rows w i))
      marked new is =
          is
          ∙ ap (λ (l : List ℕ). with_rows s l)
          (ap (λ (l : List IndexEntry). map (λ (e : IndexEntry). e.row) (filter (passes_entry r'.0 given es d') l)) ie
          ∙ ap₂ (λ (x : RelNo) (y : Index). map (λ (e : IndexEntry). e.row) (filter (passes_entry x.0 given es y) (filter passes (entries w i)))) re de
          ∙ part_rows w q r o i es (passes_entry r.0 given es d)
          (λ e j. true_entry c k q r p outer given at d (table_at c (relation_at q.range r).0).columns (lawful c k q r p outer given at i on contents) e (here e j) es each))

      pub mark_looks : d.method ≡ Btree → (old new : ℕ) → new ≡ old + length cursor → new ≤ old + entries_met w q d.method r i o (limits d r.0 es)
      mark_looks is old new looked =
          let long : length cursor ≡ length (filter passes (entries w i)) = ap length ie in
          let met = part_looks w q r o i es d.method is in
          omega (arith, looked, long, met)
