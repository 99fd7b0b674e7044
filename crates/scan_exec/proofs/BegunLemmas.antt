-- Scans as they begin: the rows that they come to are those of their plan.
use Rattle.std.proofs.Common.{◌≡◌, ◌-◌, ◌<◌, ℕ, Bool, true, false, not, cond, ◌&&◌, ◌||◌, nat_eq, List, [], ◌∷◌, ◌++◌, length, map, filter, reverse, refl, sym, ap, ap₂, ◌∙◌, subst, arith, inl, inr, ⊎_elim, All}
use Rattle.std.specs.List.{enumerate_from, list_all, list_any, range_with_len}
use Rattle.std.proofs.lemmas.Bool.{and_parts}
use Rattle.std.proofs.lemmas.List.{get_or_default, reverse-append}
use Rattle.std.proofs.lemmas.List.Folds.{list_any-append}
use Rattle.std.proofs.lemmas.Simd.{map-map}
use Rattle.pg_base.specs.Sets.{has}
use Rattle.pg_base.specs.declared.numbers.ColNo.{ColNo}
use Rattle.pg_base.specs.declared.numbers.IndexNo.{IndexNo}
use Rattle.pg_base.specs.declared.numbers.RelNo.{RelNo}
use Rattle.pg_base.specs.declared.numbers.Tid.{Tid}
use Rattle.pg_base.specs.declared.rel_set.RelSet.{RelSet}
use Rattle.pg_value.specs.declared.columns.Column.{Column}
use Rattle.opfamily.specs.KeyOrder.{IndexEntry}
use Rattle.pg_expr.specs.declared.operand.ColRef.{ColRef}
use Rattle.pg_expr.specs.Columns.{each_column}
use Rattle.pg_value.specs.declared.operators.Truth.TheVariants.{True}
use Rattle.pg_expr.specs.Cond.{Cond, const}
use Rattle.heap.specs.Stored.{Values}
use Rattle.heap.specs.work.Tuples.{padded}
use Rattle.catalog.specs.Contents.{Contents, IsLawful, index_at, table_at}
use Rattle.catalog.specs.Indexes.{Index, columns_of}
use Rattle.catalog.specs.Range.{Range, relation_at}
use Rattle.eq_classes.specs.declared.order.OrderItem.{OrderItem}
use Rattle.eq_classes.specs.Clauses.{Clause, clause, by_conjunct}
use Rattle.eq_classes.specs.Listing.{clause_at}
use Rattle.eq_classes.proofs.ColumnLemmas.{clause_passes}
use Rattle.eq_classes.proofs.HoldLemmas.{in_map}
use Rattle.eq_classes.proofs.ListLemmas.{IsIn, all_at, all_from, in_filter, in_left, in_parts}
use Rattle.eq_classes.proofs.WrittenLemmas.{in_columns}
use Rattle.scan_probes.specs.plan_laws_OverLemmas.{conditions_pass, item_used}
use Rattle.btree_index.specs.work.Tree.{in_direction}
use Rattle.index_match.specs.Bounds.{index_bounds}
use Rattle.index_match.specs.Conditions.{index_conditions, is_condition}
use Rattle.index_match.specs.Numbered.{Numbered, base, conditions_of, local, numbered}
use Rattle.index_match.specs.Usable.{holds_columns}
use Rattle.sql_query.specs.Meaning.{all_true}
use Rattle.sql_query.specs.Queries.{Query, width}
use Rattle.sql_query.specs.Tuples.{Tuple, beside, row_numbers, rows_of_relation}
use Rattle.sql_query.specs.WellBound.{given_with}
use Rattle.sql_query.specs.Worlds.{World, world}
use Rattle.plan_tree.specs.Bitmaps.{IsIndexOn}
use Rattle.plan_tree.specs.Entries.{entries}
use Rattle.plan_tree.specs.Run.{clauses_at, index_scan_conditions, in_scan_direction}
use Rattle.store.specs.work.Kept.{Kept}
use Rattle.scan_probes.specs.work.Scenes.{AreReadyAtRow}
use Rattle.scan_probes.specs.work.Values.{Given, key_columns}
use Rattle.scan_exec.specs.Coming.{bounded, entry_row, fetched_row}
use Rattle.scan_exec.specs.work.Kinds.{IsReadyCover, IsReadyEntry, IsReadyNumber, covered_at, entry_at, fetched_at, rows_from, rows_of}
use Rattle.scan_exec.specs.work.Scene.{IsNear, IsScene, limits}
use Rattle.scan_exec.proofs.IndexLemmas.{IsEntryAt, IsHeldNear, holds_own, in_range, ready_entry, true_entry, used_held}
use Rattle.scan_exec.proofs.LimitLemmas.{AreByNumber, limits_are, places_number}
use Rattle.scan_exec.proofs.MovedLemmas.{moved_index}
use Rattle.scan_exec.proofs.NearLemmas.{base_near, clauses_near, in_allowed, of_clause, ready_at, true_at, used}
use Rattle.scan_exec.proofs.SeekLemmas.{at_entries, filter_in_same, lawful}
use Rattle.pg_base.proofs.ListLemmas.{filter-map-is as filter_of_map}
use Rattle.eq_classes.specs.Parts.{is_local}

pub map_in_same : {A B : Type 0} (f g : A → B) (xs : List A) → ((x : A) → IsIn x xs → f x ≡ g x) → map f xs ≡ map g xs
map_in_same f g [] h = refl
map_in_same f g (x ∷ xs) h = ap₂ (λ y l. y ∷ l) (h x (inl refl)) (map_in_same f g xs (λ y i. h y (inr i)))

map_of_append : {A B : Type 0} (f : A → B) (xs ys : List A) → map f (xs ++ ys) ≡ map f xs ++ map f ys
map_of_append f [] ys = refl
map_of_append f (x ∷ xs) ys = ap (λ l. f x ∷ l) (map_of_append f xs ys)

reverse_of_map : {A B : Type 0} (f : A → B) (xs : List A) → reverse (map f xs) ≡ map f (reverse xs)
reverse_of_map f [] = refl
reverse_of_map f (x ∷ xs) =
    reverse-append (f x ∷ []) (map f xs) ∙ ap (λ l. l ++ f x ∷ []) (reverse_of_map f xs)
    ∙ sym (ap (map f) (reverse-append (x ∷ []) xs) ∙ map_of_append f (reverse xs) (x ∷ []))

in_reverse : {A : Type 0} (x : A) (xs : List A) → IsIn x (reverse xs) → IsIn x xs
in_reverse x [] i = i
in_reverse x (y ∷ ys) i =
    ⊎_elim (λ (h : IsIn x (reverse ys)). inr (in_reverse x ys h)) (λ (h : IsIn x (y ∷ [])). in_left x (y ∷ []) ys h)
    (in_parts x (reverse ys) (y ∷ []) (subst (IsIn x) (reverse-append (y ∷ []) ys) i))

pub in_directed : (b : Bool) (e : IndexEntry) (es : List IndexEntry) → IsIn e (in_direction b es) → IsIn e es
in_directed true e es i = in_reverse e es i
in_directed false e es i = i

pub directed_rows : (w : World) (q : Query) (b : Bool) (es : List IndexEntry) → in_scan_direction w q b (map (λ (e : IndexEntry). e.row) es) ≡ map (λ (e : IndexEntry). e.row) (in_direction b es)
directed_rows w q true es = reverse_of_map (λ (e : IndexEntry). e.row) es
directed_rows w q false es = refl

-- the conditions of an index are those of their clauses' numbers
pub by_number : (c : Contents) (q : Query) (r : RelNo) (p : RelSet) (i : IndexNo) → AreByNumber (λ n. (clause_at q.classes.clauses n).cond) (index_conditions c q.classes i r.0 (has p.0))
by_number c q r p i x at =
    let found = (in_filter (λ (z : Numbered). is_condition (index_at c i) r.0 z.cond) (local q.classes r.0 (has p.0)) x (in_allowed (index_at c i).method _ x at)).0 in
    let m = in_map (λ (y : ℕ × Clause). numbered (y.0, y.1.cond)) (filter (λ (y : ℕ × Clause). is_local r.0 (has p.0) y.1) (enumerate_from 0 q.classes.clauses)) x found in
    let listed = (in_filter (λ (y : ℕ × Clause). is_local r.0 (has p.0) y.1) (enumerate_from 0 q.classes.clauses) m.0 m.1).0 in
    ap (λ (y : Numbered). y.cond) m.2
    ∙ places_number (λ (y : Clause). y.cond) q.classes.clauses (clause (const True) (by_conjunct 0)) m.0 listed
    ∙ ap (λ (n : ℕ). (clause_at q.classes.clauses n).cond) (sym (ap (λ (y : Numbered). y.number) m.2))

-- what stands at the entries of an index is over the relation's rows
module _ (c : Contents) (k : Kept) (q : Query) (r : RelNo) (p : RelSet) (outer : List Tid) (given : Given) (at : IsScene c k q r p outer given) where
  abbrev w : World
  w = world c k.stored

  abbrev o : Tuple
  o = padded (width q) (has p.0) outer

  abbrev rows : List Values
  rows = rows_of_relation w q r

  -- a sequential scan
  pub seq_ready : All (AreReadyAtRow c q.range r.0 given (conditions_of (base q.classes r.0))) rows
  seq_ready n d within =
      subst (AreReadyAtRow c q.range r.0 given (conditions_of (base q.classes r.0))) (get_or_default rows n [] d within)
      (ready_at c k q r p outer given at n within (conditions_of (base q.classes r.0)) (base_near c k q r p outer given at))

  fetched_is : (es : List Cond) → ((e : Cond) → IsIn e es → IsNear c q r.0 (has p.0) e) → (n : ℕ) → n < length rows → fetched_at r.0 given es rows n ≡ fetched_row w q r o es n
  fetched_is es each n within =
      ap (λ (b : Bool). record { row = n; looked = false; fetched = true; given = b }) (true_at c k q r p outer given at n within es each)

  -- rows that are fetched by their numbers
  pub fetched_are : (es : List Cond) → ((e : Cond) → IsIn e es → IsNear c q r.0 (has p.0) e) → (ns : List ℕ) → ((n : ℕ) → IsIn n ns → n < length rows) → rows_of r.0 given es rows ns ≡ map (fetched_row w q r o es) ns
  fetched_are es each ns within = map_in_same (fetched_at r.0 given es rows) (fetched_row w q r o es) ns (λ n i. fetched_is es each n (within n i))

  pub seq_rows_are : rows_from r.0 given (conditions_of (base q.classes r.0)) rows 0 ≡ map (fetched_row w q r o (conditions_of (base q.classes r.0))) (row_numbers w q r)
  seq_rows_are =
      let z : length rows - 0 ≡ length rows = omega arith in
      ap (λ (m : ℕ). rows_of r.0 given (conditions_of (base q.classes r.0)) rows (range_with_len 0 m)) z
      ∙ fetched_are (conditions_of (base q.classes r.0)) (base_near c k q r p outer given at) (range_with_len 0 (length rows))
      (λ n i. let lt = in_range 0 (length rows) n i in omega (arith, lt))

  pub clauses_ready : (ns : List ℕ) → ((n : ℕ) → IsIn n ns → n < length rows) → All (IsReadyNumber c q.range r.0 given (clauses_at w q r p) rows) ns
  clauses_ready ns within = all_from (IsReadyNumber c q.range r.0 given (clauses_at w q r p) rows) ns (λ n i. record {
    within = within n i;
    clauses = ready_at c k q r p outer given at n (within n i) (clauses_at w q r p) (clauses_near c k q r p outer given at);
  })

  pub clauses_all_ready : All (AreReadyAtRow c q.range r.0 given (clauses_at w q r p)) rows
  clauses_all_ready n d within =
      subst (AreReadyAtRow c q.range r.0 given (clauses_at w q r p)) (get_or_default rows n [] d within)
      (ready_at c k q r p outer given at n within (clauses_at w q r p) (clauses_near c k q r p outer given at))

  module _ (i : IndexNo) (on : IsIndexOn c q r.0 i) (contents : IsLawful c) where
    abbrev d : Index
    d = index_at c i

    abbrev es : List Cond
    es = index_scan_conditions w q r i p

    abbrev passes : IndexEntry → Bool
    passes e = all_true w q (beside q r.0 e.row o) (limits d r.0 es)

    -- the part of an index that a scan comes to
    abbrev part : Bool → List IndexEntry
    part b = in_direction b (filter passes (entries w i))

    in_part : (b : Bool) (e : IndexEntry) → IsIn e (part b) → IsEntryAt d rows e
    in_part b e j = at_entries c k q r p outer given at i on e (in_filter passes (entries w i) e (in_directed b e (filter passes (entries w i)) j)).0

    bounded_are : (b : Bool) → in_scan_direction w q b (bounded w q r i p o) ≡ map (λ (e : IndexEntry). e.row) (part b)
    bounded_are b =
        ap (in_scan_direction w q b)
        (filter_of_map (λ (n : ℕ). all_true w q (beside q r.0 n o) (conditions_of (index_bounds c q.classes i r.0 (has p.0)))) (λ (e : IndexEntry). e.row) (entries w i)
        ∙ ap (map (λ (e : IndexEntry). e.row)) (filter_in_same (λ (e : IndexEntry). all_true w q (beside q r.0 e.row o) (conditions_of (index_bounds c q.classes i r.0 (has p.0)))) passes (entries w i)
        (λ e j. sym (limits_are _ (λ n. (clause_at q.classes.clauses n).cond) d r.0 (index_conditions c q.classes i r.0 (has p.0)) (by_number c q r p i)))))
        ∙ directed_rows w q b (filter passes (entries w i))

    use_held : (e : Cond) → IsIn e es → IsHeldNear c q r.0 (has p.0) d e
    use_held e j = used_held c k q r p outer given at i e (used c k q r p outer given at i e j)

    abbrev columns : List Column
    columns = (table_at c (relation_at q.range r).0).columns

    -- a scan of it
    entry_is : (e : IndexEntry) → IsEntryAt d rows e → entry_at r.0 given es (clauses_at w q r p) d rows e ≡ entry_row w q r i false p o e.row
    entry_is e here =
        ap₂ (λ (a b : Bool). record { row = e.row; looked = true; fetched = a; given = a && b })
        (true_entry c k q r p outer given at d columns (lawful c k q r p outer given at i on contents) e here es use_held)
        (true_at c k q r p outer given at e.row here.within (clauses_at w q r p) (clauses_near c k q r p outer given at))

    pub index_ready : (b : Bool) → All (IsReadyEntry c q.range r.0 given es (clauses_at w q r p) d rows) (part b)
    index_ready b = all_from (IsReadyEntry c q.range r.0 given es (clauses_at w q r p) d rows) (part b) (λ e j.
        let here = in_part b e j in
        record {
          within = here.within;
          entry = ready_entry c k q r p outer given at d columns (lawful c k q r p outer given at i on contents) e here es use_held;
          row = ready_at c k q r p outer given at e.row here.within (clauses_at w q r p) (clauses_near c k q r p outer given at);
        })

    pub index_are : (b : Bool) → map (entry_at r.0 given es (clauses_at w q r p) d rows) (part b) ≡ map (entry_row w q r i false p o) (in_scan_direction w q b (bounded w q r i p o))
    index_are b =
        map_in_same (entry_at r.0 given es (clauses_at w q r p) d rows) (λ e. entry_row w q r i false p o e.row) (part b) (λ e j. entry_is e (in_part b e j))
        ∙ sym (map-map (entry_row w q r i false p o) (λ (e : IndexEntry). e.row) (part b))
        ∙ ap (map (entry_row w q r i false p o)) (sym (bounded_are b))

    -- as a call was handed it
    module _ (c' : Contents) (s' : Range) (r' : RelNo) (cls' : List Cond) (rows' : List Values) (ts' : List Cond) (d' : Index) (ce : c' ≡ c) (se : s' ≡ q.range) (re : r' ≡ r) (ee : cls' ≡ clauses_at w q r p) (we : rows' ≡ rows) (te : ts' ≡ es) (de : d' ≡ d) (b : Bool) (cursor : List IndexEntry) (ie : cursor ≡ part b) where
      pub index_begins : All (IsReadyEntry c' s' r'.0 given ts' cls' d' rows') cursor
      index_begins =
          subst (All (IsReadyEntry c' s' r'.0 given ts' cls' d' rows')) (sym ie)
          (moved_index (λ a l e f h t y. All (IsReadyEntry a l e.0 given t f y h) (part b)) c c' q.range s' r r' (clauses_at w q r p) cls' rows rows' es ts' d d' ce se re ee we te de (index_ready b))

      pub index_begun : map (entry_at r'.0 given ts' cls' d' rows') cursor ≡ map (entry_row w q r i false p o) (in_scan_direction w q b (bounded w q r i p o))
      index_begun =
          ap (map (entry_at r'.0 given ts' cls' d' rows')) ie
          ∙ moved_index (λ a l e f h t y. map (entry_at e.0 given t f y h) (part b) ≡ map (entry_row w q r i false p o) (in_scan_direction w q b (bounded w q r i p o)))
          c c' q.range s' r r' (clauses_at w q r p) cls' rows rows' es ts' d d' ce se re ee we te de (index_are b)

    -- an index-only scan of it, where it holds each column of the relation that is named
    module _ (holds : holds_columns d r.0 q.used ≡ true) where
      named_held : (used : List ColRef) → list_all (λ (x : ColRef). not (nat_eq x.rel.0 r.0) || list_any (λ (n : ColNo). nat_eq x.col.0 n.0) (columns_of d)) used ≡ true → (x : ColRef) → IsIn x used → holds_own d r.0 x ≡ true
      named_held [] h x j = absurd j
      named_held (y ∷ ys) h x (inl same) =
          ap (λ (z : ColRef). holds_own d r.0 z) same
          ∙ ap (λ (b : Bool). not (nat_eq y.rel.0 r.0) || b) (sym (list_any-append (λ (n : ColNo). nat_eq y.col.0 n.0) (key_columns d) d.include))
          ∙ (and_parts (not (nat_eq y.rel.0 r.0) || list_any (λ (n : ColNo). nat_eq y.col.0 n.0) (columns_of d)) _ h).0
      named_held (y ∷ ys) h x (inr j) = named_held ys (and_parts (not (nat_eq y.rel.0 r.0) || list_any (λ (n : ColNo). nat_eq y.col.0 n.0) (columns_of d)) _ h).1 x j

      used_own : (x : ColRef) → IsIn x q.used → holds_own d r.0 x ≡ true
      used_own = named_held q.used holds

      clause_held : (x : Clause) → IsIn x q.classes.clauses → each_column (holds_own d r.0) x.cond ≡ true
      clause_held x j =
          let gs = given_with c q at.bound.items in
          let passed : All (λ e. each_column (holds_own d r.0) e ≡ true) gs.conjuncts = in_columns q.where_all (holds_own d r.0) (conditions_pass c q at.bound (holds_own d r.0) used_own) in
          clause_passes (holds_own d r.0) gs (all_at (λ (e : Cond). each_column (holds_own d r.0) e ≡ true) gs.conjuncts passed)
          (λ (y : OrderItem) l. used_own y.col (item_used c q at.bound y l))
          q.classes.classes at.bound.classes.classes x (subst (IsIn x) at.bound.classes.clauses j)

      clauses_held : (e : Cond) → IsIn e (clauses_at w q r p) → IsHeldNear c q r.0 (has p.0) d e
      clauses_held e j =
          let of = of_clause q (is_local r.0 (has p.0)) e j in
          record {
            near = clauses_near c k q r p outer given at e j;
            held = subst (λ (x : Cond). each_column (holds_own d r.0) x ≡ true) (sym of.is) (clause_held of.clause of.listed);
          }

      cover_is : (e : IndexEntry) → IsEntryAt d rows e → covered_at r.0 given es (clauses_at w q r p) d e ≡ entry_row w q r i true p o e.row
      cover_is e here =
          ap₂ (λ (a b : Bool). record { row = e.row; looked = true; fetched = false; given = a && b })
          (true_entry c k q r p outer given at d columns (lawful c k q r p outer given at i on contents) e here es use_held)
          (true_entry c k q r p outer given at d columns (lawful c k q r p outer given at i on contents) e here (clauses_at w q r p) clauses_held)

      pub only_ready : (b : Bool) → All (IsReadyCover c q.range r.0 given es (clauses_at w q r p) d) (part b)
      only_ready b = all_from (IsReadyCover c q.range r.0 given es (clauses_at w q r p) d) (part b) (λ e j.
          let here = in_part b e j in
          record {
            tested = ready_entry c k q r p outer given at d columns (lawful c k q r p outer given at i on contents) e here es use_held;
            clauses = ready_entry c k q r p outer given at d columns (lawful c k q r p outer given at i on contents) e here (clauses_at w q r p) clauses_held;
          })

      pub only_are : (b : Bool) → map (covered_at r.0 given es (clauses_at w q r p) d) (part b) ≡ map (entry_row w q r i true p o) (in_scan_direction w q b (bounded w q r i p o))
      only_are b =
          map_in_same (covered_at r.0 given es (clauses_at w q r p) d) (λ e. entry_row w q r i true p o e.row) (part b) (λ e j. cover_is e (in_part b e j))
          ∙ sym (map-map (entry_row w q r i true p o) (λ (e : IndexEntry). e.row) (part b))
          ∙ ap (map (entry_row w q r i true p o)) (sym (bounded_are b))

      module _ (c' : Contents) (s' : Range) (r' : RelNo) (cls' ts' : List Cond) (d' : Index) (ce : c' ≡ c) (se : s' ≡ q.range) (re : r' ≡ r) (ee : cls' ≡ clauses_at w q r p) (te : ts' ≡ es) (de : d' ≡ d) (b : Bool) (cursor : List IndexEntry) (ie : cursor ≡ part b) where
        pub only_begins : All (IsReadyCover c' s' r'.0 given ts' cls' d') cursor
        only_begins =
            subst (All (IsReadyCover c' s' r'.0 given ts' cls' d')) (sym ie)
            (moved_index (λ a l e f h t y. All (IsReadyCover a l e.0 given t f y) (part b)) c c' q.range s' r r' (clauses_at w q r p) cls' rows rows es ts' d d' ce se re ee refl te de (only_ready b))

        pub only_begun : map (covered_at r'.0 given ts' cls' d') cursor ≡ map (entry_row w q r i true p o) (in_scan_direction w q b (bounded w q r i p o))
        only_begun =
            ap (map (covered_at r'.0 given ts' cls' d')) ie
            ∙ moved_index (λ a l e f h t y. map (covered_at e.0 given t f y) (part b) ≡ map (entry_row w q r i true p o) (in_scan_direction w q b (bounded w q r i p o)))
            c c' q.range s' r r' (clauses_at w q r p) cls' rows rows es ts' d d' ce se re ee refl te de (only_are b)
