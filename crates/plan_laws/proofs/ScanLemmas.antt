-- What scans give: the rows at which their clauses hold.
use Rattle.std.proofs.Common.{◌≡◌, ℕ, ◌<◌, Bool, true, false, cond, ◌&&◌, ◌||◌, List, [], ◌∷◌, ◌++◌, append-nil, map, filter, reverse, refl, sym, ap, ap₂, ◌∙◌, subst}
use mathlib.Core.Path.{fun_ext}
use Rattle.std.specs.Prelude.{find, Option, None, Some, slice_index_or}
use Rattle.std.specs.List.{list_all}
use Rattle.std.proofs.lemmas.Bool.{and_parts, and_from, eqb-true}
use Rattle.std.proofs.lemmas.List.{reverse-append}
use Rattle.std.proofs.lemmas.List.Elements.{filter-append}
use Rattle.std.proofs.lemmas.List.Sorted.{IsPermutation-reverse}
use Rattle.std.proofs.Math.Bool.{or-false, and-false}
use Rattle.pg_base.specs.Sets.{has}
use Rattle.pg_base.proofs.SetLaws.{has-zero}
use Rattle.pg_base.specs.declared.numbers.TableNo.{TableNo}
use Rattle.pg_base.specs.declared.numbers.RelNo.{RelNo}
use Rattle.pg_base.specs.declared.numbers.IndexNo.{IndexNo}
use Rattle.pg_base.specs.declared.rel_set.RelSet.{RelSet}
use Rattle.opfamily.specs.KeyOrder.{IndexEntry, entry_order}
use Rattle.opfamily.specs.declared.classes.Method.{Method}
use Rattle.opfamily.specs.declared.classes.Method.TheVariants.{Btree, Hash}
use Rattle.opfamily.specs.declared.classes.IndexKey.{IndexKey}
use Rattle.pg_expr.specs.declared.operand.ColRef.{ColRef}
use Rattle.pg_expr.specs.Columns.{some_column, some_column_of, names_column, names_rel}
use Rattle.pg_expr.specs.declared.operand.Operand.{Operand}
use Rattle.pg_expr.specs.declared.operand.Operand.TheVariants.{Col, Lit}
use Rattle.pg_expr.specs.Cond.{Cond, compare, is_null, is_not_null, bool_col, const, all_of, any_of, negation, Conds, no_conds, cond_and}
use Rattle.pg_expr.specs.Truths.{truth_at}
use Rattle.heap.specs.Stored.{Values}
use Rattle.catalog.specs.Contents.{index_at}
use Rattle.catalog.specs.Indexes.{Index}
use Rattle.eq_classes.specs.Clauses.{Set, one, ClauseSource, by_conjunct, by_class, by_pair}
use Rattle.eq_classes.specs.Parts.{union, is_all, is_base, is_param, is_param_from, is_inside, is_lowest, is_relation_of}
use Rattle.pg_value.specs.Truths.{is_true}
use Rattle.sql_query.specs.Meaning.{all_true}
use Rattle.sql_query.specs.Queries.{Query, width}
use Rattle.sql_query.specs.Tuples.{Tuple, row_of, one_row, beside, value_at, rows_of_relation, row_numbers}
use Rattle.sql_query.specs.WellBound.{IsWellBound}
use Rattle.sql_query.specs.Worlds.{World, IsWorld, stored_at}
use Rattle.plan_tree.specs.index_match_Numbered.{Numbered, conditions_of, local}
use Rattle.plan_tree.specs.index_match_Conditions.{allowed, is_condition}
use Rattle.plan_tree.specs.index_match_Usable.{IsUsable}
use Rattle.plan_tree.specs.Plans.{GivenScan, scan_given, is_empty, empty}
use Rattle.plan_tree.specs.Bitmaps.{IsIndexOn}
use Rattle.plan_tree.specs.Entries.{meets_predicate, entry, ordered, entries_over, entry_rows}
use Rattle.plan_tree.specs.Run.{in_scan_direction, index_scan_conditions, clauses_at, index_rows}
use Rattle.plan_laws.specs.work.Meant.{holds_at, numbers_of, meant, tested, meant_rows, meant_scan}
use Rattle.plan_laws.proofs.ClauseLemmas.{one_is_base, local_base}
use Rattle.plan_laws.proofs.EachLemmas.{each_of}
use Rattle.plan_laws.proofs.FilterLemmas.{filter_follows, filter_alike, those_hold, hold_either, hold_alike}
use Rattle.plan_laws.proofs.PermLemmas.{Perm, join, Perm-refl, Perm-sym, Perm-filter, Perm-map, from_std}
use Rattle.plan_laws.proofs.PredicateLemmas.{predicates_follow}
use Rattle.plan_laws.proofs.ReorderLemmas.{Perm-in_order}
use Rattle.plan_laws.proofs.TupleLemmas.{row_at, tuples_one}

pub filter_map : {X Y : Type 0} (f : X → Y) (p : Y → Bool) (xs : List X) → filter p (map f xs) ≡ map f (filter (λ x. p (f x)) xs)
filter_map f p [] = refl
filter_map f p (x ∷ xs) =
    rw (filter_map f p xs)
    (elim (p (f x)) as (λ v. cond v (f x ∷ map f (filter (λ y. p (f y)) xs)) (map f (filter (λ y. p (f y)) xs)) ≡ map f (cond v (x ∷ filter (λ y. p (f y)) xs) (filter (λ y. p (f y)) xs)))
    [ true ↦ refl | false ↦ refl ])

-- a scan without a parameterisation tests the clauses of its relation alone
mutual
  names_none : (e : Cond) → some_column (λ x. false) e ≡ false
  names_none (compare op a b) = by a b
    where
      by : (a b : Operand) → names_column (λ x. false) a || names_column (λ x. false) b ≡ false
      by (Col x) (Col y) = refl
      by (Col x) (Lit v) = refl
      by (Lit v) (Col y) = refl
      by (Lit v) (Lit u) = refl
  names_none (is_null x) = refl
  names_none (is_not_null x) = refl
  names_none (bool_col x) = refl
  names_none (const t) = refl
  names_none (all_of es) = names_none_of es
  names_none (any_of es) = names_none_of es
  names_none (negation e) = names_none e

  names_none_of : (es : Conds) → some_column_of (λ x. false) es ≡ false
  names_none_of no_conds = refl
  names_none_of (cond_and e es) = ap₂ (λ (u v : Bool). u || v) (names_none e) (names_none_of es)

find_nothing : (xs : List ColRef) → find (λ x. false) xs ≡ None
find_nothing [] = refl
find_nothing (x ∷ xs) = find_nothing xs

no_param_from : (r : ℕ) (e : Cond) (s : ClauseSource) → is_param_from r empty e s ≡ false
no_param_from r e (by_conjunct n) =
    ap (λ (v : Bool). is_inside (union (one r) empty) e && (names_rel r e && v)) (names_none e)
    ∙ ap (λ (v : Bool). is_inside (union (one r) empty) e && v) (and-false (names_rel r e))
    ∙ and-false (is_inside (union (one r) empty) e)
no_param_from r e (by_class n c) = refl
no_param_from r e (by_pair n c l h) =
    ap₂ (λ (u v : Bool). (is_lowest c (one r) l && u) || (v && is_lowest c (one r) h))
    (ap (λ (x : Option ColRef). is_relation_of x h) (find_nothing c.members))
    (ap (λ (x : Option ColRef). is_relation_of x l) (find_nothing c.members))
    ∙ ap (λ (v : Bool). v || false) (and-false (is_lowest c (one r) l))

-- the conditions of an index are some of those that its scan tests
pub all_filtered : (test : Cond → Bool) (p : Numbered → Bool) (ns : List Numbered) → list_all test (conditions_of ns) ≡ true → list_all test (conditions_of (filter p ns)) ≡ true
all_filtered test p [] h = refl
all_filtered test p (n ∷ ns) h =
    let parts : (test n.cond ≡ true) × (list_all test (conditions_of ns) ≡ true) = and_parts (test n.cond) (list_all test (conditions_of ns)) h in
    elim (p n) as (λ v. list_all test (conditions_of (cond v (n ∷ filter p ns) (filter p ns))) ≡ true)
    [ true ↦ and_from (test n.cond) (list_all test (conditions_of (filter p ns))) parts.0 (all_filtered test p ns parts.1) | false ↦ all_filtered test p ns parts.1 ]

all_allowed : (test : Cond → Bool) (m : Method) (ns : List Numbered) → list_all test (conditions_of ns) ≡ true → list_all test (conditions_of (allowed m ns)) ≡ true
all_allowed test Btree ns h = h
all_allowed test Hash [] h = refl
all_allowed test Hash (n ∷ ns) h = and_from (test n.cond) true (and_parts (test n.cond) (list_all test (conditions_of ns)) h).0 refl

-- an index in its order has the rows at which its predicate is True
Perm-ordered : (m : Method) (ks : List IndexKey) (es : List IndexEntry) → Perm (ordered m ks es) es
Perm-ordered Btree ks es = Perm-in_order (entry_order ks) es
Perm-ordered Hash ks es = Perm-refl es

rows_of_entries : (d : Index) (rows : List Values) (ns : List ℕ) → map (λ (e : IndexEntry). e.row) (map (entry d rows) ns) ≡ ns
rows_of_entries d rows [] = refl
rows_of_entries d rows (n ∷ ns) = ap (λ (l : List ℕ). n ∷ l) (rows_of_entries d rows ns)

Perm-directed : (w : World) (q : Query) (backward : Bool) (ns : List ℕ) → Perm (in_scan_direction w q backward ns) ns
Perm-directed w q false ns = Perm-refl ns
Perm-directed w q true ns = Perm-sym ns (reverse ns) (from_std ns (reverse ns) (IsPermutation-reverse ns))

filter_reverse : (p : ℕ → Bool) (ns : List ℕ) → reverse (filter p ns) ≡ filter p (reverse ns)
filter_reverse p [] = refl
filter_reverse p (n ∷ ns) =
    by (p n) refl (filter_reverse p ns)
    ∙ sym (ap (filter p) (reverse-append (n ∷ []) ns) ∙ filter-append p (reverse ns) (n ∷ []))
  where
    by : (v : Bool) → p n ≡ v → reverse (filter p ns) ≡ filter p (reverse ns) → reverse (cond (p n) (n ∷ filter p ns) (filter p ns)) ≡ filter p (reverse ns) ++ cond (p n) (n ∷ []) []
    by true e later = rw e (reverse-append (n ∷ []) (filter p ns) ∙ ap (λ (l : List ℕ). l ++ n ∷ []) later)
    by false e later = rw e (later ∙ sym (append-nil (filter p (reverse ns))))

directed_filter : (w : World) (q : Query) (backward : Bool) (p : ℕ → Bool) (ns : List ℕ) → in_scan_direction w q backward (filter p ns) ≡ filter p (in_scan_direction w q backward ns)
directed_filter w q false p ns = refl
directed_filter w q true p ns = filter_reverse p ns

module _ (w : World) (q : Query) where
  -- the predicate of an index is True at a row of a relation
  abbrev pub meets_at : RelNo → IndexNo → ℕ → Bool
  meets_at r i row = meets_predicate (index_at w.contents i).predicate (slice_index_or (rows_of_relation w q r) row [])

  pub entries_are : (r : RelNo) (i : IndexNo) → IsIndexOn w.contents q r.0 i → Perm (entry_rows w i) (filter (meets_at r i) (row_numbers w q r))
  entries_are r i is =
      let d = index_at w.contents i in
      let rows = rows_of_relation w q r in
      let ns = filter (meets_at r i) (row_numbers w q r) in
      subst (λ (t : TableNo). Perm (map (λ (e : IndexEntry). e.row) (entries_over d (stored_at w t).rows)) ns) (sym is.table)
      (subst (λ (l : List ℕ). Perm (map (λ (e : IndexEntry). e.row) (entries_over d rows)) l) (rows_of_entries d rows ns)
      (Perm-map (λ (e : IndexEntry). e.row) (entries_over d rows) (map (entry d rows) ns) (Perm-ordered d.method d.keys (map (entry d rows) ns))))

  pub clauses_hold : (r : RelNo) (p : RelSet) (o : Tuple) (row : ℕ) → all_true w q (beside q r.0 row o) (clauses_at w q r p) ≡ holds_at w q (beside q r.0 row o) (tested w q r.0 (has p.0))
  clauses_hold r p o row = those_hold w q (beside q r.0 row o) (tested w q r.0 (has p.0))

  pub base_of_tested : (r : ℕ) (p : Set) (t : Tuple) → holds_at w q t (tested w q r p) ≡ true → holds_at w q t (is_base r) ≡ true
  base_of_tested r p t h = (and_parts (holds_at w q t (is_base r)) (holds_at w q t (is_param r p)) (sym (hold_either (value_at w q t) (is_base r) (is_param r p) q.classes.clauses) ∙ h)).0

  pub conditions_hold : (r : RelNo) (i : IndexNo) (p : RelSet) (t : Tuple) → all_true w q t (clauses_at w q r p) ≡ true → all_true w q t (index_scan_conditions w q r i p) ≡ true
  conditions_hold r i p t h =
      let test = λ (e : Cond). is_true (truth_at (value_at w q t) e) in
      let cs = local q.classes r.0 (has p.0) in
      let passing = λ (n : Numbered). is_condition (index_at w.contents i) r.0 n.cond in
      all_allowed test (index_at w.contents i).method (filter passing cs) (all_filtered test passing cs h)

  -- the rows of an index scan are those of the entries at which its clauses hold
  pub index_rows_are : (r : RelNo) (i : IndexNo) (backward : Bool) (p : RelSet) (o : Tuple)
      → index_rows w q r i backward p o ≡ filter (λ row. holds_at w q (beside q r.0 row o) (tested w q r.0 (has p.0))) (in_scan_direction w q backward (entry_rows w i))
  index_rows_are r i backward p o =
      let clause = λ (row : ℕ). all_true w q (beside q r.0 row o) (clauses_at w q r p) in
      let condition = λ (row : ℕ). all_true w q (beside q r.0 row o) (index_scan_conditions w q r i p) in
      let es = in_scan_direction w q backward (entry_rows w i) in
      ap (filter clause) (directed_filter w q backward condition (entry_rows w i))
      ∙ filter_follows clause condition es (each_of (λ (row : ℕ). clause row ≡ true → condition row ≡ true) (λ row h. conditions_hold r i p (beside q r.0 row o) h) es)
      ∙ filter_alike clause (λ row. holds_at w q (beside q r.0 row o) (tested w q r.0 (has p.0))) es (clauses_hold r p o)

  -- as a bag those of the relation
  pub index_means : IsWorld w → (r : RelNo) (i : IndexNo) (backward : Bool) (p : RelSet) (o : Tuple) → r.0 < width q → IsIndexOn w.contents q r.0 i → IsUsable w.contents q.classes i r.0
      → Perm (index_rows w q r i backward p o) (meant_rows w q r.0 (has p.0) o)
  index_means world r i backward p o lt is usable =
      let rows = row_numbers w q r in
      let test = λ (row : ℕ). holds_at w q (beside q r.0 row o) (tested w q r.0 (has p.0)) in
      let es = in_scan_direction w q backward (entry_rows w i) in
      subst (λ (l : List ℕ). Perm l (meant_rows w q r.0 (has p.0) o)) (sym (index_rows_are r i backward p o))
      (subst (λ (l : List ℕ). Perm (filter test es) l)
      (filter_follows test (meets_at r i) rows (each_of (λ (row : ℕ). test row ≡ true → meets_at r i row ≡ true) (λ row h. predicates_follow w q world r i lt is usable row o (base_of_tested r.0 (has p.0) (beside q r.0 row o) h)) rows))
      (Perm-filter test es (filter (meets_at r i) rows)
      (join es (entry_rows w i) (filter (meets_at r i) rows) (Perm-directed w q backward (entry_rows w i)) (entries_are r i is))))

  -- a list is what a plan of a set is to give
  abbrev pub Gives : Option GivenScan → Set → Tuple → List Tuple → Type 0
  Gives None set o ts = Perm ts (meant w q set)
  Gives (Some s) set o ts = Perm ts (meant_scan w q s.relation.0 (has s.param.0) o) × (set ≡ one s.relation.0)

  module _ (world : IsWorld w) (bound : IsWellBound w.contents q) where
    -- the clauses over a relation at its row alone, and beside other rows
    base_beside : (r : ℕ) → r < width q → (o : Tuple) (row : ℕ) → holds_at w q (one_row q r row) (is_all (one r)) ≡ holds_at w q (beside q r row o) (is_base r)
    base_beside r lt o row =
        one_is_base w q world bound (one_row q r row) r
        ∙ local_base w q world bound (one_row q r row) (beside q r row o) r (λ k is.
        let low : k < width q = subst (λ (j : ℕ). j < width q) (sym (eqb-true k r is)) lt in
        (row_at (width q) (λ j. cond (one r j) row 0) k low ∙ ap (λ (v : Bool). cond v row 0) is)
        ∙ sym (row_at (width q) (λ j. cond (one r j) row (row_of o j)) k low ∙ ap (λ (v : Bool). cond v row (row_of o k)) is))

    -- the rows at which the clauses of a relation alone hold are its tuples
    pub base_means : (r : ℕ) → r < width q → (o : Tuple) → map (one_row q r) (filter (λ row. holds_at w q (beside q r row o) (is_base r)) (numbers_of w q r)) ≡ meant w q (one r)
    base_means r lt o =
        ap (λ (l : List ℕ). map (one_row q r) l) (filter_alike (λ row. holds_at w q (beside q r row o) (is_base r)) (λ row. holds_at w q (one_row q r row) (is_all (one r))) (numbers_of w q r) (λ row. sym (base_beside r lt o row)))
        ∙ sym (filter_map (one_row q r) (λ t. holds_at w q t (is_all (one r))) (numbers_of w q r))
        ∙ ap (λ (l : List Tuple). filter (λ t. holds_at w q t (is_all (one r))) l) (sym (tuples_one w q r lt))

    pub whole_scan : (r : ℕ) (p : Set) → r < width q → p ≡ empty → (o : Tuple) → meant_scan w q r p o ≡ meant w q (one r)
    whole_scan r p lt none o =
        ap (λ (s : Set). meant_scan w q r s o) none
        ∙ ap (λ (l : List ℕ). map (one_row q r) l) (filter_alike (λ row. holds_at w q (beside q r row o) (tested w q r empty)) (λ row. holds_at w q (beside q r row o) (is_base r)) (numbers_of w q r)
        (λ row. hold_alike (value_at w q (beside q r row o)) (tested w q r empty) (is_base r) q.classes.clauses (λ k. ap (λ (v : Bool). is_base r k || v) (no_param_from r k.cond k.source) ∙ or-false (is_base r k))))
        ∙ base_means r lt o

    pub no_members : (p : RelSet) → is_empty p ≡ true → has p.0 ≡ empty
    no_members p e = ap has (eqb-true p.0 0 e) ∙ fun_ext (λ k. has-zero k)

    -- a scan that has these rows gives what it is to
    pub scan_gives : (r : RelNo) (p : RelSet) (o : Tuple) (rows : List ℕ) → r.0 < width q → Perm rows (meant_rows w q r.0 (has p.0) o) → Gives (scan_given r p) (one r.0) o (map (one_row q r.0) rows)
    scan_gives r p o rows lt is = by (is_empty p) refl
      where
        mapped : Perm (map (one_row q r.0) rows) (meant_scan w q r.0 (has p.0) o)
        mapped = Perm-map (one_row q r.0) rows (meant_rows w q r.0 (has p.0) o) is

        by : (v : Bool) → is_empty p ≡ v → Gives (cond v None (Some (record { relation = r; param = p }))) (one r.0) o (map (one_row q r.0) rows)
        by true e = subst (λ (l : List Tuple). Perm (map (one_row q r.0) rows) l) (whole_scan r.0 (has p.0) lt (no_members p e) o) mapped
        by false e = (mapped, refl)
