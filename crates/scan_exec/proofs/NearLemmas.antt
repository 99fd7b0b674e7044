-- Conditions over a relation and the relations of rows that are given can be tested there, and the clauses and index conditions
-- of a scan are such.
use Rattle.std.proofs.Common.{◌≡◌, ◌<◌, ℕ, Bool, true, false, not, cond, ◌&&◌, ◌||◌, nat_eq, nat_lt, List, [], ◌∷◌, length, filter, Option, Some, None, refl, sym, ap, ◌∙◌, subst, arith, ⊎_elim, inl, inr, All}
use Rattle.std.specs.Prelude.{slice_index_or}
use Rattle.std.specs.List.{AllByRecursion}
use Rattle.std.proofs.lemmas.Bool.{and_parts, and_from, cases_Bool, or_cases, or_left, true≢false, eq-eqb, eqb-true, ltb-true, lt-ltb}
use Rattle.pg_base.specs.Sets.{has}
use Rattle.pg_base.specs.declared.numbers.ColNo.{ColNo}
use Rattle.pg_base.specs.declared.numbers.IndexNo.{IndexNo}
use Rattle.pg_base.specs.declared.numbers.RelNo.{RelNo}
use Rattle.pg_base.specs.declared.numbers.TableNo.{TableNo}
use Rattle.pg_base.specs.declared.numbers.Tid.{Tid}
use Rattle.pg_base.specs.declared.rel_set.RelSet.{RelSet}
use Rattle.opfamily.specs.declared.classes.Method.{Method}
use Rattle.opfamily.specs.declared.classes.Method.TheVariants.{Btree, Hash}
use Rattle.pg_expr.specs.declared.operand.ColRef.{ColRef}
use Rattle.pg_expr.specs.Columns.{each_column}
use Rattle.pg_expr.specs.Cond.{Cond}
use Rattle.pg_expr.proofs.ColumnLaws.{weaker-each}
use Rattle.heap.specs.Stored.{Values}
use Rattle.heap.specs.work.Tuples.{padded}
use Rattle.heap.proofs.PaddingLemmas.{padded-inside}
use Rattle.catalog.specs.Contents.{Contents, index_at, table_at}
use Rattle.catalog.specs.Range.{relation_at, table_of}
use Rattle.eq_classes.specs.Clauses.{Clause, one}
use Rattle.eq_classes.specs.Parts.{has_column, is_base, is_inside, is_param, union, is_local}
use Rattle.eq_classes.proofs.HoldLemmas.{in_map}
use Rattle.eq_classes.proofs.InsideLemmas.{inside_more}
use Rattle.eq_classes.proofs.ListLemmas.{IsIn, all_at, all_from, in_filter}
use Rattle.plan_laws.proofs.LocalLemmas.{param_reads}
use Rattle.scan_probes.specs.plan_laws_OverLemmas.{clauses_over}
use Rattle.index_match.specs.Conditions.{allowed, index_conditions, is_condition}
use Rattle.index_match.specs.Numbered.{Numbered, base, conditions_of, local, those}
use Rattle.index_match.proofs.PartLemmas.{clauses_by_number}
use Rattle.path_cost.specs.work.Columns.{IsOver, is_column_in}
use Rattle.sql_query.specs.Meaning.{all_true}
use Rattle.sql_query.specs.Queries.{Query, width}
use Rattle.sql_query.specs.Tuples.{Tuple, beside, row_at, row_of, rows_of_relation}
use Rattle.sql_query.specs.WellBound.{given_of}
use Rattle.sql_query.specs.Worlds.{Holds, World, stored_at, world}
use Rattle.plan_tree.specs.Run.{clauses_at, index_scan_conditions}
use Rattle.store.specs.work.Kept.{Kept}
use Rattle.store.proofs.FitLemmas.{wide}
use Rattle.store.proofs.StoreLemmas.{holds}
use Rattle.scan_probes.specs.work.Scenes.{AreReadyAtRow, IsOverWorld, IsTestable, binds_at, is_within}
use Rattle.scan_probes.specs.work.Values as values
use Rattle.scan_probes.specs.work.Values.{Given, are_true, has_value, is_beside, value_beside, value_in}
use Rattle.scan_probes.proofs.BoundsLemmas.{in_conditions}
use Rattle.scan_probes.proofs.WorldLemmas.{each_both, fits, slot, tested}
use Rattle.scan_exec.specs.work.Scene.{IsNear, IsScene, IsUsed}

-- a condition of the clauses that pass a test is that of such a clause
pub record IsOfClause (ks : List Clause) (test : Clause → Bool) (e : Cond) : Type 0 where
  pub clause : Clause
  pub listed : IsIn clause ks
  pub passes : test clause ≡ true
  pub is : e ≡ clause.cond

pub of_clause : (q : Query) (test : Clause → Bool) (e : Cond) → IsIn e (conditions_of (those q.classes test)) → IsOfClause q.classes.clauses test e
of_clause q test e i =
    let j = in_map (λ (k : Clause). k.cond) (filter test q.classes.clauses) e (subst (IsIn e) (clauses_by_number test 0 q.classes.clauses) i) in
    let in_it = in_filter test q.classes.clauses j.0 j.1 in
    record { clause = j.0; listed = in_it.0; passes = in_it.1; is = j.2 }

pub all_recursive : {A : Type 0} (P : A → Type 0) (xs : List A) → ((x : A) → IsIn x xs → P x) → AllByRecursion P xs
all_recursive P [] h = tt
all_recursive P (x ∷ xs) h = (h x (inl refl), all_recursive P xs (λ y i. h y (inr i)))

pub in_allowed : (m : Method) (cs : List Numbered) (x : Numbered) → IsIn x (allowed m cs) → IsIn x cs
in_allowed Btree cs x i = i
in_allowed Hash [] x i = absurd i
in_allowed Hash (c ∷ cs) x (inl same) = inl same
in_allowed Hash (c ∷ cs) x (inr i) = absurd i

module _ (c : Contents) (k : Kept) (q : Query) (r : RelNo) (p : RelSet) (outer : List Tid) (given : Given) (at : IsScene c k q r p outer given) where
  abbrev w : World
  w = world c k.stored

  abbrev o : Tuple
  o = padded (width q) (has p.0) outer

  abbrev g : Given
  g = values.tuple_given w q (has p.0) o

  abbrev row : ℕ → Values
  row n = slice_index_or (rows_of_relation w q r) n []

  abbrev near : ColRef → Bool
  near x = is_column_in c q.range x && union (one r.0) (has p.0) x.rel.0

  abbrev Near : Cond → Type 0
  Near = IsNear c q r.0 (has p.0)

  pub over : IsOverWorld w q
  over = record { bound = at.bound; holds = at.store.world }

  -- a row of a relation has its table's columns
  pub row_long : (n m : ℕ) → n < width q → m < length (rows_of_relation w q (record { 0 = n })) →
      length (slice_index_or (rows_of_relation w q (record { 0 = n })) m []) ≡ length (table_at c (relation_at q.range (record { 0 = n })).0).columns
  row_long n m lt within =
      let t : TableNo = (relation_at q.range (record { 0 = n })).0 in
      let h : Holds (table_at c t) (stored_at w t) = holds c k at.store t (at.bound.range.tables n (record { 0 = 0 }, []) lt) in
      wide (stored_at w t).columns (slice_index_or (stored_at w t).rows m []) (h.lawful.each m [] within)
      ∙ ap length h.columns

  column_in : (x : ColRef) → is_column_in c q.range x ≡ true → (x.rel.0 < width q) × (x.col.0 < length (table_at c (table_of q.range x)).columns)
  column_in x h =
      let parts = and_parts (nat_lt x.rel.0 (length q.range)) (nat_lt x.col.0 (length (table_at c (table_of q.range x)).columns)) h in
      (ltb-true _ _ parts.0, ltb-true _ _ parts.1)

  -- a column of a relation whose row is given has a value there
  given_value : (x : ColRef) → is_column_in c q.range x ≡ true → has p.0 x.rel.0 ≡ true → has_value (slice_index_or g x.rel.0 None) x.col ≡ true
  given_value x column in_set =
      let lt = column_in x column in
      let number : row_of o x.rel.0 < length (rows_of_relation w q x.rel) =
      subst (λ (m : ℕ). m < length (rows_of_relation w q x.rel)) (sym (padded-inside (width q) (has p.0) outer x.rel.0 lt.0 in_set)) (at.outer.within x.rel.0 in_set) in
      let long = row_long x.rel.0 (row_of o x.rel.0) lt.0 number in
      ap (λ (v : Option Values). has_value v x.col) (slot w q over r (has p.0) o x.rel.0 lt.0 ∙ ap (λ (b : Bool). cond b (Some (row_at w q o x.rel)) None) in_set)
      ∙ lt-ltb x.col.0 (length (row_at w q o x.rel)) (omega (arith, long, lt.1))

  table_in : (x : ColRef) → is_column_in c q.range x ≡ true → nat_lt (table_of q.range x).0 (length c.tables) ≡ true
  table_in x column = lt-ltb _ _ (at.bound.range.tables x.rel.0 (record { 0 = 0 }, []) (column_in x column).0)

  binds_from : (own : ColNo → Bool) (x : ColRef) → near x ≡ true → (x.rel.0 ≡ r.0 → own x.col ≡ true) → binds_at c q.range r.0 own g x ≡ true
  binds_from own x is mine =
      let parts = and_parts (is_column_in c q.range x) (union (one r.0) (has p.0) x.rel.0) is in
      and_from _ _ parts.0 (and_from _ _ (table_in x parts.0)
      (⊎_elim
      (λ (t : nat_eq x.rel.0 r.0 ≡ true).
      ap (λ (b : Bool). cond b (own x.col) (has_value (slice_index_or g x.rel.0 None) x.col)) t ∙ mine (eqb-true x.rel.0 r.0 t))
      (λ (f : nat_eq x.rel.0 r.0 ≡ false).
      ap (λ (b : Bool). cond b (own x.col) (has_value (slice_index_or g x.rel.0 None) x.col)) f
      ∙ given_value x parts.0 (sym (ap (λ (b : Bool). b || has p.0 x.rel.0) f) ∙ parts.1))
      (cases_Bool (nat_eq x.rel.0 r.0))))

  -- where its own columns have values, a condition can be tested
  pub testable_where : (own : ColNo → Bool) (e : Cond) → Near e → each_column (λ x. not (nat_eq x.rel.0 r.0) || own x.col) e ≡ true → IsTestable c q.range r.0 own g e
  testable_where own e is mine = record {
    columns = weaker-each (λ x. near x && (not (nat_eq x.rel.0 r.0) || own x.col)) (binds_at c q.range r.0 own g)
        (λ x h.
        let parts = and_parts (near x) (not (nat_eq x.rel.0 r.0) || own x.col) h in
        binds_from own x parts.0 (λ same. by_own (nat_eq x.rel.0 r.0) (own x.col) (eq-eqb x.rel.0 r.0 same) parts.1))
        e (each_both near (λ x. not (nat_eq x.rel.0 r.0) || own x.col) e is.columns mine);
    typed = is.typed;
  }
    where
      by_own : (a b : Bool) → a ≡ true → not a || b ≡ true → b ≡ true
      by_own true b e h = h
      by_own false b e h = absurd (true≢false (sym e))

  -- at a row of the relation a condition can be tested
  pub testable_at : (n : ℕ) → n < length (rows_of_relation w q r) → (e : Cond) → Near e → IsTestable c q.range r.0 (is_within (row n)) g e
  testable_at n within e is = record {
    columns = weaker-each near (binds_at c q.range r.0 (is_within (row n)) g)
        (λ x h. binds_from (is_within (row n)) x h (λ same.
        let lt = column_in x (and_parts (is_column_in c q.range x) (union (one r.0) (has p.0) x.rel.0) h).0 in
        let long = row_long r.0 n at.relation within in
        let table : table_of q.range x ≡ (relation_at q.range r).0 = ap (λ (m : ℕ). (relation_at q.range (record { 0 = m })).0) same in
        let columns : length (table_at c (table_of q.range x)).columns ≡ length (table_at c (relation_at q.range r).0).columns = ap (λ (t : TableNo). length (table_at c t).columns) table in
        lt-ltb x.col.0 (length (row n)) (omega (arith, long, lt.1, columns))))
        e is.columns;
    typed = is.typed;
  }

  -- conditions are ready at a row, and are True there where they are at the tuple
  pub ready_at : (n : ℕ) → n < length (rows_of_relation w q r) → (es : List Cond) → ((e : Cond) → IsIn e es → Near e) → AreReadyAtRow c q.range r.0 given es (row n)
  ready_at n within es each =
      let P : Given → Type 0 = λ x. AreReadyAtRow c q.range r.0 x es (row n) in
      subst P (sym at.given) (record {
        testable = all_recursive (IsTestable c q.range r.0 (is_within (row n)) g) es (λ e i. testable_at n within e (each e i));
        values = fits w q over r (has p.0) o n (is_within (row n)) (value_in (row n)) (λ c h. refl);
      })

  pub true_at : (n : ℕ) → n < length (rows_of_relation w q r) → (es : List Cond) → ((e : Cond) → IsIn e es → Near e) → are_true (value_beside r.0 (value_in (row n)) given) es ≡ all_true w q (beside q r.0 n o) es
  true_at n within es each =
      ap (λ (x : Given). are_true (value_beside r.0 (value_in (row n)) x) es) at.given
      ∙ tested w q over r (has p.0) o n (is_within (row n)) (value_in (row n)) (λ c h. refl) es
      (all_recursive (IsTestable c q.range r.0 (is_within (row n)) g) es (λ e i. testable_at n within e (each e i)))

  -- the clauses of the scan
  clause_near : (x : Clause) → IsIn x q.classes.clauses → is_local r.0 (has p.0) x ≡ true → Near x.cond
  clause_near x i is =
      let of : IsOver c q.range x.cond = all_at (λ (y : Clause). IsOver c q.range y.cond) q.classes.clauses (clauses_over c q at.bound) x i in
      let gs = given_of c q in
      let inside : is_inside (union (one r.0) (has p.0)) x.cond ≡ true = ⊎_elim
      (λ (b : is_base r.0 x ≡ true). inside_more (one r.0) (union (one r.0) (has p.0)) x.cond (λ n h. or_left (one r.0 n) (has p.0 n) h) b)
      (λ (b : is_param r.0 (has p.0) x ≡ true). param_reads gs.type_of gs.conjuncts q.classes.classes r.0 (has p.0) x (subst (IsIn x) at.bound.classes.clauses i) b)
      (or_cases (is_base r.0 x) (is_param r.0 (has p.0) x) is) in
      record {
        columns = each_both (is_column_in c q.range) (λ y. union (one r.0) (has p.0) y.rel.0) x.cond of.columns
            (and_parts (each_column (λ y. union (one r.0) (has p.0) y.rel.0) x.cond) (has_column x.cond || union (one r.0) (has p.0) 0) inside).0;
        typed = of.typed;
      }

  pub clauses_near : (e : Cond) → IsIn e (clauses_at w q r p) → Near e
  clauses_near e i =
      let of = of_clause q (is_local r.0 (has p.0)) e i in
      subst Near (sym of.is) (clause_near of.clause of.listed of.passes)

  pub base_near : (e : Cond) → IsIn e (conditions_of (base q.classes r.0)) → Near e
  base_near e i =
      let of = of_clause q (is_base r.0) e i in
      subst Near (sym of.is) (clause_near of.clause of.listed (or_left (is_base r.0 of.clause) (is_param r.0 (has p.0) of.clause) of.passes))

  -- the conditions of an index
  pub used : (i : IndexNo) (e : Cond) → IsIn e (index_scan_conditions w q r i p) → IsUsed c q r.0 (has p.0) i e
  used i e h =
      let x = in_map (λ (y : Numbered). y.cond) (index_conditions c q.classes i r.0 (has p.0)) e h in
      let y = in_filter (λ (z : Numbered). is_condition (index_at c i) r.0 z.cond) (local q.classes r.0 (has p.0)) x.0 (in_allowed (index_at c i).method _ x.0 x.1) in
      record {
        near = subst Near (sym x.2) (clauses_near (x.0).cond (in_conditions (local q.classes r.0 (has p.0)) x.0 y.0));
        form = ap (is_condition (index_at c i) r.0) x.2 ∙ y.1;
      }

  pub all_used : (i : IndexNo) → All (IsUsed c q r.0 (has p.0) i) (index_scan_conditions w q r i p)
  all_used i = all_from (IsUsed c q r.0 (has p.0) i) (index_scan_conditions w q r i p) (used i)
