-- A row of a relation beside the rows that a tuple has of others: what is tested there is what is True at the tuple.
use Rattle.std.proofs.Common.{◌≡◌, ◌+◌, ◌<◌, ℕ, Bool, true, false, cond, ◌&&◌, nat_eq, nat_lt, List, [], ◌∷◌, length, Option, Some, None, refl, sym, ap, ap₂, ◌∙◌, subst, arith, ⊎_elim}
use Rattle.std.specs.List.{AllByRecursion}
use Rattle.std.specs.Prelude.{IsTrue, slice_index_or}
use Rattle.std.proofs.lemmas.Bool.{and_parts, and_from, cases_Bool, true≢false, eqb-true, ltb-true}
use Rattle.std.proofs.lemmas.List.FromFn.{get_or-map-range_with_len}
use Rattle.pg_base.specs.declared.numbers.ColNo.{ColNo}
use Rattle.pg_base.specs.declared.numbers.RelNo.{RelNo}
use Rattle.pg_value.specs.declared.value.Value.{Value}
use Rattle.pg_value.specs.declared.value.Value.TheVariants.{Null}
use Rattle.pg_value.specs.Types.{IsOfType}
use Rattle.pg_value.specs.Truths.{is_true}
use Rattle.pg_expr.specs.declared.operand.ColRef.{ColRef}
use Rattle.pg_expr.specs.declared.operand.Operand.{Operand}
use Rattle.pg_expr.specs.declared.operand.Operand.TheVariants.{Col, Lit}
use Rattle.pg_expr.specs.Cond.{Cond, compare, is_null, is_not_null, bool_col, const, all_of, any_of, negation, Conds, no_conds, cond_and}
use Rattle.pg_expr.specs.Columns.{each_column, each_column_of, passes_column}
use Rattle.pg_expr.proofs.ColumnLaws.{agree-truth}
use Rattle.catalog.specs.Range.{table_of, type_in}
use Rattle.heap.specs.Stored.{Values}
use Rattle.path_cost.specs.work.Columns.{is_column_in}
use Rattle.plan_laws.proofs.FitsLemmas.{values_fit}
use Rattle.sql_query.specs.Meaning.{all_true}
use Rattle.sql_query.specs.Queries.{Query, width}
use Rattle.sql_query.specs.Tuples.{Tuple, beside, row_at, row_of, rows_of_relation, value_at}
use Rattle.sql_query.specs.Worlds.{World}
use Rattle.scan_probes.specs.work.Scenes.{IsOverWorld, IsTestable, binds_at}
use Rattle.scan_probes.specs.work.Values.{Given, are_true, tuple_given, has_value, value_beside, value_in, row_value}

-- columns that pass two tests pass both
module _ (a b : ColRef → Bool) where
  side_both : (o : Operand) → passes_column a o ≡ true → passes_column b o ≡ true → passes_column (λ x. a x && b x) o ≡ true
  side_both (Col x) h g = and_from _ _ h g
  side_both (Lit v) h g = refl

  mutual
    pub each_both : (e : Cond) → each_column a e ≡ true → each_column b e ≡ true → each_column (λ x. a x && b x) e ≡ true
    each_both (compare op l r) h g =
        let p = and_parts (passes_column a l) (passes_column a r) h in
        let q = and_parts (passes_column b l) (passes_column b r) g in
        and_from _ _ (side_both l p.0 q.0) (side_both r p.1 q.1)
    each_both (is_null x) h g = and_from _ _ h g
    each_both (is_not_null x) h g = and_from _ _ h g
    each_both (bool_col x) h g = and_from _ _ h g
    each_both (const t) h g = refl
    each_both (all_of es) h g = each_both_of es h g
    each_both (any_of es) h g = each_both_of es h g
    each_both (negation e) h g = each_both e h g

    pub each_both_of : (es : Conds) → each_column_of a es ≡ true → each_column_of b es ≡ true → each_column_of (λ x. a x && b x) es ≡ true
    each_both_of no_conds h g = refl
    each_both_of (cond_and e es) h g =
        let p = and_parts (each_column a e) (each_column_of a es) h in
        let q = and_parts (each_column b e) (each_column_of b es) g in
        and_from _ _ (each_both e p.0 q.0) (each_both_of es p.1 q.1)

module _ (w : World) (q : Query) (over : IsOverWorld w q) (r : RelNo) (p : ℕ → Bool) (o : Tuple) where
  abbrev pub given : Given
  given = tuple_given w q p o

  abbrev row : ℕ → Values
  row n = slice_index_or (rows_of_relation w q r) n []

  pub slot : (k : ℕ) → k < width q → slice_index_or given k None ≡ cond (p k) (Some (row_at w q o (record { 0 = k }))) None
  slot k lt = get_or-map-range_with_len (λ (j : ℕ). cond (p j) (Some (row_at w q o (record { 0 = j }))) None) 0 (width q) k k None lt (let same : 0 + k ≡ k = omega arith in same)

  pub row_beside : (n k : ℕ) → k < width q → row_of (beside q r.0 n o) k ≡ cond (nat_eq k r.0) n (row_of o k)
  row_beside n k lt = get_or-map-range_with_len (λ (j : ℕ). cond (nat_eq j r.0) n (row_of o j)) 0 (width q) k k 0 lt (let same : 0 + k ≡ k = omega arith in same)

  -- a column that has a value has that of the tuple
  agrees : (n : ℕ) (has : ColNo → Bool) (own : ColNo → Value) → ((c : ColNo) → has c ≡ true → own c ≡ value_in (row n) c) → (x : ColRef) → binds_at w.contents q.range r.0 has given x ≡ true → value_beside r.0 own given x ≡ value_at w q (beside q r.0 n o) x
  agrees n has own own_is x bound =
      let parts = and_parts (is_column_in w.contents q.range x) _ bound in
      let there = (and_parts (nat_lt (table_of q.range x).0 (length w.contents.tables)) _ parts.1).1 in
      let lt : x.rel.0 < width q = ltb-true x.rel.0 (length q.range) (and_parts (nat_lt x.rel.0 (length q.range)) _ parts.0).0 in
      ⊎_elim
      (λ (t : nat_eq x.rel.0 r.0 ≡ true).
      let same : x.rel.0 ≡ r.0 = eqb-true x.rel.0 r.0 t in
      let known : has x.col ≡ true = sym (ap (λ (b : Bool). cond b (has x.col) (has_value (slice_index_or given x.rel.0 None) x.col)) t) ∙ there in
      ap (λ (b : Bool). cond b (own x.col) (row_value (slice_index_or given x.rel.0 None) x.col)) t
      ∙ own_is x.col known
      ∙ ap₂ (λ (k m : ℕ). slice_index_or (slice_index_or (rows_of_relation w q (record { 0 = k })) m []) x.col.0 Null) (sym same) (sym (row_beside n x.rel.0 lt ∙ ap (λ (b : Bool). cond b n (row_of o x.rel.0)) t)))
      (λ (f : nat_eq x.rel.0 r.0 ≡ false).
      let known : has_value (slice_index_or given x.rel.0 None) x.col ≡ true = sym (ap (λ (b : Bool). cond b (has x.col) (has_value (slice_index_or given x.rel.0 None) x.col)) f) ∙ there in
      ap (λ (b : Bool). cond b (own x.col) (row_value (slice_index_or given x.rel.0 None) x.col)) f
      ∙ ap (λ (v : Option Values). row_value v x.col) (slot x.rel.0 lt) ∙ from_given x (p x.rel.0) (sym (ap (λ (v : Option Values). has_value v x.col) (slot x.rel.0 lt)) ∙ known)
      ∙ ap (λ (m : ℕ). slice_index_or (slice_index_or (rows_of_relation w q x.rel) m []) x.col.0 Null) (sym (row_beside n x.rel.0 lt ∙ ap (λ (b : Bool). cond b n (row_of o x.rel.0)) f)))
      (cases_Bool (nat_eq x.rel.0 r.0))
    where
      from_given : (x : ColRef) (b : Bool) → has_value (cond b (Some (row_at w q o x.rel)) None) x.col ≡ true → row_value (cond b (Some (row_at w q o x.rel)) None) x.col ≡ value_in (row_at w q o x.rel) x.col
      from_given x true h = refl
      from_given x false h = absurd (true≢false (sym h))

  -- values are of their columns' types
  pub fits : (n : ℕ) (has : ColNo → Bool) (own : ColNo → Value) → ((c : ColNo) → has c ≡ true → own c ≡ value_in (row n) c) → (x : ColRef) → IsTrue (binds_at w.contents q.range r.0 has given x) → IsOfType (type_in w.contents q.range x) (value_beside r.0 own given x)
  fits n has own own_is x bound = subst (λ (v : Value). IsOfType (type_in w.contents q.range x) v) (sym (agrees n has own own_is x bound)) (values_fit w q (beside q r.0 n o) over.holds x)

  -- conditions that can be tested are True where they are at the tuple
  pub tested : (n : ℕ) (has : ColNo → Bool) (own : ColNo → Value) → ((c : ColNo) → has c ≡ true → own c ≡ value_in (row n) c) → (es : List Cond) → AllByRecursion (IsTestable w.contents q.range r.0 has given) es
      → are_true (value_beside r.0 own given) es ≡ all_true w q (beside q r.0 n o) es
  tested n has own own_is [] all = refl
  tested n has own own_is (e ∷ es) all =
      ap₂ (λ (a b : Bool). a && b)
      (ap is_true (agree-truth (binds_at w.contents q.range r.0 has given) (value_beside r.0 own given) (value_at w q (beside q r.0 n o)) (agrees n has own own_is) e all.0.columns))
      (tested n has own own_is es all.1)
