-- The predicate of an index that a relation may use is True at each row at which the clauses of the relation are.
use Rattle.std.proofs.Common.{◌≡◌, ℕ, zero, suc, ◌+◌, ◌<◌, Bool, true, false, not, cond, ◌||◌, List, [], ◌∷◌, map, filter, refl, sym, ap, ap₂, ◌∙◌, subst}
use Rattle.std.specs.Prelude.{Option, None, Some, IfSome, slice_get, slice_index_or}
use Rattle.std.specs.List.{list_all, enumerate_from}
use Rattle.std.proofs.lemmas.Bool.{and_parts, and_from, true≢false, eq-eqb, eqb-true}
use Rattle.pg_base.specs.declared.numbers.RelNo.{RelNo}
use Rattle.pg_base.specs.declared.numbers.TableNo.{TableNo}
use Rattle.pg_base.specs.declared.numbers.IndexNo.{IndexNo}
use Rattle.pg_base.specs.declared.numbers.ColNo.{ColNo}
use Rattle.pg_value.specs.declared.columns.Column.{Column}
use Rattle.pg_value.specs.declared.operators.Truth.{Truth}
use Rattle.pg_value.specs.declared.operators.Truth.TheVariants.{True, False, Unknown}
use Rattle.pg_value.specs.declared.value.Value.{Value}
use Rattle.pg_value.specs.Types.{IsOfType}
use Rattle.pg_value.specs.Truths.{is_true}
use Rattle.pg_value.proofs.OrderLaws.{value_total}
use Rattle.pg_expr.specs.declared.operand.ColRef.{ColRef}
use Rattle.pg_expr.specs.Columns.{each_column}
use Rattle.pg_expr.specs.Cond.{Cond, all_of, conds_of}
use Rattle.pg_expr.specs.Truths.{truth_at, truth_of_all}
use Rattle.pg_expr.proofs.ColumnLaws.{agree-truth}
use Rattle.plan_tree.specs.predicate_proof_Derivation.{IsImplied}
use Rattle.plan_tree.specs.predicate_proof_Rows.{at_row, FitsColumns}
use Rattle.plan_tree.specs.predicate_proof_Sound.{sound}
use Rattle.catalog.specs.Contents.{index_at, table_at}
use Rattle.catalog.specs.Indexes.{no_column}
use Rattle.catalog.specs.Range.{relation_at}
use Rattle.eq_classes.specs.Clauses.{one, Clause}
use Rattle.eq_classes.specs.Parts.{is_base, has_column}
use Rattle.eq_classes.specs.work.Holding.{hold}
use Rattle.sql_query.specs.Queries.{Query, width}
use Rattle.sql_query.specs.Tuples.{Tuple, row_of, one_row, beside, value_at, rows_of_relation}
use Rattle.sql_query.specs.Worlds.{World, IsWorld}
use Rattle.plan_laws.proofs.FitsLemmas.{values_fit}
use Rattle.plan_laws.proofs.MeaningLemmas.{all_is_each}
use Rattle.plan_tree.specs.index_match_Numbered.{numbered, conditions_of, base}
use Rattle.plan_tree.specs.index_match_Usable.{IsUsable, IsUsableBy}
use Rattle.plan_tree.specs.Bitmaps.{IsIndexOn}
use Rattle.plan_tree.specs.Entries.{cell, meets_predicate}
use Rattle.plan_laws.specs.work.Meant.{holds_at}
use Rattle.plan_laws.proofs.TupleLemmas.{row_at}

true_from : (t : Truth) → is_true t ≡ true → t ≡ True
true_from True h = refl
true_from False h = absurd (true≢false (sym h))
true_from Unknown h = absurd (true≢false (sym h))

if_there : {X : Type 0} (P : X → Type 0) (xs : List X) (k : ℕ) (d : X) → P (slice_index_or xs k d) → IfSome (slice_get xs k) P
if_there P [] k d h = tt
if_there P (x ∷ xs) zero d h = h
if_there P (x ∷ xs) (suc k) d h = if_there P xs k d h

-- conditions over one relation are True alike where its columns are
alike_from : (r : ℕ) (b d : ColRef → Value) → ((x : ColRef) → one r x.rel.0 ≡ true → b x ≡ d x) → (n : ℕ) (ks : List Clause)
    → hold b (is_base r) ks ≡ true
    → list_all (λ e. is_true (truth_at d e)) (conditions_of (map (λ (p : ℕ × Clause). numbered (p.0, p.1.cond)) (filter (λ (p : ℕ × Clause). is_base r p.1) (enumerate_from n ks)))) ≡ true
alike_from r b d same n [] h = refl
alike_from r b d same n (k ∷ ks) h = by (is_base r k) refl
    (and_parts (not (is_base r k) || is_true (truth_at b k.cond)) (hold b (is_base r) ks) h).0
    (alike_from r b d same (n + 1) ks (and_parts (not (is_base r k) || is_true (truth_at b k.cond)) (hold b (is_base r) ks) h).1)
  where
    by : (v : Bool) → is_base r k ≡ v → not (is_base r k) || is_true (truth_at b k.cond) ≡ true
        → list_all (λ e. is_true (truth_at d e)) (conditions_of (map (λ (p : ℕ × Clause). numbered (p.0, p.1.cond)) (filter (λ (p : ℕ × Clause). is_base r p.1) (enumerate_from (n + 1) ks)))) ≡ true
        → list_all (λ e. is_true (truth_at d e)) (conditions_of (map (λ (p : ℕ × Clause). numbered (p.0, p.1.cond)) (cond (is_base r k) ((n, k) ∷ filter (λ (p : ℕ × Clause). is_base r p.1) (enumerate_from (n + 1) ks)) (filter (λ (p : ℕ × Clause). is_base r p.1) (enumerate_from (n + 1) ks))))) ≡ true
    by true e here more =
        let inside : each_column (λ x. one r x.rel.0) k.cond ≡ true = (and_parts (each_column (λ x. one r x.rel.0) k.cond) (has_column k.cond || one r 0) e).0 in
        let holds : is_true (truth_at b k.cond) ≡ true = ap (λ (v : Bool). not v || is_true (truth_at b k.cond)) (sym e) ∙ here in
        rw e (and_from (is_true (truth_at d k.cond)) (list_all (λ e. is_true (truth_at d e)) (conditions_of (map (λ (p : ℕ × Clause). numbered (p.0, p.1.cond)) (filter (λ (p : ℕ × Clause). is_base r p.1) (enumerate_from (n + 1) ks)))))
        (ap is_true (sym (agree-truth (λ x. one r x.rel.0) b d same k.cond inside)) ∙ holds) more)
    by false e here more = rw e more

module _ (w : World) (q : Query) (world : IsWorld w) where
  abbrev values : RelNo → ℕ → ColNo → Value
  values r row c = cell (slice_index_or (rows_of_relation w q r) row []) c

  -- the values of a row are NULL or of their columns' types
  row_fits : (r : RelNo) (row : ℕ) → r.0 < width q → FitsColumns (table_at w.contents (relation_at q.range r).0).columns (values r row)
  row_fits r row lt c =
      let x : ColRef = record { rel = r; col = c } in
      let here : row_of (one_row q r.0 row) r.0 ≡ row = row_at (width q) (λ j. cond (one r.0 j) row 0) r.0 lt ∙ ap (λ (v : Bool). cond v row 0) (eq-eqb r.0 r.0 refl) in
      if_there (λ (column : Column). IsOfType column.typed (values r row c)) (table_at w.contents (relation_at q.range r).0).columns c.0 no_column
      (subst (λ (n : ℕ). IsOfType (slice_index_or (table_at w.contents (relation_at q.range r).0).columns c.0 no_column).typed (values r n c)) here
      (values_fit w q (one_row q r.0 row) world x))

  -- the values of a relation beside the rows of others are those of its row
  own_values : (r : RelNo) → r.0 < width q → (row : ℕ) (o : Tuple) (x : ColRef) → one r.0 x.rel.0 ≡ true → value_at w q (beside q r.0 row o) x ≡ at_row (values r row) x
  own_values r lt row o x is =
      let e : x.rel.0 ≡ r.0 = eqb-true x.rel.0 r.0 is in
      let low : x.rel.0 < width q = subst (λ (j : ℕ). j < width q) (sym e) lt in
      ap₂ (λ (j : ℕ) (n : ℕ). cell (slice_index_or (rows_of_relation w q (record { 0 = j })) n []) x.col) e
      (row_at (width q) (λ j. cond (one r.0 j) row (row_of o j)) x.rel.0 low ∙ ap (λ (v : Bool). cond v row (row_of o x.rel.0)) is)

  follows_by : (r : RelNo) (i : IndexNo) → r.0 < width q → (index_at w.contents i).table ≡ (relation_at q.range r).0 → (predicate : Option Cond) → IsUsableBy w.contents q.classes r.0 (index_at w.contents i) predicate
      → (row : ℕ) (o : Tuple) → holds_at w q (beside q r.0 row o) (is_base r.0) ≡ true → meets_predicate predicate (slice_index_or (rows_of_relation w q r) row []) ≡ true
  follows_by r i lt same None usable row o h = refl
  follows_by r i lt same (Some e) usable row o h =
      let columns = (table_at w.contents (relation_at q.range r).0).columns in
      let clauses_here = conditions_of (base q.classes r.0) in
      let implied : IsImplied columns clauses_here e = subst (λ (n : TableNo). IsImplied (table_at w.contents n).columns clauses_here e) same usable in
      ap is_true (sound value_total columns (values r row) (row_fits r row lt) (all_of (conds_of clauses_here)) e implied
      (true_from (truth_of_all (at_row (values r row)) (conds_of clauses_here)) (all_is_each (at_row (values r row)) clauses_here
      ∙ alike_from r.0 (value_at w q (beside q r.0 row o)) (at_row (values r row)) (own_values r lt row o) 0 q.classes.clauses h)))

  pub predicates_follow : (r : RelNo) (i : IndexNo) → r.0 < width q → IsIndexOn w.contents q r.0 i → IsUsable w.contents q.classes i r.0
      → (row : ℕ) (o : Tuple) → holds_at w q (beside q r.0 row o) (is_base r.0) ≡ true → meets_predicate (index_at w.contents i).predicate (slice_index_or (rows_of_relation w q r) row []) ≡ true
  predicates_follow r i lt is usable row o h = follows_by r i lt is.table (index_at w.contents i).predicate usable row o h
