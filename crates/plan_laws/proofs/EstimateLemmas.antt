-- Estimates read the tables of a catalogue and not its indexes.
use Rattle.std.proofs.Common.{◌≡◌, ℕ, ◌+◌, Bool, true, false, cond, List, [], ◌∷◌, map, refl, ap, ap₂, ◌∙◌}
use Rattle.std.specs.Prelude.{◌-◌, min, take, Option, Some, None}
use Rattle.pg_value.specs.declared.operators.Op.{Op}
use Rattle.pg_value.specs.declared.value.Value.{Value}
use Rattle.pg_value.specs.declared.value.Value.TheVariants.{Null}
use Rattle.pg_expr.specs.declared.operand.Operand.{Operand}
use Rattle.pg_expr.specs.declared.operand.Operand.TheVariants.{Col, Lit}
use Rattle.pg_expr.specs.declared.operand.ColRef.{ColRef}
use Rattle.pg_expr.specs.Cond.{Cond, compare, is_null, is_not_null, bool_col, const, all_of, any_of, negation, Conds, no_conds, cond_and}
use Rattle.catalog.specs.Contents.{TableDef, NamedIndex}
use Rattle.catalog.specs.Range.{Range}
use Rattle.eq_classes.specs.Classes.{listed}
use Rattle.path_cost.specs.Columns.{stats_of}
use Rattle.path_cost.specs.Estimates.{kept}
use Rattle.path_cost.specs.Ranges.{ColumnBound, bound_of, listed_condition, has_end, is_bound_at}
use Rattle.path_cost.specs.Selectivity.{selectivity, of_all, of_any, of_comparison, of_column_and, and_share, or_share, bound_share, least_bound, column_range, end_weight, is_ranged, range_share, range_weight, weight, weight_or, weights}
use Rattle.path_cost.specs.declared.shares.TheConstants.{ALL_ROWS}
use Rattle.plan_laws.specs.Moved.{over}

module _ (tables : List TableDef) (a b : List NamedIndex) (range : Range) where
  of-column : (op : Op) (x : ColRef) (v : Value) → of_column_and (over tables b) range op x v ≡ of_column_and (over tables a) range op x v
  of-column op x Null = refl
  of-column op x _ = refl

  of-compared : (op : Op) (l r : Operand) → of_comparison (over tables b) range op l r ≡ of_comparison (over tables a) range op l r
  of-compared op (Col x) (Col y) = refl
  of-compared op (Col x) (Lit v) = of-column op x v
  of-compared op (Lit v) (Col x) = of-column _ x v
  of-compared op (Lit v) (Lit w) = refl

  -- what a bound of a column multiplies with in a list
  bound-over : (e : Cond) → bound_share (over tables b) range e ≡ bound_share (over tables a) range e
  bound-over (compare op l r) = of-compared op l r
  bound-over _ = refl

  least-over : (x : ColRef) (below : Bool) (es : List Cond) → least_bound (over tables b) range x below es ≡ least_bound (over tables a) range x below es
  least-over x below [] = refl
  least-over x below (e ∷ es) = ap₂ (λ (m n : ℕ). cond (is_bound_at x below (bound_of e)) (min m n) n) (bound-over e) (least-over x below es)

  column-over : (x : ColRef) (es : List Cond) → column_range (over tables b) range x es ≡ column_range (over tables a) range x es
  column-over x es = ap₂ (range_share (stats_of (over tables a) range x)) (least-over x true es) (least-over x false es)

  end-over : (es before : List Cond) (o : Option ColumnBound) → end_weight (over tables b) range es before o ≡ end_weight (over tables a) range es before o
  end-over es before None = refl
  end-over es before (Some (x, below)) = ap (λ (n : ℕ). cond (is_ranged (stats_of (over tables a) range x) x es) (Some (cond (has_end x before) ALL_ROWS n)) None) (column-over x es)

  ranged-over : (es : List Cond) (n : ℕ) → range_weight (over tables b) range es n ≡ range_weight (over tables a) range es n
  ranged-over es n = end-over es (take n es) (bound_of (listed_condition es n))

  mutual
    pub selectivity-over : (e : Cond) → selectivity (over tables b) range e ≡ selectivity (over tables a) range e
    selectivity-over (compare op l r) = of-compared op l r
    selectivity-over (is_null x) = refl
    selectivity-over (is_not_null x) = refl
    selectivity-over (bool_col x) = refl
    selectivity-over (const t) = refl
    selectivity-over (all_of es) = of-all-over (listed es) 0 ALL_ROWS es
    selectivity-over (any_of es) = of-any-over 0 es
    selectivity-over (negation e) = ap (λ n. ALL_ROWS - n) (selectivity-over e)

    of-all-over : (parts : List Cond) (n m : ℕ) (es : Conds) → of_all (over tables b) range parts n m es ≡ of_all (over tables a) range parts n m es
    of-all-over parts n m no_conds = refl
    of-all-over parts n m (cond_and e es) =
        of-all-over parts (n + 1) (and_share m (weight_or (range_weight (over tables b) range parts n) (selectivity (over tables b) range e))) es
        ∙ ap₂ (λ (o : Option ℕ) (k : ℕ). of_all (over tables a) range parts (n + 1) (and_share m (weight_or o k)) es) (ranged-over parts n) (selectivity-over e)

    of-any-over : (n : ℕ) (es : Conds) → of_any (over tables b) range n es ≡ of_any (over tables a) range n es
    of-any-over n no_conds = refl
    of-any-over n (cond_and e es) = of-any-over (or_share n (selectivity (over tables b) range e)) es ∙ ap (λ (m : ℕ). of_any (over tables a) range (or_share n m) es) (selectivity-over e)

  weight-over : (es : List Cond) (n : ℕ) → weight (over tables b) range es n ≡ weight (over tables a) range es n
  weight-over es n = ap₂ weight_or (ranged-over es n) (selectivity-over (listed_condition es n))

  pub kept-over : (n : ℕ) (es : List Cond) (ns : List ℕ) → kept n (weights (over tables b) range es ns) ≡ kept n (weights (over tables a) range es ns)
  kept-over n es ns = λ z. kept n (map (λ k. weight-over es k z) ns)
