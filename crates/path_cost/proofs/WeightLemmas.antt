-- Over lawful contents a selectivity is at most all rows, and so is what a condition multiplies with in a list.
use Rattle.std.proofs.Common.{◌≡◌, ◌≤◌, ℕ, zero, suc, ◌+◌, All, List, [], ◌∷◌, Option, Some, None, refl, arith, IsTrue}
use Rattle.std.specs.List.{AllByRecursion}
use Rattle.std.proofs.lemmas.Bool.{and_parts}
use Rattle.std.proofs.lemmas.List.Elements.{All-from_recursion, All-head, All-tail}
use Rattle.pg_value.specs.declared.operators.Op.{Op}
use Rattle.pg_value.specs.declared.value.Value.{Value}
use Rattle.pg_value.specs.declared.value.Value.TheVariants.{Null, Int, Bool as Flag, Text}
use Rattle.pg_value.specs.Truths.{commutator_of}
use Rattle.pg_expr.specs.declared.operand.ColRef.{ColRef}
use Rattle.pg_expr.specs.declared.operand.Operand.{Operand}
use Rattle.pg_expr.specs.declared.operand.Operand.TheVariants.{Col, Lit}
use Rattle.pg_expr.specs.Cond.{Cond, compare, is_null, is_not_null, bool_col, const, all_of, any_of, negation, Conds, no_conds, cond_and}
use Rattle.pg_expr.specs.Columns.{each_column, each_column_of, passes_column}
use Rattle.catalog.specs.Contents.{Contents, IsLawful}
use Rattle.catalog.specs.Range.{Range, column_at, table_of, type_in}
use Rattle.eq_classes.specs.Classes.{listed}
use Rattle.path_cost.specs.declared.shares.TheConstants.{ALL_ROWS}
use Rattle.path_cost.specs.Columns.{known_statistics, stats_of}
use Rattle.path_cost.specs.work.Columns.{AreTables, is_column_in}
use Rattle.path_cost.specs.work.Limits.{HasColumns, HaveColumns}
use Rattle.path_cost.specs.Ranges.{listed_condition}
use Rattle.path_cost.specs.Selectivity.{and_share, of_all, of_any, of_column_and, of_comparison, of_null, or_share, range_weight, selectivity, weight, weight_or}
use Rattle.path_cost.proofs.ColumnLemmas.{column_laws, nulls_most}
use Rattle.path_cost.proofs.LimitLemmas.{known-lawful}
use Rattle.path_cost.proofs.RangeLemmas.{range_weight_most}
use Rattle.path_cost.proofs.ShareLemmas.{all-most, and_most, column-most, less-than-all, null-most, or_most, two-columns-most}

weight-or-most : (o : Option ℕ) (own : ℕ) → ((w : ℕ) → o ≡ Some w → w ≤ ALL_ROWS) → own ≤ ALL_ROWS → weight_or o own ≤ ALL_ROWS
weight-or-most None own given most = most
weight-or-most (Some w) own given most = given w refl

module _ (c : Contents) (range : Range) where
  have-each : (es : Conds) → HaveColumns c range es → AllByRecursion (HasColumns c range) (listed es)
  have-each no_conds h = tt
  have-each (cond_and e es) h =
      let parts = and_parts (each_column (is_column_in c range) e) (each_column_of (is_column_in c range) es) h in
      (parts.0, have-each es parts.1)

  have-columns : (es : Conds) → HaveColumns c range es → All (HasColumns c range) (listed es)
  have-columns es h = All-from_recursion (HasColumns c range) (listed es) (have-each es h)

  has-columns-at : (es : List Cond) (n : ℕ) → All (HasColumns c range) es → HasColumns c range (listed_condition es n)
  has-columns-at [] zero h = refl
  has-columns-at [] (suc n) h = refl
  has-columns-at (e ∷ es) zero h = All-head (HasColumns c range) e es h
  has-columns-at (e ∷ es) (suc n) h = has-columns-at es n (All-tail (HasColumns c range) e es h)

module _ (c : Contents) (range : Range) (lawful : IsLawful c) (tables : AreTables c range) where
  literal-most : (op : Op) (x : ColRef) (v : Value) → IsTrue (is_column_in c range x) → of_column_and c range op x v ≤ ALL_ROWS
  literal-most op x Null h = omega arith
  literal-most op x (Int n) h = column-most (type_in c range x) (stats_of c range x) (known-lawful c range lawful tables x h) op (Int n)
  literal-most op x (Flag b) h = column-most (type_in c range x) (stats_of c range x) (known-lawful c range lawful tables x h) op (Flag b)
  literal-most op x (Text t) h = column-most (type_in c range x) (stats_of c range x) (known-lawful c range lawful tables x h) op (Text t)

  compared-most : (op : Op) (l r : Operand) → IsTrue (passes_column (is_column_in c range) l) → IsTrue (passes_column (is_column_in c range) r) → of_comparison c range op l r ≤ ALL_ROWS
  compared-most op (Col x) (Col y) h k = two-columns-most op (stats_of c range x) (stats_of c range y) (known-lawful c range lawful tables x h).some
  compared-most op (Col x) (Lit v) h k = literal-most op x v h
  compared-most op (Lit v) (Col x) h k = literal-most (commutator_of op) x v k
  compared-most op (Lit v) (Lit w) h k = all-most _

  null-share-most : (x : ColRef) → IsTrue (is_column_in c range x) → of_null c range x ≤ ALL_ROWS
  null-share-most x h = null-most (column_at c range x) (known_statistics c range x) (λ s e. nulls_most c (table_of range x) x.col s lawful (column_laws c range x tables h).1 e)

  own-or-end : (es : List Cond) (n own : ℕ) → All (HasColumns c range) es → own ≤ ALL_ROWS → weight_or (range_weight c range es n) own ≤ ALL_ROWS
  own-or-end es n own h most = weight-or-most (range_weight c range es n) own (λ w e. range_weight_most c range lawful tables es n w h e) most

  mutual
    pub share-most : (e : Cond) → HasColumns c range e → selectivity c range e ≤ ALL_ROWS
    share-most (compare op l r) h =
        let sides = and_parts (passes_column (is_column_in c range) l) (passes_column (is_column_in c range) r) h in
        compared-most op l r sides.0 sides.1
    share-most (is_null x) h = null-share-most x h
    share-most (is_not_null x) h = less-than-all _
    share-most (bool_col x) h = omega arith
    share-most (const t) h = all-most _
    share-most (all_of es) h = all-shares-most (listed es) (have-columns c range es h) es 0 ALL_ROWS h (omega arith)
    share-most (any_of es) h = any-shares-most es 0 h (omega arith)
    share-most (negation e) h = less-than-all _

    all-shares-most : (parts : List Cond) → All (HasColumns c range) parts → (es : Conds) (n a : ℕ) → HaveColumns c range es → a ≤ ALL_ROWS → of_all c range parts n a es ≤ ALL_ROWS
    all-shares-most parts k no_conds n a h most = most
    all-shares-most parts k (cond_and e es) n a h most =
        let both = and_parts (each_column (is_column_in c range) e) (each_column_of (is_column_in c range) es) h in
        let one = own-or-end parts n (selectivity c range e) k (share-most e both.0) in
        all-shares-most parts k es (n + 1) (and_share a (weight_or (range_weight c range parts n) (selectivity c range e))) both.1 (and_most a (weight_or (range_weight c range parts n) (selectivity c range e)) most one)

    any-shares-most : (es : Conds) (a : ℕ) → HaveColumns c range es → a ≤ ALL_ROWS → of_any c range a es ≤ ALL_ROWS
    any-shares-most no_conds a h most = most
    any-shares-most (cond_and e es) a h most =
        let both = and_parts (each_column (is_column_in c range) e) (each_column_of (is_column_in c range) es) h in
        any-shares-most es (or_share a (selectivity c range e)) both.1 (or_most a (selectivity c range e) most (share-most e both.0))

  pub weight-most : (es : List Cond) (n : ℕ) → All (HasColumns c range) es → weight c range es n ≤ ALL_ROWS
  weight-most es n h = own-or-end es n (selectivity c range (listed_condition es n)) h (share-most (listed_condition es n) (has-columns-at c range es n h))
