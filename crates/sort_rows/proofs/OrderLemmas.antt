-- The order of lists of values by columns is total, and a comparison column by column gives it.
use Rattle.std.proofs.Common.{◌≡◌, ℕ, ◌+◌, ◌<◌, List, [], ◌∷◌, length, drop, get_or, refl, sym, ap, ap₂, ◌∙◌, add-one, Ordering, Equal}
use Rattle.std.specs.Cmp.{IsTotalOrder}
use Rattle.std.specs.Ordering.{ordering_then}
use Rattle.std.proofs.lemmas.Cmp.{int_cmp_total, on_total, then_total}
use Rattle.std.proofs.lemmas.List.{drop_more}
use Rattle.pg_value.specs.declared.value.Value.{Value}
use Rattle.pg_value.specs.declared.value.Value.TheVariants.{Null}
use Rattle.pg_value.proofs.ColumnOrderLemmas.{column_total}
use Rattle.opfamily.specs.KeyOrder.{first_value, later_values}
use Rattle.opfamily.proofs.KeyOrderLemmas.{first-drop, later-drop, then_other}
use Rattle.sort_rows.specs.declared.columns.SortColumn.{SortColumn}
use Rattle.sort_rows.specs.declared.sort.Keyed.{Keyed}
use Rattle.sort_rows.specs.work.Columns.{values_order, columns_order}
use Rattle.sort_rows.specs.work.Keyed.{key_in, keyed_order}

pub columns_total : (cs : List SortColumn) → IsTotalOrder (columns_order cs)
columns_total [] = record { antisymm = λ x y. refl; trans = λ x y z p q. p; congr = λ x y z p. refl }
columns_total (c ∷ cs) = then_total (on_total first_value (column_total c.family c.descending c.nulls_first)) (on_total later_values (columns_total cs))

pub keyed_total : (cs : List SortColumn) (keys : List Value) → IsTotalOrder (keyed_order cs keys)
keyed_total cs keys = then_total (on_total (λ (k : Keyed). k.lead) int_cmp_total) (on_total (key_in cs keys) (columns_total cs))

-- the columns from i on, by the one at i and those after it
columns_order-drop : (cs : List SortColumn) (a b : List Value) (i : ℕ) (d : SortColumn) → i < length cs
    → columns_order (drop i cs) (drop i a) (drop i b) ≡ ordering_then (values_order (get_or cs i d) (get_or a i Null) (get_or b i Null)) (columns_order (drop (i + 1) cs) (drop (i + 1) a) (drop (i + 1) b))
columns_order-drop cs a b i d lt =
    ap (λ (l : List SortColumn). columns_order l (drop i a) (drop i b)) (drop_more cs i d lt)
    ∙ ap₂ ordering_then
    (ap₂ (values_order (get_or cs i d)) (first-drop a i) (first-drop b i))
    (ap₂ (columns_order (drop (i + 1) cs)) (later-drop a i ∙ ap (λ n. drop n a) (sym (add-one i))) (later-drop b i ∙ ap (λ n. drop n b) (sym (add-one i))))

module _ (cs : List SortColumn) (a b : List Value) (i : ℕ) (d : SortColumn) (lt : i < length cs) where
  pub step_equal : Equal ≡ values_order (get_or cs i d) (get_or a i Null) (get_or b i Null) → columns_order (drop i cs) (drop i a) (drop i b) ≡ columns_order (drop (i + 1) cs) (drop (i + 1) a) (drop (i + 1) b)
  step_equal e = columns_order-drop cs a b i d lt ∙ ap (λ o. ordering_then o (columns_order (drop (i + 1) cs) (drop (i + 1) a) (drop (i + 1) b))) (sym e)

  pub step_other : (r : Ordering) → r ≡ values_order (get_or cs i d) (get_or a i Null) (get_or b i Null) → (r ≡ Equal → ⊥) → columns_order (drop i cs) (drop i a) (drop i b) ≡ r
  step_other r e other = columns_order-drop cs a b i d lt ∙ ap (λ o. ordering_then o (columns_order (drop (i + 1) cs) (drop (i + 1) a) (drop (i + 1) b))) (sym e) ∙ then_other r (columns_order (drop (i + 1) cs) (drop (i + 1) a) (drop (i + 1) b)) other
