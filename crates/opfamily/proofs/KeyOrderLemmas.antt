-- The orders of key values and of entries are total, and a comparison column by column gives them.
use Rattle.std.proofs.Common.{◌≡◌, ℕ, zero, suc, ◌+◌, ◌<◌, List, [], ◌∷◌, length, drop, get_or, refl, sym, ap, ap₂, ◌∙◌, add-one, Ordering, Less, Equal, Greater}
use Rattle.std.specs.Cmp.{IsTotalOrder}
use Rattle.std.specs.Ordering.{ordering_then}
use Rattle.std.proofs.lemmas.Cmp.{on_total, then_total, nat_cmp_total}
use Rattle.std.proofs.lemmas.List.{drop_more}
use Rattle.pg_value.specs.declared.value.Value.{Value}
use Rattle.pg_value.specs.declared.value.Value.TheVariants.{Null}
use Rattle.pg_value.proofs.ColumnOrderLemmas.{column_total}
use Rattle.opfamily.specs.declared.classes.IndexKey.{IndexKey}
use Rattle.opfamily.specs.KeyOrder.{key_family, key_order, first_value, later_values, key_values_order, IndexEntry, entry_order}

pub key_total : (k : IndexKey) → IsTotalOrder (key_order k)
key_total k = column_total (key_family k) k.descending k.nulls_first

pub keys_total : (ks : List IndexKey) → IsTotalOrder (key_values_order ks)
keys_total [] = record { antisymm = λ x y. refl; trans = λ x y z p q. p; congr = λ x y z p. refl }
keys_total (k ∷ ks) = then_total (on_total first_value (key_total k)) (on_total later_values (keys_total ks))

pub entries_total : (ks : List IndexKey) → IsTotalOrder (entry_order ks)
entries_total ks = then_total (on_total (λ (e : IndexEntry). e.keys) (keys_total ks)) (on_total (λ (e : IndexEntry). e.row) nat_cmp_total)

pub first-drop : (vs : List Value) (i : ℕ) → first_value (drop i vs) ≡ get_or vs i Null
first-drop [] zero = refl
first-drop [] (suc i) = refl
first-drop (v ∷ vs) zero = refl
first-drop (v ∷ vs) (suc i) = first-drop vs i

pub later-drop : (vs : List Value) (i : ℕ) → later_values (drop i vs) ≡ drop (suc i) vs
later-drop [] zero = refl
later-drop [] (suc i) = refl
later-drop (v ∷ vs) zero = refl
later-drop (v ∷ vs) (suc i) = later-drop vs i

-- the keys from i on, by the one at i and those after it
pub keys_order-drop : (ks : List IndexKey) (a b : List Value) (i : ℕ) (d : IndexKey) → i < length ks
    → key_values_order (drop i ks) (drop i a) (drop i b) ≡ ordering_then (key_order (get_or ks i d) (get_or a i Null) (get_or b i Null)) (key_values_order (drop (i + 1) ks) (drop (i + 1) a) (drop (i + 1) b))
keys_order-drop ks a b i d lt =
    ap (λ (l : List IndexKey). key_values_order l (drop i a) (drop i b)) (drop_more ks i d lt)
    ∙ ap₂ ordering_then
    (ap₂ (key_order (get_or ks i d)) (first-drop a i) (first-drop b i))
    (ap₂ (key_values_order (drop (i + 1) ks)) (later-drop a i ∙ ap (λ n. drop n a) (sym (add-one i))) (later-drop b i ∙ ap (λ n. drop n b) (sym (add-one i))))

pub then_other : (o k : Ordering) → (o ≡ Equal → ⊥) → ordering_then o k ≡ o
then_other Less k h = refl
then_other Equal k h = absurd (h refl)
then_other Greater k h = refl

module _ (ks : List IndexKey) (a b : List Value) (i : ℕ) (d : IndexKey) (lt : i < length ks) where
  pub step_equal : Equal ≡ key_order (get_or ks i d) (get_or a i Null) (get_or b i Null) → key_values_order (drop i ks) (drop i a) (drop i b) ≡ key_values_order (drop (i + 1) ks) (drop (i + 1) a) (drop (i + 1) b)
  step_equal e = keys_order-drop ks a b i d lt ∙ ap (λ o. ordering_then o (key_values_order (drop (i + 1) ks) (drop (i + 1) a) (drop (i + 1) b))) (sym e)

  pub step_other : (r : Ordering) → r ≡ key_order (get_or ks i d) (get_or a i Null) (get_or b i Null) → (r ≡ Equal → ⊥) → key_values_order (drop i ks) (drop i a) (drop i b) ≡ r
  step_other r e other = keys_order-drop ks a b i d lt ∙ ap (λ o. ordering_then o (key_values_order (drop (i + 1) ks) (drop (i + 1) a) (drop (i + 1) b))) (sym e) ∙ then_other r (key_values_order (drop (i + 1) ks) (drop (i + 1) a) (drop (i + 1) b)) other
