-- How lists of values and groups stand to one another.
use Rattle.std.proofs.Common.{◌≡◌, ◌≢◌, suc, Bool, true, false, cond, List, [], ◌∷◌, length, map, refl, ap, ap₂}
use Rattle.std.specs.Cmp.{IsTotalOrder, Equal-is}
use Rattle.std.proofs.lemmas.Bool.{false≢true}
use Rattle.std.proofs.lemmas.Cmp.{on_total, then_total}
use Rattle.pg_value.specs.declared.value.Value.{Value}
use Rattle.pg_value.specs.Kinds.{kind_order}
use Rattle.pg_value.specs.Sorting.{one_after_other}
use Rattle.pg_value.proofs.KindLemmas.{directed_total, tied-same}
use Rattle.group_values.specs.declared.shape.Sorter.{Sorter}
use Rattle.group_values.specs.Groups.{key_at, same_keys, same_value, sorter_order}

pub both-true : (a b : Bool) → cond a b false ≡ true → (a ≡ true) × (b ≡ true)
both-true true b e = (refl, e)
both-true false b e = absurd (false≢true e)

-- lists of the same values are one
pub same-is : (vs ws : List Value) → same_keys vs ws ≡ true → vs ≡ ws
same-is [] [] e = refl
same-is [] (w ∷ ws) e = absurd (false≢true e)
same-is (v ∷ vs) [] e = absurd (false≢true e)
same-is (v ∷ vs) (w ∷ ws) e =
    let h = both-true (same_value v w) (same_keys vs ws) e in
    ap₂ (λ x xs. x ∷ xs) (tied-same v w ((Equal-is (kind_order v w)).0 h.0)) (same-is vs ws h.1)

pub other-length : (vs ws : List Value) → length vs ≢ length ws → same_keys vs ws ≡ false
other-length [] [] ne = absurd (ne refl)
other-length [] (w ∷ ws) ne = refl
other-length (v ∷ vs) [] ne = refl
other-length (v ∷ vs) (w ∷ ws) ne = by (same_value v w) (other-length vs ws (λ e. ne (ap suc e)))
  where
    by : (b : Bool) → same_keys vs ws ≡ false → cond b (same_keys vs ws) false ≡ false
    by true e = e
    by false e = refl

-- the order of groups by items is total
pub sorters_total : (os : List Sorter) → IsTotalOrder (one_after_other (map sorter_order os))
sorters_total [] = record { antisymm = λ x y. refl; trans = λ x y z p q. p; congr = λ x y z p. refl }
sorters_total (o ∷ os) = then_total (on_total (key_at o) (directed_total o.descending o.nulls_first)) (sorters_total os)
