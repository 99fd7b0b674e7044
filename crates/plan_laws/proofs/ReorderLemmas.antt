-- Lists in order and lists turned round have the same elements.
use Rattle.std.proofs.Common.{Bool, true, false, cond, List, [], ◌∷◌}
use Rattle.std.specs.Ordering.{is_gt}
use Rattle.std.specs.declared.cmp.Ordering.{Ordering}
use Rattle.pg_value.specs.Sorting.{put, in_order}
use Rattle.plan_laws.proofs.PermLemmas.{Perm, none, keep, turn, join}
use Rattle.plan_laws.proofs.PermLemmas.{Perm-refl}

module _ {X : Type 0} (order : X → X → Ordering) where
  Perm-put : (x : X) (ys : List X) → Perm (put order x ys) (x ∷ ys)
  Perm-put x [] = Perm-refl (x ∷ [])
  Perm-put x (y ∷ ys) = by (is_gt (order x y)) (Perm-put x ys)
    where
      by : (b : Bool) → Perm (put order x ys) (x ∷ ys) → Perm (cond b (y ∷ put order x ys) (x ∷ y ∷ ys)) (x ∷ y ∷ ys)
      by true p = join (y ∷ put order x ys) (y ∷ x ∷ ys) (x ∷ y ∷ ys) (keep y (put order x ys) (x ∷ ys) p) (turn y x ys)
      by false p = Perm-refl (x ∷ y ∷ ys)

  pub Perm-in_order : (xs : List X) → Perm (in_order order xs) xs
  Perm-in_order [] = none
  Perm-in_order (x ∷ xs) = join (put order x (in_order order xs)) (x ∷ in_order order xs) (x ∷ xs) (Perm-put x (in_order order xs)) (keep x (in_order order xs) xs (Perm-in_order xs))
