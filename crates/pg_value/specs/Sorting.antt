-- Orders one after the other, lists in an order, and the stable sort by an order (PostgreSQL manual, chapter Queries, Sorting Rows).
use Rattle.std.specs.Prelude.{cond, List, [], ◌∷◌, AllPairs, IsFalse}
use Rattle.std.specs.Ordering.{is_gt, ordering_then}
use Rattle.std.specs.declared.cmp.Ordering.{Ordering}
use Rattle.std.specs.declared.cmp.Ordering.TheVariants.{Equal}

-- by the first order, where that ties by the next, and so on
abbrev pub one_after_other : {X : Type 0} → List (X → X → Ordering) → X → X → Ordering
one_after_other [] x y = Equal
one_after_other (order ∷ orders) x y = ordering_then (order x y) (one_after_other orders x y)

-- no element of the list is after a later one
abbrev pub IsInOrder : {X : Type 0} → (X → X → Ordering) → List X → Type 0
IsInOrder order = AllPairs (λ x y. IsFalse (is_gt (order x y)))

-- an element put before the first one that is not before it
abbrev pub put : {X : Type 0} → (X → X → Ordering) → X → List X → List X
put order x [] = x ∷ []
put order x (y ∷ ys) = cond (is_gt (order x y)) (y ∷ put order x ys) (x ∷ y ∷ ys)

-- the list in order, in which elements that tie keep their places: the stable sort
abbrev pub in_order : {X : Type 0} → (X → X → Ordering) → List X → List X
in_order order [] = []
in_order order (x ∷ xs) = put order x (in_order order xs)
