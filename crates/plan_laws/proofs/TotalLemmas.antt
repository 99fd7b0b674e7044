-- The order by keys is total, and lists in which no element is after a later one.
use Rattle.std.proofs.Common.{◌≡◌, zero, suc, Bool, true, false, cond, List, [], ◌∷◌, ◌++◌, flat_map, filter, refl, ap, ◌∙◌, arith, Ordering, Equal}
use Rattle.std.specs.Prelude.{Option, None, Some}
use Rattle.std.specs.Cmp.{IsTotalOrder}
use Rattle.std.specs.List.{AllByRecursion}
use Rattle.std.specs.Ordering.{is_gt}
use Rattle.std.proofs.lemmas.Cmp.{on_total, then_total, tied_itself}
use Rattle.std.proofs.lemmas.List.Elements.{All-from_recursion, recursion_from_All}
use Rattle.pg_value.specs.declared.value.Value.{Value}
use Rattle.pg_value.specs.Sorting.{IsInOrder, in_order}
use Rattle.pg_value.proofs.ColumnOrderLemmas.{column_total}
use Rattle.pg_value.proofs.SortingLemmas.{in_order_is}
use Rattle.pg_expr.specs.declared.operand.ColRef.{ColRef}
use Rattle.eq_classes.specs.Classes.{Class}
use Rattle.eq_classes.specs.Clauses.{Set, ClassTable, first_in}
use Rattle.eq_classes.specs.Listing.{class_at}
use Rattle.pathkeys.specs.Keys.{Keys}
use Rattle.pathkeys.specs.Sorted.{keys_order, order_at}
use Rattle.plan_laws.proofs.EachLemmas.{each_filter, each_joined}

all_tie : {X : Type 0} → IsTotalOrder {K = X} (λ x y. Equal)
all_tie = record { antisymm = λ x y. refl; trans = λ x y z p q. p; congr = λ x y z p. refl }

module _ {X : Type 0} (value : X → ColRef → Value) (t : ClassTable) (set : Set) where
  at_total : (c : Class) (o : Option ColRef) → IsTotalOrder (λ (a b : X). order_at c o (value a) (value b))
  at_total c None = all_tie
  at_total c (Some x) = on_total (λ (a : X). value a x) (column_total c.family c.descending c.nulls_first)

  pub keys_total : (keys : Keys) → IsTotalOrder (keys_order value t set keys)
  keys_total [] = all_tie
  keys_total (n ∷ ns) = then_total (at_total (class_at t.classes n) (first_in (class_at t.classes n) set)) (keys_total ns)

module _ {X : Type 0} (order : X → X → Ordering) where
  -- no element is after a later one
  abbrev pub IsUp : List X → Type 0
  IsUp [] = Unit {0}
  IsUp (x ∷ xs) = AllByRecursion (λ y. is_gt (order x y) ≡ false) xs × IsUp xs

  pub up_is_in_order : (xs : List X) → IsUp xs → IsInOrder order xs
  up_is_in_order [] h i j d lt low = absurd (omega arith)
  up_is_in_order (x ∷ xs) h zero zero d lt low = absurd (omega arith)
  up_is_in_order (x ∷ xs) h zero (suc j) d lt low = All-from_recursion (λ y. is_gt (order x y) ≡ false) xs h.0 j d (omega arith)
  up_is_in_order (x ∷ xs) h (suc i) zero d lt low = absurd (omega arith)
  up_is_in_order (x ∷ xs) h (suc i) (suc j) d lt low = up_is_in_order xs h.1 i j d (omega arith) (omega arith)

  in_order_is_up : (xs : List X) → IsInOrder order xs → IsUp xs
  in_order_is_up [] h = tt
  in_order_is_up (x ∷ xs) h = (
    recursion_from_All (λ y. is_gt (order x y) ≡ false) xs (λ k d lt. h 0 (suc k) d (omega arith) (omega arith)),
    in_order_is_up xs (λ i j d lt low. h (suc i) (suc j) d (omega arith) (omega arith)),
  )

  pub up_append : (xs ys : List X) → IsUp xs → IsUp ys → AllByRecursion (λ x. AllByRecursion (λ y. is_gt (order x y) ≡ false) ys) xs → IsUp (xs ++ ys)
  up_append [] ys p q h = q
  up_append (x ∷ xs) ys p q h = (each_joined (λ y. is_gt (order x y) ≡ false) xs ys p.0 h.0, up_append xs ys p.1 q h.1)

  pub up_filter : (test : X → Bool) (xs : List X) → IsUp xs → IsUp (filter test xs)
  up_filter test [] h = tt
  up_filter test (x ∷ xs) h = elim (test x) as (λ v. IsUp (cond v (x ∷ filter test xs) (filter test xs))) [ true ↦ (each_filter (λ y. is_gt (order x y) ≡ false) test xs h.0, up_filter test xs h.1) | false ↦ up_filter test xs h.1 ]

  module _ (o : IsTotalOrder order) where
    pub itself : (x : X) → is_gt (order x x) ≡ false
    itself x = ap is_gt (tied_itself o x)

    pub in_order_up : (xs : List X) → IsUp (in_order order xs)
    in_order_up xs = in_order_is_up (in_order order xs) (in_order_is order o xs)

-- blocks, each in the place of an element of a list that is up
module _ {X : Type 0} (order later : X → X → Ordering) (R : X → X → Type 0) (F : X → List X)
    (still : (s : X) → is_gt (order s s) ≡ false)
    (alike : (s t x y : X) → R s x → R t y → later x y ≡ order s t) where
  block_after : (s x : X) → R s x → (t : X) → is_gt (order s t) ≡ false → (ys : List X) → AllByRecursion (R t) ys → AllByRecursion (λ y. is_gt (later x y) ≡ false) ys
  block_after s x r t e [] h = tt
  block_after s x r t e (y ∷ ys) h = (ap is_gt (alike s t x y r h.0) ∙ e, block_after s x r t e ys h.1)

  block_up : (s : X) (xs : List X) → AllByRecursion (R s) xs → IsUp later xs
  block_up s [] h = tt
  block_up s (x ∷ xs) h = (block_after s x h.0 s (still s) xs h.1, block_up s xs h.1)

  blocks_after : (s x : X) → R s x → (ts : List X) → AllByRecursion (λ t. is_gt (order s t) ≡ false) ts → AllByRecursion (λ t. AllByRecursion (R t) (F t)) ts → AllByRecursion (λ y. is_gt (later x y) ≡ false) (flat_map F ts)
  blocks_after s x r [] e h = tt
  blocks_after s x r (t ∷ ts) e h = each_joined (λ y. is_gt (later x y) ≡ false) (F t) (flat_map F ts) (block_after s x r t e.0 (F t) h.0) (blocks_after s x r ts e.1 h.1)

  block_before : (s : X) (xs : List X) → AllByRecursion (R s) xs → (ts : List X) → AllByRecursion (λ t. is_gt (order s t) ≡ false) ts → AllByRecursion (λ t. AllByRecursion (R t) (F t)) ts → AllByRecursion (λ x. AllByRecursion (λ y. is_gt (later x y) ≡ false) (flat_map F ts)) xs
  block_before s [] r ts e h = tt
  block_before s (x ∷ xs) r ts e h = (blocks_after s x r.0 ts e h, block_before s xs r.1 ts e h)

  pub blocks_up : (ts : List X) → IsUp order ts → AllByRecursion (λ t. AllByRecursion (R t) (F t)) ts → IsUp later (flat_map F ts)
  blocks_up [] u h = tt
  blocks_up (t ∷ ts) u h = up_append later (F t) (flat_map F ts) (block_up t (F t) h.0) (blocks_up ts u.1 h.1) (block_before t (F t) h.0 ts u.0 h.1)
