-- What std's stable sort by a closure gives, as the list in an order.
use Rattle.std.proofs.Common.{◌≡◌, Bool, false, List, Result, Ok, Err, Ordering, Bor, is_lt}
use denote.Param.Members.{Mut}
use Rattle.std.specs.Cmp.{IsTotalOrder, IsStrictWeakOrder}
use Rattle.std.specs.Fn.{Called, ComparesAs}
use Rattle.std.specs.Result.{OnOk, is_err}
use Rattle.std.specs.List.Sorted.{IsSortedBy, IsStableBy}
use Rattle.std.proofs.lemmas.Bool.{true≢false}
use Rattle.std.proofs.lemmas.Fn.{always_returns_same}
use Rattle.pg_value.specs.Sorting.{in_order}
use Rattle.pg_value.proofs.SortingLemmas.{lesser, weak, in_order_only}

pub at_ok : {T E : Type 0} (P : Type 0) (r : Result T E) → is_err r ≡ false → OnOk r P → P
at_ok P (Ok x) e h = h
at_ok P (Err x) e h = absurd (true≢false e)

pub sorted_by_closure : {X T E : Type 0} (order : X → X → Ordering) (total : IsTotalOrder order) → {F : Type 0} {g : Mut F (Bor X × (Bor X × Unit {0})) Ordering} {f : F} (xs ys : List X) (r : Result T E)
    → is_err r ≡ false
    → OnOk r ((less : X → X → Bool) → IsStrictWeakOrder less → ComparesAs g less f → IsSortedBy less ys)
    → ((less : X → X → Bool) → IsStrictWeakOrder less → ComparesAs g less f → IsStableBy less xs ys)
    → ((a : Bor X × (Bor X × Unit {0})) (o : Ordering) (f' : F) → Called g f a o f' → (is_lt o ≡ is_lt (order a.0.now a.1.0.now)) × (f' ≡ f))
    → ys ≡ in_order order xs
sorted_by_closure {X} order total {F} {g} {f} xs ys r ok up stable h =
    let answers = always_returns_same g (λ a o. is_lt o ≡ lesser order total a.0.now a.1.0.now) f h in
    in_order_only order total xs ys
    (at_ok ((less : X → X → Bool) → IsStrictWeakOrder less → ComparesAs g less f → IsSortedBy less ys) r ok up (lesser order total) (weak order total) answers)
    (stable (lesser order total) (weak order total) answers)
