-- Groups of the same tuples in another order, and their lines.
use Rattle.std.proofs.Common.{◌≡◌, ℕ, zero, suc, Bool, true, false, cond, List, [], ◌∷◌, length, map, refl, sym, ap, ap₂, ◌∙◌, arith, Ordering}
use Rattle.std.specs.Prelude.{All, IsPermutation, filter}
use Rattle.std.specs.Ordering.{is_gt}
use Rattle.std.proofs.lemmas.List.Elements.{All-head}
use Rattle.std.proofs.lemmas.List.Sorted.{All-permutation}
use Rattle.pg_value.specs.Sorting.{IsInOrder, in_order, one_after_other, put}
use Rattle.pg_value.proofs.SortingLemmas.{in_order_is}
use Rattle.pg_value.specs.declared.value.Value.{Value}
use Rattle.plan_laws.proofs.PermLemmas.{Perm, none, keep, turn, join, Perm-filter, Perm-map, Perm-refl, Perm-same, Perm-sym, from_std, to_std}
use Rattle.group_values.specs.declared.shape.Call.{Call}
use Rattle.group_values.specs.Groups.{Seen, alike, firsts, groups, keys_of_group, line, lines, lines_of_groups, same_keys, sorted, sorter_order, summaries, summary}
use Rattle.group_values.specs.Shapes.{GroupShape, Summary}
use Rattle.group_values.proofs.OrderLemmas.{sorters_total}
use Rattle.group_runs.proofs.CallLemmas.{calls-moved}
use Rattle.group_runs.proofs.KeyLemmas.{Keys, keys-moved, keys-of-firsts, once, once-moved, with_keys}
use Rattle.group_values.proofs.SumLemmas.{no-width as no-keys}

summary-as : (calls : List Call) (ss ts : List Seen) → Perm ss ts → keys_of_group ss ≡ keys_of_group ts → summary calls ss ≡ summary calls ts
summary-as calls ss ts p e = ap₂ (λ (ks vs : List Value). let r : Summary = record { keys = ks; called = vs } in r) e (calls-moved calls 0 ss ts p)

-- what is known of the group with some keys
abbrev of_keys : List Call → List Seen → Keys → Summary
of_keys calls ss k = summary calls (with_keys k ss)

of-keys-moved : (calls : List Call) (ss ts : List Seen) → Perm ss ts → (k : Keys) → of_keys calls ss k ≡ of_keys calls ts k
of-keys-moved calls ss ts p k = summary-as calls (with_keys k ss) (with_keys k ts) (Perm-filter (λ (t : Seen). same_keys k t.keys) ss ts p) (keys-moved k ss ts p)

by-keys : (calls : List Call) (ss fs : List Seen) → map (summary calls) (map (λ s. filter (alike s) ss) fs) ≡ map (of_keys calls ss) (map (λ (s : Seen). s.keys) fs)
by-keys calls ss [] = refl
by-keys calls ss (f ∷ fs) = ap (λ l. of_keys calls ss f.keys ∷ l) (by-keys calls ss fs)

map-each : {A B : Type 0} (f g : A → B) → ((x : A) → f x ≡ g x) → (xs : List A) → map f xs ≡ map g xs
map-each f g e [] = refl
map-each f g e (x ∷ xs) = ap₂ (λ y ys. y ∷ ys) (e x) (map-each f g e xs)

abbrev all_keys : List Seen → List Keys
all_keys ss = map (λ (s : Seen). s.keys) ss

as-keys : (calls : List Call) (ss : List Seen) → map (summary calls) (map (λ s. filter (alike s) ss) (firsts ss)) ≡ map (of_keys calls ss) (once (all_keys ss))
as-keys calls ss = by-keys calls ss (firsts ss) ∙ ap (map (of_keys calls ss)) (keys-of-firsts ss)

keyed-moved : (calls : List Call) (ss ts : List Seen) → Perm ss ts → Perm (map (summary calls) (map (λ s. filter (alike s) ss) (firsts ss))) (map (summary calls) (map (λ s. filter (alike s) ts) (firsts ts)))
keyed-moved calls ss ts p =
    let a = map (summary calls) (map (λ s. filter (alike s) ss) (firsts ss)) in
    let b = map (of_keys calls ss) (once (all_keys ss)) in
    let c = map (of_keys calls ss) (once (all_keys ts)) in
    let d = map (summary calls) (map (λ s. filter (alike s) ts) (firsts ts)) in
    join a b d (Perm-same a b (as-keys calls ss))
    (join b c d (Perm-map (of_keys calls ss) (once (all_keys ss)) (once (all_keys ts)) (once-moved (all_keys ss) (all_keys ts) (Perm-map (λ (s : Seen). s.keys) ss ts p)))
    (Perm-same c d (map-each (of_keys calls ss) (of_keys calls ts) (of-keys-moved calls ss ts p) (once (all_keys ts)) ∙ sym (as-keys calls ts))))

narrow : (ks : List Value) → length ks ≡ 0 → ks ≡ []
narrow [] e = refl
narrow (k ∷ ks) e = absurd (omega (arith, e))

by-width : (w : ℕ) (calls : List Call) (ss ts : List Seen) → All (λ (s : Seen). length s.keys ≡ w) ss → IsPermutation ss ts → Perm (map (summary calls) (groups w ss)) (map (summary calls) (groups w ts))
by-width zero calls ss ts widths p =
    let same = summary-as calls ss ts (from_std ss ts p) (no-keys ss widths ∙ sym (no-keys ts (All-permutation (λ (s : Seen). length s.keys ≡ 0) ss ts p widths))) in
    Perm-same (summary calls ss ∷ []) (summary calls ts ∷ []) (ap (λ x. x ∷ []) same)
by-width (suc w) calls ss ts widths p = keyed-moved calls ss ts (from_std ss ts p)

-- a sort only moves elements
put-moves : {X : Type 0} (order : X → X → Ordering) (x : X) (ys : List X) → Perm (put order x ys) (x ∷ ys)
put-moves order x [] = Perm-refl (x ∷ [])
put-moves order x (y ∷ ys) = by (is_gt (order x y)) (put-moves order x ys)
  where
    by : (b : Bool) → Perm (put order x ys) (x ∷ ys) → Perm (cond b (y ∷ put order x ys) (x ∷ y ∷ ys)) (x ∷ y ∷ ys)
    by true more = join (y ∷ put order x ys) (y ∷ x ∷ ys) (x ∷ y ∷ ys) (keep y (put order x ys) (x ∷ ys) more) (turn y x ys)
    by false more = Perm-refl (x ∷ y ∷ ys)

sort-moves : {X : Type 0} (order : X → X → Ordering) (xs : List X) → Perm (in_order order xs) xs
sort-moves order [] = none
sort-moves order (x ∷ xs) = join (put order x (in_order order xs)) (x ∷ in_order order xs) (x ∷ xs) (put-moves order x (in_order order xs)) (keep x (in_order order xs) xs (sort-moves order xs))

lines-moved : (shape : GroupShape) (gs hs : List Summary) → Perm gs hs → Perm (lines_of_groups shape gs) (lines_of_groups shape hs)
lines-moved shape gs hs p =
    let order = one_after_other (map sorter_order shape.order) in
    Perm-map (line shape.items) (in_order order gs) (in_order order hs)
    (join (in_order order gs) gs (in_order order hs) (sort-moves order gs) (join gs hs (in_order order hs) p (Perm-sym (in_order order hs) hs (sort-moves order hs))))

pub bag-of-lines : (shape : GroupShape) (ss ts : List Seen) → All (λ (s : Seen). length s.keys ≡ shape.width) ss → IsPermutation ss ts → IsPermutation (lines shape ss) (lines shape ts)
bag-of-lines shape ss ts widths p = to_std (lines shape ss) (lines shape ts) (lines-moved shape (summaries shape ss) (summaries shape ts) (by-width shape.width shape.calls ss ts widths p))

-- the groups of tuples in another order, sorted, are as a bag the groups of the tuples
pub bag-of-groups : (shape : GroupShape) (ss ts : List Seen) → All (λ (s : Seen). length s.keys ≡ shape.width) ss → IsPermutation ss ts → IsPermutation (sorted shape.order (summaries shape ss)) (summaries shape ts)
bag-of-groups shape ss ts widths p =
    let order = one_after_other (map sorter_order shape.order) in
    let gs = summaries shape ss in
    let hs = summaries shape ts in
    to_std (in_order order gs) hs (join (in_order order gs) gs hs (sort-moves order gs) (by-width shape.width shape.calls ss ts widths p))

pub groups-in-order : (shape : GroupShape) (ss : List Seen) → IsInOrder (one_after_other (map sorter_order shape.order)) (sorted shape.order (summaries shape ss))
groups-in-order shape ss = in_order_is (one_after_other (map sorter_order shape.order)) (sorters_total shape.order) (summaries shape ss)
