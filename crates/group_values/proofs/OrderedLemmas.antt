-- The first tuples of groups stand in the order of the tuples, and so do what is known of the groups.
use Rattle.std.proofs.Common.{◌≡◌, ℕ, zero, suc, Bool, true, false, not, cond, List, [], ◌∷◌, map, get_or, refl, sym, ap, ap₂, ◌∙◌, arith, Ordering}
use Rattle.std.specs.Prelude.{filter}
use Rattle.std.specs.List.{AllByRecursion}
use Rattle.std.specs.Ordering.{is_gt, ordering_then}
use Rattle.std.proofs.lemmas.List.Elements.{recursion_from_All}
use Rattle.std.proofs.lemmas.Simd.{map-map}
use Rattle.pg_value.specs.declared.value.Value.TheVariants.{Null}
use Rattle.pg_value.specs.Kinds.{directed_order}
use Rattle.pg_value.specs.Sorting.{IsInOrder, in_order, one_after_other, put}
use Rattle.group_values.specs.declared.shape.Call.{Call}
use Rattle.group_values.specs.declared.shape.Sorter.{Sorter}
use Rattle.group_values.specs.Groups.{Seen, alike, firsts, groups, line, lines, sorted, sorter_order, summaries, summary}
use Rattle.group_values.specs.Shapes.{GroupShape, Summary}
use Rattle.group_values.proofs.GroupLemmas.{first-keys}
use Rattle.group_values.specs.work.Grouping.{final_shape}
use Rattle.group_values.specs.work.Neighbours.{tuple_order}
use Rattle.group_values.proofs.FinalLemmas.{unsorted}
use Rattle.pg_base.proofs.ListLemmas.{all-filter}

-- no element is after a later one
abbrev IsUp : {X : Type 0} → (X → X → Ordering) → List X → Type 0
IsUp order [] = Unit {0}
IsUp order (x ∷ xs) = AllByRecursion (λ y. is_gt (order x y) ≡ false) xs × IsUp order xs

up-from : {X : Type 0} (order : X → X → Ordering) (xs : List X) → IsInOrder order xs → IsUp order xs
up-from order [] h = tt
up-from order (x ∷ xs) h = (
  recursion_from_All (λ y. is_gt (order x y) ≡ false) xs (λ k d lt. h 0 (suc k) d (omega arith) (omega arith)),
  up-from order xs (λ i j d lt within. h (suc i) (suc j) d (omega arith) (omega arith)),
)

put-front : {X : Type 0} (order : X → X → Ordering) (x : X) (ys : List X) → AllByRecursion (λ y. is_gt (order x y) ≡ false) ys → put order x ys ≡ x ∷ ys
put-front order x [] h = refl
put-front order x (y ∷ ys) h = ap (λ b. cond b (y ∷ put order x ys) (x ∷ y ∷ ys)) h.0

up-fixed : {X : Type 0} (order : X → X → Ordering) (xs : List X) → IsUp order xs → in_order order xs ≡ xs
up-fixed order [] h = refl
up-fixed order (x ∷ xs) h = ap (put order x) (up-fixed order xs h.1) ∙ put-front order x xs h.0

up-filter : {X : Type 0} (order : X → X → Ordering) (p : X → Bool) (xs : List X) → IsUp order xs → IsUp order (filter p xs)
up-filter order p [] h = tt
up-filter order p (x ∷ xs) h = by (p x) (up-filter order p xs h.1)
  where
    by : (b : Bool) → IsUp order (filter p xs) → IsUp order (cond b (x ∷ filter p xs) (filter p xs))
    by true more = (all-filter (λ y. is_gt (order x y) ≡ false) p xs h.0, more)
    by false more = more

all-firsts : (P : Seen → Type 0) (ss : List Seen) → AllByRecursion P ss → AllByRecursion P (firsts ss)
all-firsts P [] h = tt
all-firsts P (s ∷ ss) h = (h.0, all-filter P (λ t. not (alike s t)) (firsts ss) (all-firsts P ss h.1))

up-firsts : (order : Seen → Seen → Ordering) (ss : List Seen) → IsUp order ss → IsUp order (firsts ss)
up-firsts order [] h = tt
up-firsts order (s ∷ ss) h = (
  all-filter (λ t. is_gt (order s t) ≡ false) (λ t. not (alike s t)) (firsts ss) (all-firsts (λ t. is_gt (order s t) ≡ false) ss h.0),
  up-filter order (λ t. not (alike s t)) (firsts ss) (up-firsts order ss h.1),
)

-- groups stand to one another as their first tuples do
same-order : (os : List Sorter) (s t : Seen) (g h : Summary) → g.keys ≡ s.keys → h.keys ≡ t.keys → one_after_other (map sorter_order os) g h ≡ one_after_other (map tuple_order os) s t
same-order [] s t g h e f = refl
same-order (o ∷ os) s t g h e f =
    ap₂ ordering_then (ap₂ (λ k l. directed_order o.descending o.nulls_first (get_or k o.place Null) (get_or l o.place Null)) e f) (same-order os s t g h e f)

module _ (os : List Sorter) (F : Seen → Summary) where
  all-groups : (s : Seen) (fs : List Seen) → (F s).keys ≡ s.keys → AllByRecursion (λ f. (F f).keys ≡ f.keys) fs → AllByRecursion (λ t. is_gt (one_after_other (map tuple_order os) s t) ≡ false) fs
      → AllByRecursion (λ g. is_gt (one_after_other (map sorter_order os) (F s) g) ≡ false) (map F fs)
  all-groups s [] e keys h = tt
  all-groups s (f ∷ fs) e keys h = (ap is_gt (same-order os s f (F s) (F f) e keys.0) ∙ h.0, all-groups s fs e keys.1 h.1)

  up-groups : (fs : List Seen) → AllByRecursion (λ f. (F f).keys ≡ f.keys) fs → IsUp (one_after_other (map tuple_order os)) fs → IsUp (one_after_other (map sorter_order os)) (map F fs)
  up-groups [] keys h = tt
  up-groups (f ∷ fs) keys h = (all-groups f fs keys.0 keys.1 h.0, up-groups fs keys.1 h.1)

by-width : (w : ℕ) (calls : List Call) (os : List Sorter) (ss : List Seen) → IsInOrder (one_after_other (map tuple_order os)) ss → sorted os (map (summary calls) (groups w ss)) ≡ map (summary calls) (groups w ss)
by-width zero calls os ss up = refl
by-width (suc w) calls os ss up =
    let F = λ (s : Seen). summary calls (filter (alike s) ss) in
    let is = map-map (summary calls) (λ s. filter (alike s) ss) (firsts ss) in
    ap (sorted os) is
    ∙ up-fixed (one_after_other (map sorter_order os)) (map F (firsts ss)) (up-groups os F (firsts ss) (first-keys ss) (up-firsts (one_after_other (map tuple_order os)) ss (up-from (one_after_other (map tuple_order os)) ss up)))
    ∙ sym is

pub no-sort : (shape : GroupShape) (ss : List Seen) → IsInOrder (one_after_other (map tuple_order shape.order)) ss → lines (final_shape false shape) ss ≡ lines (final_shape true shape) ss
no-sort shape ss up = ap (map (line shape.items)) (unsorted (summaries shape ss) ∙ sym (by-width shape.width shape.calls shape.order ss up))
