-- The order of printing is total, and a comparison place by place gives it.
use Prim.Native.Nat.{suc}
use Rattle.std.proofs.Common.{◌≡◌, ◌<◌, ◌≤◌, ℕ, ◌+◌, false, List, [], ◌∷◌, drop, get_or, length, map, refl, sym, ◌∙◌, ap, ap₂, arith, drop-cons, drop_of_length-le, Ordering, Less, Equal, Greater}
use Rattle.std.specs.Cmp.{IsTotalOrder}
use Rattle.std.specs.Cmp.Lexicographic.{slice_cmp}
use Rattle.std.specs.Ordering.{is_gt, nat_cmp, ordering_then}
use Rattle.std.proofs.lemmas.Cmp.{lists_total, nat_cmp_total, on_total, then_total}
use Rattle.std.proofs.lemmas.List.{get_or-map, get_or_default, length-map}
use Rattle.opfamily.proofs.KeyOrderLemmas.{then_other}
use Rattle.eq_classes.specs.declared.classes.ClassNo.{ClassNo}
use Rattle.heap.specs.Tuples.{relation_count}
use Rattle.pathkeys.specs.work.Finding.{class_numbers}
use Rattle.pg_value.specs.Sorting.{IsInOrder}
use Rattle.plan_tree.specs.work.Paths.{Path}
use Rattle.plan_check.specs.Certificates.{Entry}
use Rattle.certificate_laws.specs.Printing.{printing_order}
use Rattle.certificate_laws.specs.work.Printing.{path_order, said}

all-tie : IsTotalOrder {K = Entry} (λ x y. Equal)
all-tie = record { antisymm = λ x y. refl; trans = λ x y z p q. p; congr = λ x y z p. refl }

pub printing-total : IsTotalOrder printing_order
printing-total =
    then_total (on_total (λ (e : Entry). relation_count e.set) nat_cmp_total)
    (then_total (on_total (λ (e : Entry). e.set.0) nat_cmp_total)
    (then_total (on_total (λ (e : Entry). e.param.0) nat_cmp_total)
    (then_total (on_total (λ (e : Entry). e.cost) nat_cmp_total)
    (then_total (on_total (λ (e : Entry). e.startup) nat_cmp_total)
    (then_total (on_total (λ (e : Entry). e.keys) (lists_total nat_cmp_total)) all-tie)))))

pub path-total : IsTotalOrder path_order
path-total = on_total said printing-total

-- a last order after which nothing comes
pub then-equal : (o : Ordering) → ordering_then o Equal ≡ o
then-equal Less = refl
then-equal Equal = refl
then-equal Greater = refl

pub order-is : (x y : Path) (a b c d e f : Ordering) → a ≡ nat_cmp (relation_count x.set) (relation_count y.set) → b ≡ nat_cmp x.set.0 y.set.0 → c ≡ nat_cmp x.param.0 y.param.0 → d ≡ nat_cmp x.cost y.cost →
    e ≡ nat_cmp x.startup y.startup → f ≡ slice_cmp nat_cmp x.keys y.keys → ordering_then a (ordering_then b (ordering_then c (ordering_then d (ordering_then e f)))) ≡ path_order x y
order-is x y a b c d e f ha hb hc hd he hf =
    ap₂ ordering_then ha (ap₂ ordering_then hb (ap₂ ordering_then hc (ap₂ ordering_then hd (ap₂ ordering_then he (hf ∙ sym (then-equal (slice_cmp nat_cmp x.keys y.keys)))))))

-- a list of what items stand for is in an order as the items are
pub order-mapped : {X Y : Type 0} (f : X → Y) (order : Y → Y → Ordering) (xs : List X) → IsInOrder (λ a b. order (f a) (f b)) xs → IsInOrder order (map f xs)
order-mapped {X} {Y} f order [] h = λ i j d lt within. absurd (omega (arith, within))
order-mapped {X} {Y} f order (x ∷ xs) h = λ i j d lt within. at i j d lt within
  where
    at : (i j : ℕ) (d : Y) → i < j → j < length (map f (x ∷ xs)) → is_gt (order (get_or (map f (x ∷ xs)) i d) (get_or (map f (x ∷ xs)) j d)) ≡ false
    at i j d lt within =
        let long = length-map (x ∷ xs) f in
        let low : j < length (x ∷ xs) = omega (arith, long, within) in
        let less : i < length (x ∷ xs) = omega (arith, lt, low) in
        let here : is_gt (order (f (get_or (x ∷ xs) i x)) (f (get_or (x ∷ xs) j x))) ≡ false = h i j x lt low in
        ap₂ (λ (a b : Y). is_gt (order a b)) (get_or-map f (x ∷ xs) i x d less) (get_or-map f (x ∷ xs) j x d low) ∙ here

-- what is left of a list of classes from a place on
abbrev pub rest : ℕ → List ClassNo → List ℕ
rest m cs = class_numbers (drop m cs)

next-is : (cs : List ClassNo) (n : ℕ) (x : ClassNo) → n < length cs → x ≡ get_or cs n x → rest n cs ≡ x.0 ∷ rest (n + 1) cs
next-is cs n x lt e =
    ap class_numbers (drop-cons cs n x lt)
    ∙ ap₂ (λ (y : ClassNo) (m : ℕ). y.0 ∷ rest m cs) (sym e) (let next : suc n ≡ n + 1 = omega arith in next)

none-left : (cs : List ClassNo) (n : ℕ) → length cs ≤ n → rest n cs ≡ []
none-left cs n le = ap class_numbers (drop_of_length-le cs le)

some-class : (cs : List ClassNo) (n : ℕ) → n < length cs → ClassNo
some-class [] n lt = absurd (omega (arith, lt))
some-class (x ∷ xs) n lt = x

some-left : (cs : List ClassNo) (n : ℕ) → n < length cs → (x : ℕ) × (xs : List ℕ) × (rest n cs ≡ x ∷ xs)
some-left cs n lt =
    let d = some-class cs n lt in
    let x = get_or cs n d in
    (x.0, rest (n + 1) cs, next-is cs n x lt (get_or_default cs n d x lt))

module _ (a b : List ClassNo) (n : ℕ) where
  abbrev here : Ordering
  here = slice_cmp nat_cmp (rest n a) (rest n b)

  pub first-longer : n < length a → length b ≤ n → here ≡ Greater
  first-longer lt le = let f = some-left a n lt in ap₂ (slice_cmp nat_cmp) f.2 (none-left b n le)

  pub first-shorter : length a ≤ n → n < length b → here ≡ Less
  first-shorter le lt = let f = some-left b n lt in ap₂ (slice_cmp nat_cmp) (none-left a n le) f.2

  pub both-ended : length a ≤ n → length b ≤ n → here ≡ Equal
  both-ended le less = ap₂ (slice_cmp nat_cmp) (none-left a n le) (none-left b n less)

  module _ (x y : ClassNo) (lt : n < length a) (less : n < length b) (is-x : x ≡ get_or a n x) (is-y : y ≡ get_or b n y) where
    both-next : here ≡ ordering_then (nat_cmp x.0 y.0) (slice_cmp nat_cmp (rest (n + 1) a) (rest (n + 1) b))
    both-next = ap₂ (slice_cmp nat_cmp) (next-is a n x lt is-x) (next-is b n y less is-y)

    pub decided : (o : Ordering) → o ≡ nat_cmp x.0 y.0 → (o ≡ Equal → ⊥) → here ≡ o
    decided o e other =
        both-next ∙ ap (λ (r : Ordering). ordering_then r (slice_cmp nat_cmp (rest (n + 1) a) (rest (n + 1) b))) (sym e) ∙ then_other o (slice_cmp nat_cmp (rest (n + 1) a) (rest (n + 1) b)) other

    pub goes-on : (o : Ordering) → o ≡ nat_cmp x.0 y.0 → o ≡ Equal → slice_cmp nat_cmp (rest (n + 1) a) (rest (n + 1) b) ≡ here
    goes-on o e equal =
        sym (both-next ∙ ap (λ (r : Ordering). ordering_then r (slice_cmp nat_cmp (rest (n + 1) a) (rest (n + 1) b))) (sym e ∙ equal))
