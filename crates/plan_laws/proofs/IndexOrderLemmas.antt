-- The order of an index's entries, either way round, and the class of a key column.
use Rattle.std.proofs.Common.{◌≡◌, Ordering, Less, Equal, Greater, ℕ, suc, ◌+◌, ◌<◌, Bool, true, false, not, cond, List, [], ◌∷◌, map, reverse, length, refl, sym, ap, ◌∙◌, subst, arith}
use Rattle.std.specs.Prelude.{None, Some, nat_eq, slice_index_or}
use Rattle.std.specs.List.{AllByRecursion, position_from}
use Rattle.std.specs.Cmp.{IsTotalOrder}
use Rattle.std.specs.Ordering.{is_gt, ordering_reverse, ordering_then}
use Rattle.std.proofs.lemmas.Bool.{and_parts, true≢false, eq-eqb, eqb-true}
use Rattle.std.proofs.lemmas.List.{reverse-append}
use Rattle.pg_value.specs.declared.operators.Family.{Family}
use Rattle.pg_value.specs.declared.value.Value.{Value}
use Rattle.pg_value.specs.declared.value.Value.TheVariants.{Null, Int, Bool as Flag, Text as String}
use Rattle.pg_value.specs.Order.{value_order}
use Rattle.pg_value.specs.ColumnOrder.{column_order, directed, place_of_null}
use Rattle.pg_value.specs.Sorting.{one_after_other}
use Rattle.pg_value.proofs.ColumnOrderLemmas.{column_total}
use Rattle.opfamily.specs.KeyOrder.{key_family, key_order, key_values_order}
use Rattle.opfamily.specs.declared.classes.IndexKey.{IndexKey}
use Rattle.pg_expr.specs.declared.operand.ColRef.{ColRef}
use Rattle.heap.specs.Stored.{Values}
use Rattle.eq_classes.specs.Equality.{is_column}
use Rattle.opfamily.specs.Answers.{is_family}
use Rattle.eq_classes.specs.Classes.{is_in, in_family, has_member}
use Rattle.eq_classes.specs.Clauses.{one, ClassTable, first_in}
use Rattle.eq_classes.specs.work.Holding.{HasClass}
use Rattle.eq_classes.specs.Listing.{blank, class_at}
use Rattle.eq_classes.proofs.EqualLemmas.{family_is}
use Rattle.eq_classes.proofs.ListLemmas.{contains_from_in, in_at}
use Rattle.pathkeys.specs.Keys.{class_of, key_column, turned, is_same_direction}
use Rattle.plan_tree.specs.Entries.{cell}
use Rattle.plan_laws.proofs.EachLemmas.{each_snoc, each_weaker}
use Rattle.plan_laws.proofs.TotalLemmas.{IsUp, up_append}
use Rattle.plan_laws.proofs.KeyLemmas.{find_more}
use Rattle.pg_base.proofs.ListLemmas.{found-at as found_at}

-- both ways round
abbrev pub way : {X : Type 0} → Bool → (X → X → Ordering) → X → X → Ordering
way backward R x y = cond backward (R y x) (R x y)

reverse_directed : (d : Bool) (o : Ordering) → ordering_reverse (directed d o) ≡ directed (not d) o
reverse_directed true Less = refl
reverse_directed true Equal = refl
reverse_directed true Greater = refl
reverse_directed false o = refl

turned_place : (n : Bool) → ordering_reverse (place_of_null n) ≡ place_of_null (not n)
turned_place true = refl
turned_place false = refl

turned_back : (n : Bool) → ordering_reverse (ordering_reverse (place_of_null n)) ≡ ordering_reverse (place_of_null (not n))
turned_back true = refl
turned_back false = refl

-- a column's order turned round is that of the turned direction
reversed_column : (f : Family) (d n : Bool) (v u : Value) → ordering_reverse (column_order f d n v u) ≡ column_order f (not d) (not n) v u
reversed_column f d n Null Null = refl
reversed_column f d n Null (Int b) = turned_place n
reversed_column f d n Null (Flag b) = turned_place n
reversed_column f d n Null (String b) = turned_place n
reversed_column f d n (Int a) Null = turned_back n
reversed_column f d n (Flag a) Null = turned_back n
reversed_column f d n (String a) Null = turned_back n
reversed_column f d n (Int a) (Int b) = reverse_directed d (value_order f (Int a) (Int b))
reversed_column f d n (Int a) (Flag b) = reverse_directed d (value_order f (Int a) (Flag b))
reversed_column f d n (Int a) (String b) = reverse_directed d (value_order f (Int a) (String b))
reversed_column f d n (Flag a) (Int b) = reverse_directed d (value_order f (Flag a) (Int b))
reversed_column f d n (Flag a) (Flag b) = reverse_directed d (value_order f (Flag a) (Flag b))
reversed_column f d n (Flag a) (String b) = reverse_directed d (value_order f (Flag a) (String b))
reversed_column f d n (String a) (Int b) = reverse_directed d (value_order f (String a) (Int b))
reversed_column f d n (String a) (Flag b) = reverse_directed d (value_order f (String a) (Flag b))
reversed_column f d n (String a) (String b) = reverse_directed d (value_order f (String a) (String b))

pub column_way : (f : Family) (backward d n : Bool) (v u : Value) → way backward (column_order f d n) v u ≡ column_order f (turned backward d) (turned backward n) v u
column_way f false d n v u = refl
column_way f true d n v u = (column_total f d n).antisymm u v ∙ reversed_column f d n v u

pub way_ties : {X : Type 0} (R : X → X → Ordering) → IsTotalOrder R → (backward : Bool) (x y : X) → R x y ≡ Equal → way backward R x y ≡ Equal
way_ties R o false x y h = h
way_ties R o true x y h = o.antisymm y x ∙ ap ordering_reverse h

pub way_then : {X : Type 0} (R : X → X → Ordering) (Rs : List (X → X → Ordering)) (backward : Bool) (x y : X) → way backward (one_after_other (R ∷ Rs)) x y ≡ ordering_then (way backward R x y) (way backward (one_after_other Rs) x y)
way_then R Rs false x y = refl
way_then R Rs true x y = refl

-- a list turned round is up the other way
each_reverse : {X : Type 0} (P : X → Type 0) (xs : List X) → AllByRecursion P xs → AllByRecursion P (reverse xs)
each_reverse P [] h = tt
each_reverse P (x ∷ xs) h = subst (λ l. AllByRecursion P l) (sym (reverse-append (x ∷ []) xs)) (each_snoc P (reverse xs) x (each_reverse P xs h.1) h.0)

pub up_reverse : {X : Type 0} (R : X → X → Ordering) (xs : List X) → IsUp R xs → IsUp (λ x y. R y x) (reverse xs)
up_reverse R [] h = tt
up_reverse {X} R (x ∷ xs) h =
    subst (λ (l : List X). IsUp (λ a b. R b a) l) (sym (reverse-append (x ∷ []) xs))
    (up_append (λ a b. R b a) (reverse xs) (x ∷ []) (up_reverse R xs h.1) (tt, tt)
    (each_weaker (λ y. is_gt (R x y) ≡ false) (λ y. AllByRecursion (λ z. is_gt (R z y) ≡ false) (x ∷ [])) (λ y e. (e, tt)) (reverse xs) (each_reverse (λ y. is_gt (R x y) ≡ false) xs h.0)))

-- from one order to another over elements that have a property, and over what is made of them
pub up_mapped : {X Y : Type 0} (R : X → X → Ordering) (S : Y → Y → Ordering) (P : X → Type 0) (f : X → Y) → ((x y : X) → P x → P y → is_gt (R x y) ≡ false → is_gt (S (f x) (f y)) ≡ false) → (xs : List X) → AllByRecursion P xs → IsUp R xs → IsUp S (map f xs)
up_mapped R S P f g [] h u = tt
up_mapped {X} {Y} R S P f g (x ∷ xs) h u = (each xs h.1 u.0, up_mapped R S P f g xs h.1 u.1)
  where
    each : (ys : List X) → AllByRecursion P ys → AllByRecursion (λ y. is_gt (R x y) ≡ false) ys → AllByRecursion (λ z. is_gt (S (f x) z) ≡ false) (map f ys)
    each [] p e = tt
    each (y ∷ ys) p e = (g x y h.0 p.0 e.0, each ys p.1 e.1)

-- two rows by a key's column
abbrev pub row_order : List Values → IndexKey → ℕ → ℕ → Ordering
row_order rows k n m = key_order k (cell (slice_index_or rows n []) k.col) (cell (slice_index_or rows m []) k.col)

-- by the keys' columns in turn, as the entries of the rows are
abbrev pub rows_order : List Values → List IndexKey → ℕ → ℕ → Ordering
rows_order rows ks = one_after_other (map (row_order rows) ks)

abbrev pub key_values : List Values → List IndexKey → ℕ → List Value
key_values rows ks n = map (λ (k : IndexKey). cell (slice_index_or rows n []) k.col) ks

pub by_key_values : (rows : List Values) (ks : List IndexKey) (n m : ℕ) → key_values_order ks (key_values rows ks n) (key_values rows ks m) ≡ rows_order rows ks n m
by_key_values rows [] n m = refl
by_key_values rows (k ∷ ks) n m = ap (ordering_then (row_order rows k n m)) (by_key_values rows ks n m)

-- what a number found among classes is
pub record ClassOf (t : ClassTable) (x : ColRef) (f : Family) (n : ℕ) : Type 0 where
  pub low : n < length t.classes
  pub family : f ≡ (class_at t.classes n).family
  pub class : HasClass t (class_at t.classes n)
  pub member : has_member (class_at t.classes n) x ≡ true

pub class_found : (t : ClassTable) (x : ColRef) (f : Family) (n : ℕ) → class_of t x f ≡ Some n → ClassOf t x f n
class_found t x f n h =
    let at = found_at (λ c. is_in c (in_family x f)) 0 t.classes blank n h in
    let same : at.0 ≡ n = omega (arith, at.1) in
    let low : n < length t.classes = omega (arith, at.1, at.2) in
    let passes : is_in (class_at t.classes n) (in_family x f) ≡ true = subst (λ (k : ℕ). is_in (class_at t.classes k) (in_family x f) ≡ true) same at.3 in
    let parts = and_parts (is_family (class_at t.classes n).family f) (has_member (class_at t.classes n) x) passes in
    record {
      low = low;
      family = sym (family_is (class_at t.classes n).family f parts.0);
      class = contains_from_in t.classes (class_at t.classes n) (in_at t.classes n blank low);
      member = parts.1;
    }

-- what a key column's class is
abbrev pub KeyClass : ClassTable → ℕ → IndexKey → ℕ → Type 0
KeyClass t r k n = ClassOf t (key_column r k) (key_family k) n

-- its first member in the relation
pub first_of : (t : ClassTable) (r : ℕ) (k : IndexKey) (n : ℕ) → KeyClass t r k n → (y : ColRef) × (first_in (class_at t.classes n) (one r) ≡ Some y)
first_of t r k n key = find_more (is_column (key_column r k)) (λ y. one r y.rel.0)
    (λ y is. let e : r ≡ y.rel.0 = eqb-true r y.rel.0 (and_parts (nat_eq r y.rel.0) (nat_eq k.col.0 y.col.0) is).0 in eq-eqb y.rel.0 r (sym e))
    (class_at t.classes n).members key.member

pub equal_bools : (a b : Bool) → is_same_direction a b ≡ true → a ≡ b
equal_bools true true h = refl
equal_bools true false h = absurd (true≢false (sym h))
equal_bools false true h = absurd (true≢false (sym h))
equal_bools false false h = refl
