-- The class by which a column orders is the one that has it in its default family.
use Rattle.std.proofs.Common.{◌≡◌, ℕ, ◌<◌, Bool, true, false, List, length, All, refl, sym, ap, ◌∙◌, subst, arith}
use Rattle.std.specs.Prelude.{Option, None, Some, find, option_map}
use Rattle.std.proofs.lemmas.Bool.{and_parts, true≢false}
use Rattle.pg_value.specs.declared.operators.Family.{Family}
use Rattle.opfamily.specs.Answers.{default_family_of, is_family}
use Rattle.pg_expr.specs.declared.operand.ColRef.{ColRef}
use Rattle.pg_expr.specs.Typed.{IsTyped}
use Rattle.eq_classes.specs.declared.order.OrderItem.{OrderItem}
use Rattle.eq_classes.specs.Classes.{Class, IsClass, Premises, direction_by, has_member, in_family, is_in, is_some_and, orders_by}
use Rattle.eq_classes.specs.Clauses.{ClassTable}
use Rattle.eq_classes.specs.Holding.{IsClassTable}
use Rattle.eq_classes.specs.Listing.{blank, class_at}
use Rattle.eq_classes.proofs.EqualLemmas.{family_is}
use Rattle.eq_classes.proofs.HoldLemmas.{in_map}
use Rattle.eq_classes.proofs.ListLemmas.{IsIn, all_at, any_from, found_in, found_passes, in_at}
use Rattle.eq_classes.proofs.PlainLemmas.{plain_class_is}
use Rattle.eq_classes.proofs.UniqueLemmas.{meeting}
use Rattle.pathkeys.specs.Keys.{class_of, order_class}
use Rattle.group_query.specs.Grouping.{directed_item, group_items}
use Rattle.pg_base.proofs.ListLemmas.{found-at as found_at}
use Rattle.pg_base.proofs.OptionLemmas.{found-none as found_none}
use Rattle.group_query.proofs.ItemLemmas.{directed-column}

-- the class of a number: it has a column in a family
record ClassOf (t : ClassTable) (x : ColRef) (f : Family) (n : ℕ) : Type 0 where
  low : n < length t.classes
  family : f ≡ (class_at t.classes n).family
  member : has_member (class_at t.classes n) x ≡ true

class_found : (t : ClassTable) (x : ColRef) (f : Family) (n : ℕ) → class_of t x f ≡ Some n → ClassOf t x f n
class_found t x f n h =
    let at = found_at (λ c. is_in c (in_family x f)) 0 t.classes blank n h in
    let same : at.0 ≡ n = omega (arith, at.1) in
    let low : n < length t.classes = omega (arith, at.1, at.2) in
    let passes : is_in (class_at t.classes n) (in_family x f) ≡ true = subst (λ (k : ℕ). is_in (class_at t.classes k) (in_family x f) ≡ true) same at.3 in
    let parts = and_parts (is_family (class_at t.classes n).family f) (has_member (class_at t.classes n) x) passes in
    record { low = low; family = sym (family_is (class_at t.classes n).family f parts.0); member = parts.1 }

module _ (g : Premises) (t : ClassTable) (is : IsClassTable g t) (typed : All (IsTyped g.type_of) g.conjuncts) where
  -- the class by which a column orders is that of its default family
  order_class_is : (x : ColRef) (f : Family) → default_family_of (g.type_of x) ≡ Some f → order_class t x ≡ class_of t x f
  order_class_is = plain_class_is g typed t.classes is.classes

  -- a class that has a column in its default family is the one by which the column orders
  pub record OrderClass (x : ColRef) (k : Class) : Type 0 where
    pub number : ℕ
    pub found : order_class t x ≡ Some number
    pub same : class_at t.classes number ≡ k

  pub order-class : (x : ColRef) (f : Family) (k : Class) → default_family_of (g.type_of x) ≡ Some f → IsIn k t.classes → is_in k (in_family x f) ≡ true → OrderClass x k
  order-class x f k at i has = by (class_of t x f) refl
    where
      by : (o : Option ℕ) → class_of t x f ≡ o → OrderClass x k
      by None e = absurd (found_none (λ c. is_in c (in_family x f)) 0 t.classes e (any_from (λ c. is_in c (in_family x f)) t.classes k i has))
      by (Some n) e =
          let of = class_found t x f n e in
          let d : Class = class_at t.classes n in
          let parts = and_parts (is_family k.family f) (has_member k x) has in
          record {
            number = n;
            found = order_class_is x f at ∙ e;
            same = meeting g d k (all_at (IsClass g) t.classes is.classes.each d (in_at t.classes n blank of.low)) (all_at (IsClass g) t.classes is.classes.each k i) (sym of.family ∙ sym (family_is k.family f parts.0)) x of.member parts.1;
          }

  directed-as : (x : ColRef) (k : Class) → OrderClass x k → ◌≡◌ {A = Bool × Bool} (direction_by (Some (directed_item t x (order_class t x)))) (k.descending, k.nulls_first)
  directed-as x k o =
      let P : Class → Bool × Bool = λ d. (d.descending, d.nulls_first) in
      ap (λ (m : Option ℕ). direction_by (Some (directed_item t x m))) o.found ∙ ap P o.same

  by-default : (x : ColRef) (k : Class) (o : Option Family) → default_family_of (g.type_of x) ≡ o → IsIn k t.classes → is_some_and (is_in k) (option_map (in_family x) o) ≡ true →
      ◌≡◌ {A = Bool × Bool} (direction_by (Some (directed_item t x (order_class t x)))) (k.descending, k.nulls_first)
  by-default x k None at i has = absurd (true≢false (sym has))
  by-default x k (Some f) at i has = directed-as x k (order-class x f k at i has)

  -- the first GROUP BY column by a class has its direction
  pub group-directed : (keys : List ColRef) (k : Class) → IsIn k t.classes → (item : OrderItem) → find (orders_by g.type_of k) (group_items t keys) ≡ Some item → ◌≡◌ {A = Bool × Bool} (direction_by (Some item)) (k.descending, k.nulls_first)
  group-directed keys k i item found =
      let (x, there, same) = in_map (λ y. directed_item t y (order_class t y)) keys item (found_in (orders_by g.type_of k) (group_items t keys) item found) in
      let passes : orders_by g.type_of k (directed_item t x (order_class t x)) ≡ true = subst (λ (j : OrderItem). orders_by g.type_of k j ≡ true) same (found_passes (orders_by g.type_of k) (group_items t keys) item found) in
      let by : is_some_and (is_in k) (option_map (in_family x) (default_family_of (g.type_of x))) ≡ true =
      subst (λ (y : ColRef). is_some_and (is_in k) (option_map (in_family y) (default_family_of (g.type_of y))) ≡ true) (directed-column t x (order_class t x)) passes in
      subst (λ (j : OrderItem). ◌≡◌ {A = Bool × Bool} (direction_by (Some j)) (k.descending, k.nulls_first)) (sym same) (by-default x k (default_family_of (g.type_of x)) refl i by)
