-- Equal values compare alike, and members of a class are equal where its clauses hold.
use Rattle.std.proofs.Common.{◌≡◌, ℕ, Bool, true, false, ◌⊎◌, inl, inr, ⊎_elim, Option, Some, refl, sym, ap, ◌∙◌, Equal}
use Rattle.std.proofs.lemmas.Bool.{cases_Bool, true≢false}
use Rattle.std.proofs.lemmas.Cmp.{alike_right}
use Rattle.std.specs.Cmp.{Equal-is}
use Rattle.pg_value.specs.declared.operators.Family.{Family}
use Rattle.pg_value.specs.declared.value.Value.{Value}
use Rattle.pg_value.specs.declared.value.Value.TheVariants.{Null, Int, Bool as Flag, Text as String}
use Rattle.pg_value.specs.Order.{value_order}
use Rattle.pg_value.specs.work.Order.{compared}
use Rattle.pg_value.proofs.OrderLaws.{value_total}
use Rattle.pg_expr.specs.declared.operand.ColRef.{ColRef}
use Rattle.eq_classes.specs.Equality.{is_column, are_equal}
use Rattle.eq_classes.specs.Classes.{Class}
use Rattle.eq_classes.specs.Clauses.{Set, first_in, has_constant}
use Rattle.eq_classes.proofs.ListLemmas.{IsIn}
use Rattle.eq_classes.proofs.EqualLemmas.{column_is, equal_sym, equal_trans}
use Rattle.eq_classes.proofs.ClasswiseLemmas.{Says}
use Rattle.eq_classes.proofs.WhereLemmas.{some_in}

module _ (f : Family) where
  order_equal : (v w : Value) → are_equal f v w ≡ true → value_order f v w ≡ Equal
  order_equal Null w e = absurd (true≢false (sym e))
  order_equal (Int a) Null e = absurd (true≢false (sym e))
  order_equal (Int a) (Int b) e = (Equal-is (value_order f (Int a) (Int b))).0 e
  order_equal (Int a) (Flag b) e = (Equal-is (value_order f (Int a) (Flag b))).0 e
  order_equal (Int a) (String b) e = (Equal-is (value_order f (Int a) (String b))).0 e
  order_equal (Flag a) Null e = absurd (true≢false (sym e))
  order_equal (Flag a) (Int b) e = (Equal-is (value_order f (Flag a) (Int b))).0 e
  order_equal (Flag a) (Flag b) e = (Equal-is (value_order f (Flag a) (Flag b))).0 e
  order_equal (Flag a) (String b) e = (Equal-is (value_order f (Flag a) (String b))).0 e
  order_equal (String a) Null e = absurd (true≢false (sym e))
  order_equal (String a) (Int b) e = (Equal-is (value_order f (String a) (Int b))).0 e
  order_equal (String a) (Flag b) e = (Equal-is (value_order f (String a) (Flag b))).0 e
  order_equal (String a) (String b) e = (Equal-is (value_order f (String a) (String b))).0 e

  plain : (v v' w w' : Value) → are_equal f v w ≡ true → are_equal f v' w' ≡ true → compared f v v' ≡ Some (value_order f v v')
  plain Null v' w w' e e' = absurd (true≢false (sym e))
  plain (Int a) Null w w' e e' = absurd (true≢false (sym e'))
  plain (Int a) (Int b) w w' e e' = refl
  plain (Int a) (Flag b) w w' e e' = refl
  plain (Int a) (String b) w w' e e' = refl
  plain (Flag a) Null w w' e e' = absurd (true≢false (sym e'))
  plain (Flag a) (Int b) w w' e e' = refl
  plain (Flag a) (Flag b) w w' e e' = refl
  plain (Flag a) (String b) w w' e e' = refl
  plain (String a) Null w w' e e' = absurd (true≢false (sym e'))
  plain (String a) (Int b) w w' e e' = refl
  plain (String a) (Flag b) w w' e e' = refl
  plain (String a) (String b) w w' e e' = refl

  same_order : (v v' w w' : Value) → are_equal f v w ≡ true → are_equal f v' w' ≡ true → value_order f v v' ≡ value_order f w w'
  same_order v v' w w' e e' = (value_total f).congr v w v' (order_equal v w e) ∙ alike_right (value_total f) v' w' w (order_equal v' w' e')

  -- equal values compare alike
  pub values_alike : (v v' w w' : Value) → are_equal f v w ≡ true → are_equal f v' w' ≡ true → compared f v v' ≡ compared f w w'
  values_alike v v' w w' e e' = plain v v' w w' e e' ∙ ap Some (same_order v v' w w' e e') ∙ sym (plain w w' v v' (equal_sym f v w e) (equal_sym f v' w' e'))

  pub compare_alike : (s t : ColRef → Value) (x y : ColRef) → (x ≡ y) ⊎ (are_equal f (s x) (s y) ≡ true) → (x ≡ y) ⊎ (are_equal f (t x) (t y) ≡ true) → compared f (s x) (t x) ≡ compared f (s y) (t y)
  compare_alike s t x y (inl e) h = ap (λ (z : ColRef). compared f (s z) (t z)) e
  compare_alike s t x y (inr h) (inl e) = ap (λ (z : ColRef). compared f (s z) (t z)) e
  compare_alike s t x y (inr h) (inr h') = values_alike (s x) (t x) (s y) (t y) h h'

module _ (c : Class) (set : Set) where
  -- two members inside a set are one, or equal where the clauses inside the set hold
  pub equal_inside : (b : ColRef → Value) → Says b c set → (x y : ColRef) → IsIn x c.members → IsIn y c.members → set x.rel.0 ≡ true → set y.rel.0 ≡ true → is_column x y ≡ false → are_equal c.family (b x) (b y) ≡ true
  equal_inside b said x y ix iy sx sy differ = ⊎_elim
      (λ (t : has_constant c ≡ true).
      let v = some_in c.constants t in
      equal_trans c.family (b x) v.0 (b y) (said.fixed t x v.0 ix v.1 sx) (equal_sym c.family (b y) v.0 (said.fixed t y v.0 iy v.1 sy)))
      (λ (t : has_constant c ≡ false). said.agree t x y ix iy sx sy differ)
      (cases_Bool (has_constant c))
