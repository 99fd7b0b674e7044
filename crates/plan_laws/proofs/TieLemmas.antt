-- Values that are equal tie in every order of their column, and members of one class order tuples alike.
use Rattle.std.proofs.Common.{◌≡◌, Ordering, Less, Equal, Greater, Bool, true, false, refl, sym, ap, ◌∙◌, ⊎_elim}
use Rattle.std.specs.Ordering.{is_eq, ordering_reverse}
use Rattle.std.proofs.lemmas.Bool.{true≢false}
use Rattle.pg_value.specs.declared.operators.Family.{Family}
use Rattle.pg_value.specs.declared.value.Value.{Value}
use Rattle.pg_value.specs.declared.value.Value.TheVariants.{Null, Int, Bool as Flag, Text as String}
use Rattle.pg_value.specs.Order.{value_order}
use Rattle.pg_value.specs.ColumnOrder.{column_order, directed, place_of_null}
use Rattle.pg_value.proofs.ColumnOrderLemmas.{column_total}
use Rattle.pg_expr.specs.declared.operand.ColRef.{ColRef}
use Rattle.eq_classes.specs.Equality.{are_equal}
use Rattle.eq_classes.specs.Classes.{Class, has_member}
use Rattle.eq_classes.specs.Clauses.{Set, has_constant}
use Rattle.eq_classes.specs.Parts.{is_all}
use Rattle.eq_classes.specs.work.Holding.{HasClass}
use Rattle.plan_laws.proofs.PartLemmas.{constant_at, tie_at}
use Rattle.sql_query.specs.Queries.{Query}
use Rattle.sql_query.specs.Tuples.{Tuple, value_at}
use Rattle.sql_query.specs.WellBound.{given_with, IsWellBound}
use Rattle.sql_query.specs.Worlds.{World, IsWorld}
use Rattle.plan_laws.specs.work.Meant.{holds_at}
use Rattle.plan_laws.proofs.ClauseLemmas.{fits, typed}

-- values that are equal tie in every direction, and values that tie in one direction tie in all
directed_tie : (d : Bool) (o : Ordering) → is_eq o ≡ true → directed d o ≡ Equal
directed_tie true Equal h = refl
directed_tie false Equal h = refl
directed_tie d Less h = absurd (true≢false (sym h))
directed_tie d Greater h = absurd (true≢false (sym h))

pub equal_ties : (f : Family) (d n : Bool) (v u : Value) → are_equal f v u ≡ true → column_order f d n v u ≡ Equal
equal_ties f d n Null u h = absurd (true≢false (sym h))
equal_ties f d n (Int a) Null h = absurd (true≢false (sym h))
equal_ties f d n (Flag a) Null h = absurd (true≢false (sym h))
equal_ties f d n (String a) Null h = absurd (true≢false (sym h))
equal_ties f d n (Int a) (Int b) h = directed_tie d (value_order f (Int a) (Int b)) h
equal_ties f d n (Int a) (Flag b) h = directed_tie d (value_order f (Int a) (Flag b)) h
equal_ties f d n (Int a) (String b) h = directed_tie d (value_order f (Int a) (String b)) h
equal_ties f d n (Flag a) (Int b) h = directed_tie d (value_order f (Flag a) (Int b)) h
equal_ties f d n (Flag a) (Flag b) h = directed_tie d (value_order f (Flag a) (Flag b)) h
equal_ties f d n (Flag a) (String b) h = directed_tie d (value_order f (Flag a) (String b)) h
equal_ties f d n (String a) (Int b) h = directed_tie d (value_order f (String a) (Int b)) h
equal_ties f d n (String a) (Flag b) h = directed_tie d (value_order f (String a) (Flag b)) h
equal_ties f d n (String a) (String b) h = directed_tie d (value_order f (String a) (String b)) h

redirected : (d e : Bool) (o : Ordering) → directed d o ≡ Equal → directed e o ≡ Equal
redirected d true Equal h = refl
redirected d false Equal h = refl
redirected true e Less h = absurd (differ h)
  where
    differ : Greater ≡ Equal → ⊥
    differ x = cc
redirected false e Less h = absurd (differ h)
  where
    differ : Less ≡ Equal → ⊥
    differ x = cc
redirected true e Greater h = absurd (differ h)
  where
    differ : Less ≡ Equal → ⊥
    differ x = cc
redirected false e Greater h = absurd (differ h)
  where
    differ : Greater ≡ Equal → ⊥
    differ x = cc

null_differs : (n : Bool) → place_of_null n ≡ Equal → ⊥
null_differs true h = cc
null_differs false h = cc

pub null_differs_back : (n : Bool) → ordering_reverse (place_of_null n) ≡ Equal → ⊥
null_differs_back true h = cc
null_differs_back false h = cc

pub tie_in_all : (f : Family) (d n e m : Bool) (v u : Value) → column_order f d n v u ≡ Equal → column_order f e m v u ≡ Equal
tie_in_all f d n e m Null Null h = refl
tie_in_all f d n e m Null (Int b) h = absurd (null_differs n h)
tie_in_all f d n e m Null (Flag b) h = absurd (null_differs n h)
tie_in_all f d n e m Null (String b) h = absurd (null_differs n h)
tie_in_all f d n e m (Int a) Null h = absurd (null_differs_back n h)
tie_in_all f d n e m (Flag a) Null h = absurd (null_differs_back n h)
tie_in_all f d n e m (String a) Null h = absurd (null_differs_back n h)
tie_in_all f d n e m (Int a) (Int b) h = redirected d e (value_order f (Int a) (Int b)) h
tie_in_all f d n e m (Int a) (Flag b) h = redirected d e (value_order f (Int a) (Flag b)) h
tie_in_all f d n e m (Int a) (String b) h = redirected d e (value_order f (Int a) (String b)) h
tie_in_all f d n e m (Flag a) (Int b) h = redirected d e (value_order f (Flag a) (Int b)) h
tie_in_all f d n e m (Flag a) (Flag b) h = redirected d e (value_order f (Flag a) (Flag b)) h
tie_in_all f d n e m (Flag a) (String b) h = redirected d e (value_order f (Flag a) (String b)) h
tie_in_all f d n e m (String a) (Int b) h = redirected d e (value_order f (String a) (Int b)) h
tie_in_all f d n e m (String a) (Flag b) h = redirected d e (value_order f (String a) (Flag b)) h
tie_in_all f d n e m (String a) (String b) h = redirected d e (value_order f (String a) (String b)) h

-- in a total order values that tie with two others order alike as these
tied_alike : (f : Family) (d n : Bool) (a b x y : Value) → column_order f d n a x ≡ Equal → column_order f d n b y ≡ Equal → column_order f d n a b ≡ column_order f d n x y
tied_alike f d n a b x y e g =
    let o = column_total f d n in
    o.congr a x b e ∙ o.antisymm x b ∙ ap ordering_reverse (o.congr b y x g) ∙ sym (o.antisymm x y)

module _ (w : World) (q : Query) (world : IsWorld w) (bound : IsWellBound w.contents q) (set : Set) (c : Class) (has : HasClass q.classes c)
    (s t : Tuple) (holds_s : holds_at w q s (is_all set) ≡ true) (holds_t : holds_at w q t (is_all set) ≡ true) where
  -- two members inside a set order tuples alike, where the clauses inside the set hold at both
  pub members_alike : (x y : ColRef) → has_member c x ≡ true → has_member c y ≡ true → set x.rel.0 ≡ true → set y.rel.0 ≡ true → (d n : Bool)
      → column_order c.family d n (value_at w q s x) (value_at w q t x) ≡ column_order c.family d n (value_at w q s y) (value_at w q t y)
  members_alike x y hx hy sx sy d n =
      let R = column_order c.family d n in
      let g = given_with w.contents q bound.items in
      ⊎_elim
      (λ (same : x ≡ y). ap (λ (z : ColRef). R (value_at w q s z) (value_at w q t z)) same)
      (λ (equal_s : are_equal c.family (value_at w q s x) (value_at w q s y) ≡ true). ⊎_elim
      (λ (same : x ≡ y). ap (λ (z : ColRef). R (value_at w q s z) (value_at w q t z)) same)
      (λ (equal_t : are_equal c.family (value_at w q t x) (value_at w q t y) ≡ true).
      tied_alike c.family d n (value_at w q s x) (value_at w q t x) (value_at w q s y) (value_at w q t y)
      (equal_ties c.family d n (value_at w q s x) (value_at w q s y) equal_s)
      (equal_ties c.family d n (value_at w q t x) (value_at w q t y) equal_t))
      (tie_at g q.classes bound.classes (value_at w q t) (typed w q world bound) (fits w q world bound t) set c x y holds_t has hx hy sx sy))
      (tie_at g q.classes bound.classes (value_at w q s) (typed w q world bound) (fits w q world bound s) set c x y holds_s has hx hy sx sy)

  -- two tuples tie on a member of a class that has a constant
  pub constants_tie : (x : ColRef) → has_constant c ≡ true → has_member c x ≡ true → set x.rel.0 ≡ true → (d n : Bool)
      → column_order c.family d n (value_at w q s x) (value_at w q t x) ≡ Equal
  constants_tie x some hx sx d n =
      equal_ties c.family d n (value_at w q s x) (value_at w q t x)
      (constant_at (given_with w.contents q bound.items) q.classes bound.classes (value_at w q s) (value_at w q t) set c x (typed w q world bound) (fits w q world bound s) (fits w q world bound t) holds_s holds_t has some hx sx)
