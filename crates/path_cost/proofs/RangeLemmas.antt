-- The bounds of a column in a list of conditions, and their shares.
use Rattle.std.proofs.Common.{◌≡◌, ◌<◌, ◌≤◌, ◌∙◌, ℕ, ◌+◌, ◌*◌, ◌&&◌, ◌||◌, min, not, nat_eq, Bool, true, false, cond, true≢false, All, List, [], ◌∷◌, Option, Some, None, refl, sym, ap, subst, arith, length, drop, take, IfSome, IsTrue, le_trans}
use Rattle.std.proofs.lemmas.Grind.{common_steps}
use Rattle.std.proofs.lemmas.Bool.{and_parts}
use Rattle.std.proofs.lemmas.List.{drop_more}
use Rattle.std.proofs.Math.ListN.{drop_of_length-le}
use Rattle.std.proofs.lemmas.List.Elements.{All-head, All-tail}
use Rattle.std.proofs.lemmas.Option.{same_Some}
use Rattle.pg_value.specs.declared.operators.Op.{Op}
use Rattle.pg_value.specs.declared.operators.Op.TheVariants.{Lt, Le, Eq, Ge, Gt, Ne, AbsLt, AbsLe, AbsEq, AbsGe, AbsGt}
use Rattle.pg_value.specs.declared.operators.Truth.TheVariants.{True}
use Rattle.pg_value.specs.declared.value.Value.{Value}
use Rattle.pg_value.specs.declared.value.Value.TheVariants.{Null, Int, Bool as Flag, Text as String}
use Rattle.pg_expr.specs.declared.operand.ColRef.{ColRef}
use Rattle.pg_expr.specs.declared.operand.Operand.TheVariants.{Col, Lit}
use Rattle.pg_expr.specs.Cond.{Cond, compare, is_null, is_not_null, bool_col, const, all_of, any_of, negation}
use Rattle.catalog.specs.Contents.{Contents, IsLawful}
use Rattle.catalog.specs.Range.{Range, type_in}
use Rattle.catalog.specs.Statistics.{Statistics}
use Rattle.eq_classes.specs.Equality.{is_column}
use Rattle.eq_classes.proofs.EqualLemmas.{column_is}
use Rattle.path_cost.specs.declared.shares.TheConstants.{ALL_ROWS, PER_SHARE}
use Rattle.path_cost.specs.Columns.{stats_of}
use Rattle.path_cost.specs.work.Columns.{AreTables, IsOver, is_column_in}
use Rattle.path_cost.specs.work.Limits.{HasColumns}
use Rattle.path_cost.specs.Ranges.{ColumnBound, both_ends, bound_of, listed_condition, has_bound, has_end, is_bound_at, is_side, bounded_side}
use Rattle.path_cost.specs.Selectivity.{bound_share, column_literal, column_range, end_weight, equal_by, inequality, is_ranged, least_bound, of_column_and, range_weight, valued}
use Rattle.path_cost.proofs.LimitLemmas.{known-lawful}
use Rattle.path_cost.proofs.ShareLemmas.{ranged-most}

-- a bound is a comparison of its column with a literal, and its share that of the inequality
pub record IsBoundOf (e : Cond) (x : ColRef) : Type 0 where
  pub op : Op
  pub value : Value
  pub form : e ≡ compare op (Col x) (Lit value)
  pub share : (c : Contents) (range : Range) → bound_share c range e ≡ inequality op (stats_of c range x) value

module _ (v : Value) (known : (c : Contents) (range : Range) (op : Op) (x : ColRef) → of_column_and c range op x v ≡ column_literal op (stats_of c range x) v) where
  bounding : (op : Op) (x y : ColRef) (b d : Bool) → ((s : Statistics) → column_literal op s v ≡ inequality op s v) → ◌≡◌ {A = Option ColumnBound} (Some (x, b)) (Some (y, d)) → IsBoundOf (compare op (Col x) (Lit v)) y
  bounding op x y b d plain e =
      let same : x ≡ y = ap (λ (p : ColumnBound). p.0) (same_Some (x, b) (y, d) e) in
      record {
        op = op;
        value = v;
        form = ap (λ z. compare op (Col z) (Lit v)) same;
        share = λ c range. known c range op x ∙ plain (stats_of c range x) ∙ ap (λ z. inequality op (stats_of c range z) v) same;
      }

  bound-side : (op : Op) (x y : ColRef) (d : Bool) → bounded_side op x ≡ Some (y, d) → IsBoundOf (compare op (Col x) (Lit v)) y
  bound-side Lt x y d e = bounding Lt x y false d (λ s. refl) e
  bound-side Le x y d e = bounding Le x y false d (λ s. refl) e
  bound-side Ge x y d e = bounding Ge x y true d (λ s. refl) e
  bound-side Gt x y d e = bounding Gt x y true d (λ s. refl) e
  bound-side Eq x y d e = cc
  bound-side Ne x y d e = cc
  bound-side AbsLt x y d e = cc
  bound-side AbsLe x y d e = cc
  bound-side AbsEq x y d e = cc
  bound-side AbsGe x y d e = cc
  bound-side AbsGt x y d e = cc

pub bound-form : (e : Cond) (x : ColRef) (below : Bool) → bound_of e ≡ Some (x, below) → IsBoundOf e x
bound-form (compare op (Col y) (Lit Null)) x below e = cc
bound-form (compare op (Col y) (Lit (Int n))) x below e = bound-side (Int n) (λ c range o z. refl) op y x below e
bound-form (compare op (Col y) (Lit (Flag b))) x below e = bound-side (Flag b) (λ c range o z. refl) op y x below e
bound-form (compare op (Col y) (Lit (String t))) x below e = bound-side (String t) (λ c range o z. refl) op y x below e
bound-form (compare op (Col y) (Col z)) x below e = cc
bound-form (compare op (Lit v) r) x below e = cc
bound-form (is_null y) x below e = cc
bound-form (is_not_null y) x below e = cc
bound-form (bool_col y) x below e = cc
bound-form (const t) x below e = cc
bound-form (all_of es) x below e = cc
bound-form (any_of es) x below e = cc
bound-form (negation y) x below e = cc

bound-at : (e : Cond) (x : ColRef) (below : Bool) (o : Option ColumnBound) → bound_of e ≡ o → is_bound_at x below o ≡ true → IsBoundOf e x
bound-at e x below None f h = absurd (true≢false (sym h))
bound-at e x below (Some (y, b)) f h =
    let same : x ≡ y = column_is x y (and_parts (is_column x y) (is_side below b) h).0 in
    subst (IsBoundOf e) (sym same) (bound-form e y b f)

module _ (c : Contents) (range : Range) where
  column-in : (e : Cond) (x : ColRef) → IsBoundOf e x → HasColumns c range e → IsTrue (is_column_in c range x)
  column-in e x bound h = (and_parts (is_column_in c range x) true (subst (HasColumns c range) bound.form h)).0

  -- the column of a bound is one of its columns
  pub bound_in : (e : Cond) (x : ColRef) (below : Bool) → bound_of e ≡ Some (x, below) → HasColumns c range e → IsTrue (is_column_in c range x)
  bound_in e x below f h = column-in e x (bound-form e x below f) h

  -- the least share of the bounds of a column, one condition after the other

  pub least-most : (x : ColRef) (below : Bool) (es : List Cond) → least_bound c range x below es ≤ ALL_ROWS
  least-most x below [] = omega arith
  least-most x below (e ∷ es) = by (is_bound_at x below (bound_of e)) (least-most x below es)
    where
      by : (b : Bool) → least_bound c range x below es ≤ ALL_ROWS → cond b (min (bound_share c range e) (least_bound c range x below es)) (least_bound c range x below es) ≤ ALL_ROWS
      by true h = omega (arith, h)
      by false h = h

  least-at : (x : ColRef) (below : Bool) (es : List Cond) (n : ℕ) (e : Cond) (b : Bool) → n < length es → e ≡ listed_condition es n → is_bound_at x below (bound_of e) ≡ b →
      least_bound c range x below (drop n es) ≡ cond b (min (bound_share c range e) (least_bound c range x below (drop (n + 1) es))) (least_bound c range x below (drop (n + 1) es))
  least-at x below es n e b lt same test =
      let rest = least_bound c range x below (drop (n + 1) es) in
      ap (least_bound c range x below) (drop_more es n (const True) lt)
      ∙ ap (λ (y : Cond). cond (is_bound_at x below (bound_of y)) (min (bound_share c range y) rest) rest) (sym same)
      ∙ ap (λ (t : Bool). cond t (min (bound_share c range e) rest) rest) test

  pub least_yes : (x : ColRef) (below : Bool) (es : List Cond) (n least share next whole : ℕ) (e : Cond) → n < length es → e ≡ listed_condition es n → is_bound_at x below (bound_of e) ≡ true → share ≡ bound_share c range e → next ≡ min least share →
      min least (least_bound c range x below (drop n es)) ≡ whole → min next (least_bound c range x below (drop (n + 1) es)) ≡ whole
  least_yes x below es n least share next whole e lt same test is step all =
      by (least_bound c range x below (drop n es)) (bound_share c range e) (least_bound c range x below (drop (n + 1) es)) (least-at x below es n e true lt same test) is all
    where
      by : (a b r : ℕ) → a ≡ min b r → share ≡ b → min least a ≡ whole → min next r ≡ whole
      by a b r f g h = omega (arith, f, g, h, step)

  pub least_no : (x : ColRef) (below : Bool) (es : List Cond) (n least whole : ℕ) (e : Cond) → n < length es → e ≡ listed_condition es n → is_bound_at x below (bound_of e) ≡ false →
      min least (least_bound c range x below (drop n es)) ≡ whole → min least (least_bound c range x below (drop (n + 1) es)) ≡ whole
  least_no x below es n least whole e lt same test all = subst (λ a. min least a ≡ whole) (least-at x below es n e false lt same test) all

  pub least_start : (x : ColRef) (below : Bool) (es : List Cond) → min ALL_ROWS (least_bound c range x below es) ≡ least_bound c range x below es
  least_start x below es = omega (arith, least-most x below es)

  pub least_done : (x : ColRef) (below : Bool) (es : List Cond) (n least whole : ℕ) → length es ≤ n → least ≤ ALL_ROWS → min least (least_bound c range x below (drop n es)) ≡ whole → least ≡ whole
  least_done x below es n least whole past most all = by (drop n es) (drop_of_length-le es past) all
    where
      by : (xs : List Cond) → xs ≡ [] → min least (least_bound c range x below xs) ≡ whole → least ≡ whole
      by xs e h =
          let none : min least ALL_ROWS ≡ whole = subst (λ (ys : List Cond). min least (least_bound c range x below ys) ≡ whole) e h in
          omega (arith, none, most)

-- over lawful contents the bounds of a column that has a histogram leave no more rows than are without NULL
module _ (c : Contents) (range : Range) (lawful : IsLawful c) (tables : AreTables c range) where
  bound-most : (e : Cond) (x : ColRef) → IsBoundOf e x → IsTrue (is_column_in c range x) → nat_eq (length (stats_of c range x).histogram) 0 ≡ false → bound_share c range e ≤ PER_SHARE * valued (stats_of c range x)
  bound-most e x bound there some =
      subst (λ n. n ≤ PER_SHARE * valued (stats_of c range x)) (sym (bound.share c range)) (ranged-most (type_in c range x) (stats_of c range x) (known-lawful c range lawful tables x there) bound.op bound.value some)

  side-most : (x : ColRef) (below : Bool) (es : List Cond) → All (HasColumns c range) es → has_bound x below es ≡ true → nat_eq (length (stats_of c range x).histogram) 0 ≡ false →
      IsTrue (is_column_in c range x) × (least_bound c range x below es ≤ PER_SHARE * valued (stats_of c range x))
  side-most x below [] h there some = absurd (true≢false (sym there))
  side-most x below (e ∷ es) h there some =
      by (is_bound_at x below (bound_of e)) refl there (λ k. side-most x below es (All-tail (HasColumns c range) e es h) k some)
    where
      all : ℕ
      all = PER_SHARE * valued (stats_of c range x)

      rest : ℕ
      rest = least_bound c range x below es

      first : IsBoundOf e x → IsTrue (is_column_in c range x) × (min (bound_share c range e) rest ≤ all)
      first bound =
          let inside = column-in c range e x bound (All-head (HasColumns c range) e es h) in
          (inside, omega (arith, bound-most e x bound inside some))

      by : (b : Bool) → is_bound_at x below (bound_of e) ≡ b → (b || has_bound x below es) ≡ true → (has_bound x below es ≡ true → IsTrue (is_column_in c range x) × (rest ≤ all)) →
          IsTrue (is_column_in c range x) × (cond b (min (bound_share c range e) rest) rest ≤ all)
      by true f k later = first (bound-at e x below (bound_of e) refl f)
      by false f k later = later k

  -- both ends of a range together leave no more than each of them
  pub range-in-ends : (x : ColRef) (es : List Cond) → All (HasColumns c range) es → is_ranged (stats_of c range x) x es ≡ true →
      (column_range c range x es ≤ least_bound c range x true es) × (column_range c range x es ≤ least_bound c range x false es)
  range-in-ends x es h ranged =
      let s = stats_of c range x in
      let parts = and_parts (not (nat_eq (length s.histogram) 0)) (has_bound x true es && has_bound x false es) ranged in
      let ends = and_parts (has_bound x true es) (has_bound x false es) parts.1 in
      let some : nat_eq (length s.histogram) 0 ≡ false = grind (arith, common_steps, parts.0) in
      in-ends (PER_SHARE * valued s) (equal_by s None) (least_bound c range x true es) (least_bound c range x false es) (side-most x true es h ends.0 some).1 (side-most x false es h ends.1 some).1
    where
      in-ends : (all one a b : ℕ) → a ≤ all → b ≤ all → (both_ends all one a b ≤ a) × (both_ends all one a b ≤ b)
      in-ends all one a b f g = (omega (arith, f, g), omega (arith, f, g))

  end-most : (x : ColRef) (below : Bool) (es before : List Cond) (w : ℕ) → All (HasColumns c range) es → end_weight c range es before (Some (x, below)) ≡ Some w → w ≤ ALL_ROWS
  end-most x below es before w h e = by (is_ranged (stats_of c range x) x es) refl e
    where
      kept : (b : Bool) → is_ranged (stats_of c range x) x es ≡ true → cond b ALL_ROWS (column_range c range x es) ≤ ALL_ROWS
      kept true f = omega arith
      kept false f = le_trans (range-in-ends x es h f).0 (least-most c range x true es)

      by : (b : Bool) → is_ranged (stats_of c range x) x es ≡ b → cond b (Some (cond (has_end x before) ALL_ROWS (column_range c range x es))) None ≡ Some w → w ≤ ALL_ROWS
      by true f g = subst (λ n. n ≤ ALL_ROWS) (same_Some _ w g) (kept (has_end x before) f)
      by false f g = cc

  -- what a condition multiplies with as one end of a range is at most all rows
  pub range_weight_most : (es : List Cond) (n w : ℕ) → All (HasColumns c range) es → range_weight c range es n ≡ Some w → w ≤ ALL_ROWS
  range_weight_most es n w h e = by (bound_of (listed_condition es n)) e
    where
      by : (o : Option ColumnBound) → end_weight c range es (take n es) o ≡ Some w → w ≤ ALL_ROWS
      by None f = cc
      by (Some (x, below)) f = end-most x below es (take n es) w h f

  if-some : (o : Option ℕ) → ((w : ℕ) → o ≡ Some w → w ≤ ALL_ROWS) → IfSome o (λ w. w ≤ 1000000000)
  if-some None h = tt
  if-some (Some w) h = h w refl

  pub range_weight_if : (es : List Cond) (n : ℕ) (o : Option ℕ) → All (IsOver c range) es → o ≡ range_weight c range es n → IfSome o (λ w. w ≤ 1000000000)
  range_weight_if es n o over e = if-some o (λ w f. range_weight_most es n w (λ i x lt. (over i x lt).columns) (sym e ∙ f))
