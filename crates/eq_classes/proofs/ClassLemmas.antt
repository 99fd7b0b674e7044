-- The clauses of one class hold inside a set exactly where any two of its members there are equal, or, where it has
-- constants, each of its members there equals each constant; and how that splits over two sets.
use Rattle.std.proofs.Common.{◌≡◌, ℕ, Bool, true, false, ◌&&◌, ◌⊎◌, ⊎_elim, Option, Some, None, refl, sym, ap, ◌∙◌, subst}
use Rattle.std.proofs.lemmas.Bool.{cases_Bool, and_parts, and_from, or_cases, or_left, or_right, true≢false, eq-eqb, eqb-true}
use Rattle.opfamily.specs.pg_value_value_Value.{Value}
use Rattle.pg_expr.specs.declared.operand.ColRef.{ColRef}
use Rattle.eq_classes.specs.Equality.{are_equal, is_column}
use Rattle.eq_classes.specs.Classes.{Class}
use Rattle.eq_classes.specs.Clauses.{Set, Clause, first_in, one, inner_clauses, pair_clause, pair_clauses}
use Rattle.eq_classes.specs.Parts.{union, has_in, is_relation_of, is_lowest, are_lowest, is_all}
use Rattle.eq_classes.specs.work.Holding.{hold}
use Rattle.eq_classes.proofs.ListLemmas.{IsIn, Before, earlier_in, later_in, either_before, some_same, found_in, found_passes, found_first, found_before, found_narrower, any_from, any_at}
use Rattle.eq_classes.proofs.EqualLemmas.{column_is, equal_sym, equal_trans}
use Rattle.eq_classes.proofs.ClassHoldLemmas.{IsSound, column_self, pairs_hold, pairs_from, inner_hold, inner_from}

abbrev pub are_equal_at : (ColRef → Value) → Class → ColRef → ColRef → Bool
are_equal_at b c x y = are_equal c.family (b x) (b y)

-- any two members inside the set are equal
abbrev pub Agree : (ColRef → Value) → Class → Set → Type 0
Agree b c set = (x y : ColRef) → IsIn x c.members → IsIn y c.members → set x.rel.0 ≡ true → set y.rel.0 ≡ true → is_column x y ≡ false → are_equal_at b c x y ≡ true

-- each member inside the set equals each constant
abbrev pub Fixed : (ColRef → Value) → Class → Set → Type 0
Fixed b c set = (x : ColRef) (v : Value) → IsIn x c.members → IsIn v c.constants → set x.rel.0 ≡ true → are_equal c.family (b x) v ≡ true

-- the first members inside the two sets are equal
abbrev pub Link : (ColRef → Value) → Class → Set → Set → Type 0
Link b c s t = (x y : ColRef) → first_in c s ≡ Some x → first_in c t ≡ Some y → are_equal_at b c x y ≡ true

abbrev pub AreApart : Set → Set → Type 0
AreApart s t = (k : ℕ) → s k ≡ true → t k ≡ false

column_sym : (x y : ColRef) → is_column x y ≡ false → is_column y x ≡ false
column_sym x y e = ⊎_elim
    (λ (t : is_column y x ≡ true). absurd (true≢false (sym (column_self x) ∙ ap (is_column x) (sym (column_is y x t)) ∙ e)))
    (λ (t : is_column y x ≡ false). t)
    (cases_Bool (is_column y x))

module _ (c : Class) where
  pub lowest_is : (set : Set) (x : ColRef) → first_in c set ≡ Some x → is_lowest c set x.rel.0 ≡ true
  lowest_is set x found = ap (λ (o : Option ColRef). is_relation_of o x.rel.0) found ∙ eq-eqb x.rel.0 x.rel.0 refl

  relation_is : (o : Option ColRef) (r : ℕ) → is_relation_of o r ≡ true → (x : ColRef) × (o ≡ Some x) × (x.rel.0 ≡ r)
  relation_is None r e = absurd (true≢false (sym e))
  relation_is (Some x) r e = (x, refl, eqb-true x.rel.0 r e)

  pub lowest_at : (set : Set) (r : ℕ) → is_lowest c set r ≡ true → (x : ColRef) × (first_in c set ≡ Some x) × (x.rel.0 ≡ r)
  lowest_at set r e = relation_is (first_in c set) r e

  pub first_inside : (set : Set) (x : ColRef) → first_in c set ≡ Some x → set x.rel.0 ≡ true
  first_inside set x found = found_passes (λ y. set y.rel.0) c.members x found

  pub first_member : (set : Set) (x : ColRef) → first_in c set ≡ Some x → IsIn x c.members
  first_member set x found = found_in (λ y. set y.rel.0) c.members x found

  -- the first member inside a set is the first of its relation
  pub first_of_own : (set : Set) (x : ColRef) → first_in c set ≡ Some x → first_in c (one x.rel.0) ≡ Some x
  first_of_own set x found =
      found_narrower (λ y. set y.rel.0) (λ y. one x.rel.0 y.rel.0) c.members x (λ y same. ap set (eqb-true y.rel.0 x.rel.0 same) ∙ first_inside set x found) found (eq-eqb x.rel.0 x.rel.0 refl)

  -- a member inside a set shows the first one there
  pub some_first : (set : Set) (x : ColRef) → IsIn x c.members → set x.rel.0 ≡ true → (f : ColRef) × (first_in c set ≡ Some f)
  some_first set x ix is = let w = found_first (λ y. set y.rel.0) c.members x ix is in (w.0, w.1)

  pub first_has : (set : Set) (x : ColRef) → first_in c set ≡ Some x → has_in c set ≡ true
  first_has set x found = any_from (λ y. set y.rel.0) c.members x (first_member set x found) (first_inside set x found)

  pub has_first : (set : Set) → has_in c set ≡ true → (x : ColRef) × (first_in c set ≡ Some x)
  has_first set h = let w = any_at (λ y. set y.rel.0) c.members h in some_first set w.0 w.1 w.2

module _ (b : ColRef → Value) (n : ℕ) (c : Class) (sound : IsSound b c) where
  abbrev eq : ColRef → ColRef → Bool
  eq x y = are_equal c.family (b x) (b y)

  eq_sym : (x y : ColRef) → eq x y ≡ true → eq y x ≡ true
  eq_sym x y e = equal_sym c.family (b x) (b y) e

  eq_trans : (x y z : ColRef) → eq x y ≡ true → eq y z ≡ true → eq x z ≡ true
  eq_trans x y z p q = equal_trans c.family (b x) (b y) (b z) p q

  module _ (set : Set) (inner : hold b (is_all set) (inner_clauses n c) ≡ true) (pairs : hold b (is_all set) (pair_clauses n c) ≡ true) where
    -- the first member inside the set equals the first of each relation of the set
    first_and_first : (root f : ColRef) → first_in c set ≡ Some root → first_in c (one f.rel.0) ≡ Some f → set f.rel.0 ≡ true → is_column f root ≡ false → eq root f ≡ true
    first_and_first root f found first is differ =
        let place : (f ≡ root) ⊎ Before root f c.members = found_before (λ y. set y.rel.0) c.members root f found (first_member c (one f.rel.0) f first) is in
        ⊎_elim
        (λ (same : f ≡ root). absurd (true≢false (sym (column_self f) ∙ ap (is_column f) same ∙ differ)))
        (λ (before : Before root f c.members). pairs_hold b n c sound (is_all set) pairs root f before (first_of_own c set root found) first (and_from _ _ (lowest_is c set root found) is))
        place

    first_and_member : (root x : ColRef) → first_in c set ≡ Some root → IsIn x c.members → set x.rel.0 ≡ true → is_column x root ≡ false → eq root x ≡ true
    first_and_member root x found ix is differ =
        let w = some_first c (one x.rel.0) x ix (eq-eqb x.rel.0 x.rel.0 refl) in
        let f : ColRef = w.0 in
        let rel : f.rel.0 ≡ x.rel.0 = eqb-true f.rel.0 x.rel.0 (first_inside c (one x.rel.0) f w.1) in
        let first : first_in c (one f.rel.0) ≡ Some f = first_of_own c (one x.rel.0) f w.1 in
        let inside : set f.rel.0 ≡ true = ap set rel ∙ is in
        ⊎_elim
        (λ (same : is_column x f ≡ true).
        let e : x ≡ f = column_is x f same in
        subst (λ (a : ColRef). eq root a ≡ true) (sym e) (first_and_first root f found first inside (ap (λ (a : ColRef). is_column a root) (sym e) ∙ differ)))
        (λ (other : is_column x f ≡ false).
        let e : eq f x ≡ true = inner_hold b n c sound (is_all set) inner x f ix w.1 other (and_from _ _ (and_from _ _ inside is) refl) in
        ⊎_elim
        (λ (same : is_column f root ≡ true). subst (λ (a : ColRef). eq a x ≡ true) (column_is f root same) e)
        (λ (apart : is_column f root ≡ false). eq_trans root f x (first_and_first root f found first inside apart) e)
        (cases_Bool (is_column f root)))
        (cases_Bool (is_column x f))

    pub all_agree : Agree b c set
    all_agree x y ix iy sx sy differ =
        let w = some_first c set x ix sx in
        let root : ColRef = w.0 in
        ⊎_elim
        (λ (same : is_column x root ≡ true).
        let e : x ≡ root = column_is x root same in
        subst (λ (a : ColRef). eq a y ≡ true) (sym e) (first_and_member root y w.1 iy sy (ap (is_column y) (sym e) ∙ column_sym x y differ)))
        (λ (other : is_column x root ≡ false).
        let left : eq root x ≡ true = first_and_member root x w.1 ix sx other in
        ⊎_elim
        (λ (same : is_column y root ≡ true). subst (λ (a : ColRef). eq x a ≡ true) (sym (column_is y root same)) (eq_sym root x left))
        (λ (other' : is_column y root ≡ false). eq_trans x root y (eq_sym root x left) (first_and_member root y w.1 iy sy other'))
        (cases_Bool (is_column y root)))
        (cases_Bool (is_column x root))

  pub agree_inner : (set : Set) → Agree b c set → hold b (is_all set) (inner_clauses n c) ≡ true
  agree_inner set agree = inner_from b n c sound (is_all set) (λ x f ix found differ is.
      let sides = and_parts (set f.rel.0 && set x.rel.0) true is in
      let both = and_parts (set f.rel.0) (set x.rel.0) sides.0 in
      agree f x (first_member c (one x.rel.0) f found) ix both.0 both.1 (column_sym x f differ))

  pub agree_pairs : (set : Set) → Agree b c set → hold b (is_all set) (pair_clauses n c) ≡ true
  agree_pairs set agree = pairs_from b n c sound (is_all set) (λ x y before first first' is.
      let parts = and_parts (is_lowest c set x.rel.0) (set y.rel.0) is in
      let w = lowest_at c set x.rel.0 parts.0 in
      agree x y (earlier_in x y c.members before) (later_in x y c.members before) (ap set (sym w.2) ∙ first_inside c set w.0 w.1) parts.1 (sound.differ x y before))

  module _ (s t : Set) (chosen : Clause → Bool) where
    -- the pair clause of the lowest relations of the two sets, where it is chosen
    pub pairs_link : AreApart s t → ((x y : ColRef) → are_lowest c s t x.rel.0 y.rel.0 ≡ true → chosen (pair_clause n c x y) ≡ true) → hold b chosen (pair_clauses n c) ≡ true → Link b c s t
    pairs_link apart is h x y fx fy =
        let ix = first_member c s x fx in
        let iy = first_member c t y fy in
        ⊎_elim
        (λ (same : x ≡ y). absurd (true≢false (sym (first_inside c t y fy) ∙ ap (λ (a : ColRef). t a.rel.0) (sym same) ∙ apart x.rel.0 (first_inside c s x fx))))
        (λ (either : Before x y c.members ⊎ Before y x c.members). ⊎_elim
        (λ (before : Before x y c.members).
        pairs_hold b n c sound chosen h x y before (first_of_own c s x fx) (first_of_own c t y fy) (is x y (or_left _ _ (and_from _ _ (lowest_is c s x fx) (lowest_is c t y fy)))))
        (λ (after : Before y x c.members).
        eq_sym y x (pairs_hold b n c sound chosen h y x after (first_of_own c t y fy) (first_of_own c s x fx) (is y x (or_right (is_lowest c s y.rel.0 && is_lowest c t x.rel.0) _ (and_from _ _ (lowest_is c t y fy) (lowest_is c s x fx))))))
        either)
        (either_before x y c.members ix iy)

    first_same : (set : Set) (x : ColRef) → first_in c (one x.rel.0) ≡ Some x → is_lowest c set x.rel.0 ≡ true → first_in c set ≡ Some x
    first_same set x first is =
        let w = lowest_at c set x.rel.0 is in
        let own : first_in c (one (w.0).rel.0) ≡ Some w.0 = first_of_own c set w.0 w.1 in
        let same : w.0 ≡ x = some_same w.0 x (sym own ∙ ap (λ (r : ℕ). first_in c (one r)) w.2 ∙ first) in
        w.1 ∙ ap Some same

    pub link_pairs : ((x y : ColRef) → chosen (pair_clause n c x y) ≡ true → are_lowest c s t x.rel.0 y.rel.0 ≡ true) → Link b c s t → hold b chosen (pair_clauses n c) ≡ true
    link_pairs is link = pairs_from b n c sound chosen (λ x y before first first' picked. ⊎_elim
        (λ (straight : is_lowest c s x.rel.0 && is_lowest c t y.rel.0 ≡ true).
        let parts = and_parts (is_lowest c s x.rel.0) (is_lowest c t y.rel.0) straight in
        link x y (first_same s x first parts.0) (first_same t y first' parts.1))
        (λ (turned : is_lowest c t x.rel.0 && is_lowest c s y.rel.0 ≡ true).
        let parts = and_parts (is_lowest c t x.rel.0) (is_lowest c s y.rel.0) turned in
        eq_sym y x (link y x (first_same s y first' parts.1) (first_same t x first parts.0)))
        (or_cases (is_lowest c s x.rel.0 && is_lowest c t y.rel.0) (is_lowest c t x.rel.0 && is_lowest c s y.rel.0) (is x y picked)))

  -- agreement over two sets, and between their first members, is agreement over the union
  pub agree_part : (s u : Set) → ((k : ℕ) → s k ≡ true → u k ≡ true) → Agree b c u → Agree b c s
  agree_part s u part agree x y ix iy sx sy differ = agree x y ix iy (part x.rel.0 sx) (part y.rel.0 sy) differ

  pub agree_link : (s t u : Set) → AreApart s t → ((k : ℕ) → s k ≡ true → u k ≡ true) → ((k : ℕ) → t k ≡ true → u k ≡ true) → Agree b c u → Link b c s t
  agree_link s t u apart part part' agree x y fx fy =
      let sx = first_inside c s x fx in
      let ty = first_inside c t y fy in
      agree x y (first_member c s x fx) (first_member c t y fy) (part x.rel.0 sx) (part' y.rel.0 ty)
      (⊎_elim
      (λ (same : is_column x y ≡ true). absurd (true≢false (sym ty ∙ ap (λ (a : ColRef). t a.rel.0) (sym (column_is x y same)) ∙ apart x.rel.0 sx)))
      (λ (other : is_column x y ≡ false). other)
      (cases_Bool (is_column x y)))

  -- a member of the one set equals one of the other
  across : (s t : Set) → Agree b c s → Agree b c t → Link b c s t → (x y : ColRef) → IsIn x c.members → IsIn y c.members → s x.rel.0 ≡ true → t y.rel.0 ≡ true → eq x y ≡ true
  across s t agree agree' link x y ix iy sx ty =
      let f = some_first c s x ix sx in
      let g = some_first c t y iy ty in
      let e : eq f.0 g.0 ≡ true = link f.0 g.0 f.1 g.1 in
      let left : eq x g.0 ≡ true = ⊎_elim
      (λ (same : is_column x f.0 ≡ true). subst (λ (a : ColRef). eq a g.0 ≡ true) (sym (column_is x f.0 same)) e)
      (λ (other : is_column x f.0 ≡ false). eq_trans x f.0 g.0 (agree x f.0 ix (first_member c s f.0 f.1) sx (first_inside c s f.0 f.1) other) e)
      (cases_Bool (is_column x f.0)) in
      ⊎_elim
      (λ (same : is_column y g.0 ≡ true). subst (λ (a : ColRef). eq x a ≡ true) (sym (column_is y g.0 same)) left)
      (λ (other : is_column y g.0 ≡ false). eq_trans x g.0 y left (agree' g.0 y (first_member c t g.0 g.1) iy (first_inside c t g.0 g.1) ty (column_sym y g.0 other)))
      (cases_Bool (is_column y g.0))

  pub agree_union : (s t : Set) → Agree b c s → Agree b c t → Link b c s t → Agree b c (union s t)
  agree_union s t agree agree' link x y ix iy sx sy differ = ⊎_elim
      (λ (xs : s x.rel.0 ≡ true). ⊎_elim
      (λ (ys : s y.rel.0 ≡ true). agree x y ix iy xs ys differ)
      (λ (yt : t y.rel.0 ≡ true). across s t agree agree' link x y ix iy xs yt)
      (or_cases (s y.rel.0) (t y.rel.0) sy))
      (λ (xt : t x.rel.0 ≡ true). ⊎_elim
      (λ (ys : s y.rel.0 ≡ true). eq_sym y x (across s t agree agree' link y x iy ix ys xt))
      (λ (yt : t y.rel.0 ≡ true). agree' x y ix iy xt yt differ)
      (or_cases (s y.rel.0) (t y.rel.0) sy))
      (or_cases (s x.rel.0) (t x.rel.0) sx)
