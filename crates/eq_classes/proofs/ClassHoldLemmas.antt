-- When the clauses of one class hold.
use Rattle.std.proofs.Common.{◌≡◌, ℕ, Bool, true, false, inl, ⊎_elim, [], ◌∷◌, map, filter, Option, Some, None, refl, sym, ap, ◌∙◌}
use Rattle.std.proofs.lemmas.Bool.{cases_Bool, and_from, true≢false, eq-eqb}
use Rattle.opfamily.specs.pg_value_value_Value.{Value}
use Rattle.opfamily.specs.pg_value_work_Order.{IsOfFamily}
use Rattle.opfamily.specs.pg_value_Truths.{is_true}
use Rattle.pg_expr.specs.declared.operand.ColRef.{ColRef}
use Rattle.pg_expr.specs.Truths.{truth_at}
use Rattle.eq_classes.specs.Equality.{are_equal, is_column}
use Rattle.eq_classes.specs.Classes.{Class}
use Rattle.eq_classes.specs.Clauses.{Clause, clause, by_class, first_in, one, is_same, is_first, equals, equals_constant, constant_clauses, inner_clause, inner_clauses, pair_clause, pair_clauses}
use Rattle.eq_classes.specs.work.Holding.{hold}
use Rattle.eq_classes.proofs.ListLemmas.{IsIn, Before, earlier_in, later_in, found_in, in_filter, before_filter, filter_before}
use Rattle.eq_classes.proofs.HoldLemmas.{in_map, map_in, in_flat_map, flat_map_in, in_each_pair, each_pair_in, hold_at, hold_from}
use Rattle.eq_classes.proofs.EqualLemmas.{column_is, truth_equal}

-- values fit the family, and members differ
pub record IsSound (b : ColRef → Value) (c : Class) : Type 0 where
  pub fits : (x : ColRef) → IsIn x c.members → IsOfFamily c.family (b x)
  pub known : (v : Value) → IsIn v c.constants → IsOfFamily c.family v
  pub differ : (x y : ColRef) → Before x y c.members → is_column x y ≡ false

pub same_is : (x : ColRef) (o : Option ColRef) → is_same x o ≡ true → o ≡ Some x
same_is x None e = absurd (true≢false (sym e))
same_is x (Some y) e = ap Some (sym (column_is x y e))

pub column_self : (x : ColRef) → is_column x x ≡ true
column_self x = and_from _ _ (eq-eqb x.rel.0 x.rel.0 refl) (eq-eqb x.col.0 x.col.0 refl)

is_same-self : (x : ColRef) (o : Option ColRef) → o ≡ Some x → is_same x o ≡ true
is_same-self x None e = cc
is_same-self x (Some y) e = let same : y ≡ x = cc in ap (is_column x) same ∙ column_self x

module _ (b : ColRef → Value) (n : ℕ) (c : Class) (sound : IsSound b c) where
  abbrev eq : ColRef → ColRef → Bool
  eq x y = are_equal c.family (b x) (b y)

  equals_is : (x y : ColRef) → IsIn x c.members → IsIn y c.members → is_true (truth_at b (equals c x y)) ≡ eq x y
  equals_is x y ix iy = truth_equal c.family (b x) (b y) (sound.fits x ix) (sound.fits y iy)

  constant_is : (x : ColRef) (v : Value) → IsIn x c.members → IsIn v c.constants → is_true (truth_at b (equals_constant c x v)) ≡ are_equal c.family (b x) v
  constant_is x v ix iv = truth_equal c.family (b x) v (sound.fits x ix) (sound.known v iv)

  module _ (chosen : Clause → Bool) where
    pub pairs_hold : hold b chosen (pair_clauses n c) ≡ true → (x y : ColRef) → Before x y c.members → first_in c (one x.rel.0) ≡ Some x → first_in c (one y.rel.0) ≡ Some y
        → chosen (pair_clause n c x y) ≡ true → eq x y ≡ true
    pairs_hold h x y before fx fy is =
        let inside : Before x y (filter (is_first c) c.members) = filter_before (is_first c) c.members x y before (is_same-self x (first_in c (one x.rel.0)) fx) (is_same-self y (first_in c (one y.rel.0)) fy) in
        sym (equals_is x y (earlier_in x y c.members before) (later_in x y c.members before))
        ∙ hold_at b chosen (pair_clauses n c) h (pair_clause n c x y) (each_pair_in (pair_clause n c) (filter (is_first c) c.members) x y inside) is

    pub pairs_from : ((x y : ColRef) → Before x y c.members → first_in c (one x.rel.0) ≡ Some x → first_in c (one y.rel.0) ≡ Some y → chosen (pair_clause n c x y) ≡ true → eq x y ≡ true)
        → hold b chosen (pair_clauses n c) ≡ true
    pairs_from h = hold_from b chosen (pair_clauses n c) (λ k i is.
        let w = in_each_pair (pair_clause n c) (filter (is_first c) c.members) k i in
        let before : Before w.0 w.1 c.members = before_filter (is_first c) c.members w.0 w.1 w.2 in
        let fx = in_filter (is_first c) c.members w.0 (earlier_in w.0 w.1 (filter (is_first c) c.members) w.2) in
        let fy = in_filter (is_first c) c.members w.1 (later_in w.0 w.1 (filter (is_first c) c.members) w.2) in
        let e : eq w.0 w.1 ≡ true = h w.0 w.1 before (same_is w.0 (first_in c (one (w.0).rel.0)) fx.1) (same_is w.1 (first_in c (one (w.1).rel.0)) fy.1) (ap chosen (sym w.3) ∙ is) in
        ap (λ (a : Clause). is_true (truth_at b a.cond)) w.3 ∙ equals_is w.0 w.1 fx.0 fy.0 ∙ e)

    inner_in : (x f : ColRef) (o : Option ColRef) → o ≡ Some f → is_column x f ≡ false → IsIn (clause (equals c f x) (by_class n c)) (inner_clause n c x o)
    inner_in x f None e differ = cc
    inner_in x f (Some g) e differ =
        let same : g ≡ f = cc in
        let d : is_column x g ≡ false = ap (is_column x) same ∙ differ in
        rw d (inl (ap (λ (a : ColRef). clause (equals c a x) (by_class n c)) (sym same)))

    in_inner : (x : ColRef) (o : Option ColRef) (k : Clause) → IsIn k (inner_clause n c x o) → (f : ColRef) × (o ≡ Some f) × (is_column x f ≡ false) × (k ≡ clause (equals c f x) (by_class n c))
    in_inner x None k h = absurd h
    in_inner x (Some g) k h = ⊎_elim
        (λ (t : is_column x g ≡ true). absurd (rw t at h))
        (λ (t : is_column x g ≡ false). let i : IsIn k (clause (equals c g x) (by_class n c) ∷ []) = rw t at h in (g, refl, t, ⊎_elim (λ (e : k ≡ clause (equals c g x) (by_class n c)). e) (λ (none : ⊥). absurd none) i))
        (cases_Bool (is_column x g))

    pub inner_hold : hold b chosen (inner_clauses n c) ≡ true → (x f : ColRef) → IsIn x c.members → first_in c (one x.rel.0) ≡ Some f → is_column x f ≡ false
        → chosen (clause (equals c f x) (by_class n c)) ≡ true → eq f x ≡ true
    inner_hold h x f ix found differ is =
        sym (equals_is f x (found_in (λ y. one x.rel.0 y.rel.0) c.members f found) ix)
        ∙ hold_at b chosen (inner_clauses n c) h (clause (equals c f x) (by_class n c))
        (flat_map_in (λ y. inner_clause n c y (first_in c (one y.rel.0))) c.members x (clause (equals c f x) (by_class n c)) ix (inner_in x f (first_in c (one x.rel.0)) found differ)) is

    pub inner_from : ((x f : ColRef) → IsIn x c.members → first_in c (one x.rel.0) ≡ Some f → is_column x f ≡ false → chosen (clause (equals c f x) (by_class n c)) ≡ true → eq f x ≡ true)
        → hold b chosen (inner_clauses n c) ≡ true
    inner_from h = hold_from b chosen (inner_clauses n c) (λ k i is.
        let w = in_flat_map (λ y. inner_clause n c y (first_in c (one y.rel.0))) c.members k i in
        let v = in_inner w.0 (first_in c (one (w.0).rel.0)) k w.2 in
        let e : eq v.0 w.0 ≡ true = h w.0 v.0 w.1 v.1 v.2 (ap chosen (sym v.3) ∙ is) in
        ap (λ (a : Clause). is_true (truth_at b a.cond)) v.3 ∙ equals_is v.0 w.0 (found_in (λ y. one (w.0).rel.0 y.rel.0) c.members v.0 v.1) w.1 ∙ e)

    pub constants_hold : hold b chosen (constant_clauses n c) ≡ true → (x : ColRef) (v : Value) → IsIn x c.members → IsIn v c.constants
        → chosen (clause (equals_constant c x v) (by_class n c)) ≡ true → are_equal c.family (b x) v ≡ true
    constants_hold h x v ix iv is =
        sym (constant_is x v ix iv)
        ∙ hold_at b chosen (constant_clauses n c) h (clause (equals_constant c x v) (by_class n c))
        (flat_map_in (λ y. map (λ u. clause (equals_constant c y u) (by_class n c)) c.constants) c.members x (clause (equals_constant c x v) (by_class n c)) ix (map_in (λ u. clause (equals_constant c x u) (by_class n c)) c.constants v iv)) is

    pub constants_from : ((x : ColRef) (v : Value) → IsIn x c.members → IsIn v c.constants → chosen (clause (equals_constant c x v) (by_class n c)) ≡ true → are_equal c.family (b x) v ≡ true)
        → hold b chosen (constant_clauses n c) ≡ true
    constants_from h = hold_from b chosen (constant_clauses n c) (λ k i is.
        let w = in_flat_map (λ y. map (λ u. clause (equals_constant c y u) (by_class n c)) c.constants) c.members k i in
        let v = in_map (λ u. clause (equals_constant c w.0 u) (by_class n c)) c.constants k w.2 in
        let e : are_equal c.family (b w.0) v.0 ≡ true = h w.0 v.0 w.1 v.1 (ap chosen (sym v.2) ∙ is) in
        ap (λ (a : Clause). is_true (truth_at b a.cond)) v.2 ∙ constant_is w.0 v.0 w.1 v.1 ∙ e)
