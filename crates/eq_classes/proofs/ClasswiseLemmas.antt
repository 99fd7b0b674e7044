-- The clauses of one class inside a union of two sets are those inside each and those that join them; and those that a
-- scan with a parameter tests itself are among these.
use Rattle.std.proofs.Common.{◌≡◌, ℕ, Bool, true, false, not, ◌&&◌, ⊎_elim, ◌++◌, refl, sym, ap, ◌∙◌, subst}
use Rattle.std.proofs.lemmas.Bool.{cases_Bool, and_parts, and_from, or_cases, or_left, or_right, true≢false, eqb-true}
use Rattle.opfamily.specs.pg_value_value_Value.{Value}
use Rattle.pg_expr.specs.declared.operand.ColRef.{ColRef}
use Rattle.eq_classes.specs.Equality.{are_equal, is_column}
use Rattle.eq_classes.specs.Classes.{Class}
use Rattle.eq_classes.specs.Clauses.{Set, Clause, one, constant_clauses, inner_clauses, pair_clause, pair_clauses, has_constant, class_clauses}
use Rattle.eq_classes.specs.Parts.{union, has_in, are_lowest, is_all, is_join, is_param, is_join_param}
use Rattle.eq_classes.specs.work.Holding.{hold}
use Rattle.eq_classes.proofs.HoldLemmas.{hold-append}
use Rattle.eq_classes.proofs.EqualLemmas.{column_is, equal_sym, equal_trans}
use Rattle.eq_classes.proofs.ClassHoldLemmas.{IsSound, inner_from, constants_hold, constants_from}
use Rattle.eq_classes.proofs.ClassLemmas.{Agree, Fixed, Link, AreApart, first_inside, first_member, some_first, has_first, all_agree, agree_inner, agree_pairs, pairs_link, link_pairs, agree_part, agree_link, agree_union}

pub same_truth : (x y : Bool) → (x ≡ true → y ≡ true) → (y ≡ true → x ≡ true) → x ≡ y
same_truth true y f g = sym (f refl)
same_truth false true f g = g refl
same_truth false false f g = refl

-- what the clauses of a class say inside a set
pub record Says (b : ColRef → Value) (c : Class) (set : Set) : Type 0 where
  pub fixed : has_constant c ≡ true → Fixed b c set
  pub agree : has_constant c ≡ false → Agree b c set

module _ (b : ColRef → Value) (n : ℕ) (c : Class) (sound : IsSound b c) where
  with_constant : has_constant c ≡ true → class_clauses n c ≡ constant_clauses n c
  with_constant e = rw e refl

  without_constant : has_constant c ≡ false → class_clauses n c ≡ inner_clauses n c ++ pair_clauses n c
  without_constant e = rw e refl

  parted : (chosen : Clause → Bool) → has_constant c ≡ false → hold b chosen (class_clauses n c) ≡ hold b chosen (inner_clauses n c) && hold b chosen (pair_clauses n c)
  parted chosen e = ap (hold b chosen) (without_constant e) ∙ hold-append b chosen (inner_clauses n c) (pair_clauses n c)

  pub says : (set : Set) → hold b (is_all set) (class_clauses n c) ≡ true → Says b c set
  says set h = record {
    fixed = λ e x v ix iv is. constants_hold b n c sound (is_all set) (ap (hold b (is_all set)) (sym (with_constant e)) ∙ h) x v ix iv (and_from _ _ (and_from _ _ is refl) refl);
    agree = λ e.
        let parts = and_parts (hold b (is_all set) (inner_clauses n c)) (hold b (is_all set) (pair_clauses n c)) (sym (parted (is_all set) e) ∙ h) in
        all_agree b n c sound set parts.0 parts.1;
  }

  pub said : (set : Set) → Says b c set → hold b (is_all set) (class_clauses n c) ≡ true
  said set s = ⊎_elim
      (λ (e : has_constant c ≡ true). ap (hold b (is_all set)) (with_constant e)
      ∙ constants_from b n c sound (is_all set) (λ x v ix iv is.
      let outer = and_parts (set x.rel.0 && true) true is in
      let inner = and_parts (set x.rel.0) true outer.0 in
      s.fixed e x v ix iv inner.0))
      (λ (e : has_constant c ≡ false). parted (is_all set) e ∙ and_from _ _ (agree_inner b n c sound set (s.agree e)) (agree_pairs b n c sound set (s.agree e)))
      (cases_Bool (has_constant c))

  none_constant : (s t : Set) → hold b (is_join s t) (constant_clauses n c) ≡ true
  none_constant s t = constants_from b n c sound (is_join s t) (λ x v ix iv is. absurd (true≢false (sym is)))

  none_inner : (s t : Set) → hold b (is_join s t) (inner_clauses n c) ≡ true
  none_inner s t = inner_from b n c sound (is_join s t) (λ x f ix found differ is. absurd (true≢false (sym is)))

  pub linked : (s t : Set) → AreApart s t → hold b (is_join s t) (class_clauses n c) ≡ true → has_constant c ≡ false → Link b c s t
  linked s t apart h e =
      let parts = and_parts (hold b (is_join s t) (inner_clauses n c)) (hold b (is_join s t) (pair_clauses n c)) (sym (parted (is_join s t) e) ∙ h) in
      pairs_link b n c sound s t (is_join s t) apart (λ x y is. is) parts.1

  pub link : (s t : Set) → (has_constant c ≡ false → Link b c s t) → hold b (is_join s t) (class_clauses n c) ≡ true
  link s t l = ⊎_elim
      (λ (e : has_constant c ≡ true). ap (hold b (is_join s t)) (with_constant e) ∙ none_constant s t)
      (λ (e : has_constant c ≡ false). parted (is_join s t) e ∙ and_from _ _ (none_inner s t) (link_pairs b n c sound s t (is_join s t) (λ x y is. is) (l e)))
      (cases_Bool (has_constant c))

  in_left : (s t : Set) (k : ℕ) → s k ≡ true → union s t k ≡ true
  in_left s t k is = or_left (s k) (t k) is

  in_right : (s t : Set) (k : ℕ) → t k ≡ true → union s t k ≡ true
  in_right s t k is = or_right (s k) (t k) is

  -- inside a union
  pub class_splits : (s t : Set) → AreApart s t
      → hold b (is_all (union s t)) (class_clauses n c) ≡ hold b (is_all s) (class_clauses n c) && (hold b (is_all t) (class_clauses n c) && hold b (is_join s t) (class_clauses n c))
  class_splits s t apart = same_truth _ _
      (λ h.
      let w = says (union s t) h in
      and_from _ _
      (said s (record { fixed = λ e x v ix iv is. w.fixed e x v ix iv (in_left s t x.rel.0 is); agree = λ e. agree_part b n c sound s (union s t) (in_left s t) (w.agree e) }))
      (and_from _ _
      (said t (record { fixed = λ e x v ix iv is. w.fixed e x v ix iv (in_right s t x.rel.0 is); agree = λ e. agree_part b n c sound t (union s t) (in_right s t) (w.agree e) }))
      (link s t (λ e. agree_link b n c sound s t (union s t) apart (in_left s t) (in_right s t) (w.agree e)))))
      (λ h.
      let first = and_parts (hold b (is_all s) (class_clauses n c)) (hold b (is_all t) (class_clauses n c) && hold b (is_join s t) (class_clauses n c)) h in
      let rest = and_parts (hold b (is_all t) (class_clauses n c)) (hold b (is_join s t) (class_clauses n c)) first.1 in
      let w = says s first.0 in
      let w' = says t rest.0 in
      said (union s t) (record {
        fixed = λ e x v ix iv is. ⊎_elim (λ (xs : s x.rel.0 ≡ true). w.fixed e x v ix iv xs) (λ (xt : t x.rel.0 ≡ true). w'.fixed e x v ix iv xt) (or_cases (s x.rel.0) (t x.rel.0) is);
        agree = λ e. agree_union b n c sound s t (w.agree e) (w'.agree e) (linked s t apart rest.1 e);
      }))

  -- where the relations of p lie in s and r does not
  module _ (s p : Set) (r : ℕ) (part : (k : ℕ) → p k ≡ true → s k ≡ true) (out : s r ≡ false) where
    apart_one : AreApart s (one r)
    apart_one k is = ⊎_elim
        (λ (e : one r k ≡ true). absurd (true≢false (sym is ∙ ap s (eqb-true k r e) ∙ out)))
        (λ (e : one r k ≡ false). e)
        (cases_Bool (one r k))

    one_apart : AreApart (one r) p
    one_apart k is = ⊎_elim
        (λ (e : p k ≡ true). absurd (true≢false (sym (part k e) ∙ ap s (eqb-true k r is) ∙ out)))
        (λ (e : p k ≡ false). e)
        (cases_Bool (p k))

    abbrev both_in : Bool
    both_in = has_in c (one r) && has_in c p

    -- a class with members in r and p: the first of r equals the first of p exactly where it equals that of s
    join_from_param : Agree b c s → Link b c (one r) p → has_in c p ≡ true → Link b c s (one r)
    join_from_param agree l inside x y fx fy =
        let w = has_first c p inside in
        let e : are_equal c.family (b y) (b w.0) ≡ true = l y w.0 fy w.1 in
        let e' : are_equal c.family (b w.0) (b y) ≡ true = equal_sym c.family (b y) (b w.0) e in
        ⊎_elim
        (λ (same : is_column x w.0 ≡ true). subst (λ (a : ColRef). are_equal c.family (b a) (b y) ≡ true) (sym (column_is x w.0 same)) e')
        (λ (other : is_column x w.0 ≡ false).
        equal_trans c.family (b x) (b w.0) (b y) (agree x w.0 (first_member c s x fx) (first_member c p w.0 w.1) (first_inside c s x fx) (part (w.0).rel.0 (first_inside c p w.0 w.1)) other) e')
        (cases_Bool (is_column x w.0))

    param_from_join : Agree b c s → Link b c s (one r) → Link b c (one r) p
    param_from_join agree l y x fy fx =
        let sx : s x.rel.0 ≡ true = part x.rel.0 (first_inside c p x fx) in
        let ix = first_member c p x fx in
        let w = some_first c s x ix sx in
        let e : are_equal c.family (b w.0) (b y) ≡ true = l w.0 y w.1 fy in
        let e' : are_equal c.family (b y) (b w.0) ≡ true = equal_sym c.family (b w.0) (b y) e in
        ⊎_elim
        (λ (same : is_column w.0 x ≡ true). subst (λ (a : ColRef). are_equal c.family (b y) (b a) ≡ true) (column_is w.0 x same) e')
        (λ (other : is_column w.0 x ≡ false).
        equal_trans c.family (b y) (b w.0) (b x) e' (agree w.0 x (first_member c s w.0 w.1) ix (first_inside c s w.0 w.1) sx other))
        (cases_Bool (is_column w.0 x))

    -- the pair clauses that are left where those of such a class are left out
    left_at : (x y : ColRef) → both_in ≡ false → are_lowest c s (one r) x.rel.0 y.rel.0 ≡ true → is_join_param s r p (pair_clause n c x y) ≡ true
    left_at x y e is = and_from _ _ is (rw e refl)

    pub class_params : hold b (is_all s) (class_clauses n c) ≡ true
        → hold b (is_join s (one r)) (class_clauses n c) ≡ hold b (is_param r p) (class_clauses n c) && hold b (is_join_param s r p) (class_clauses n c)
    class_params h = same_truth _ _
        (λ j. ⊎_elim
        (λ (e : has_constant c ≡ true). and_from _ _
        (ap (hold b (is_param r p)) (with_constant e) ∙ constants_from b n c sound (is_param r p) (λ x v ix iv is. absurd (true≢false (sym is))))
        (ap (hold b (is_join_param s r p)) (with_constant e) ∙ constants_from b n c sound (is_join_param s r p) (λ x v ix iv is. absurd (true≢false (sym is)))))
        (λ (e : has_constant c ≡ false).
        let l = linked s (one r) apart_one j e in
        and_from _ _
        (parted (is_param r p) e ∙ and_from _ _
        (inner_from b n c sound (is_param r p) (λ x f ix found differ is. absurd (true≢false (sym is))))
        (link_pairs b n c sound (one r) p (is_param r p) (λ x y is. is) (param_from_join ((says s h).agree e) l)))
        (parted (is_join_param s r p) e ∙ and_from _ _
        (inner_from b n c sound (is_join_param s r p) (λ x f ix found differ is. absurd (true≢false (sym is))))
        (link_pairs b n c sound s (one r) (is_join_param s r p) (λ x y is. (and_parts (are_lowest c s (one r) x.rel.0 y.rel.0) (not both_in) is).0) l)))
        (cases_Bool (has_constant c)))
        (λ k. link s (one r) (λ e.
        let parts = and_parts (hold b (is_param r p) (class_clauses n c)) (hold b (is_join_param s r p) (class_clauses n c)) k in
        let params = and_parts (hold b (is_param r p) (inner_clauses n c)) (hold b (is_param r p) (pair_clauses n c)) (sym (parted (is_param r p) e) ∙ parts.0) in
        let rests = and_parts (hold b (is_join_param s r p) (inner_clauses n c)) (hold b (is_join_param s r p) (pair_clauses n c)) (sym (parted (is_join_param s r p) e) ∙ parts.1) in
        ⊎_elim
        (λ (t : both_in ≡ true).
        join_from_param ((says s h).agree e) (pairs_link b n c sound (one r) p (is_param r p) one_apart (λ x y is. is) params.1) (and_parts (has_in c (one r)) (has_in c p) t).1)
        (λ (t : both_in ≡ false). pairs_link b n c sound s (one r) (is_join_param s r p) apart_one (λ x y is. left_at x y t is) rests.1)
        (cases_Bool both_in)))
