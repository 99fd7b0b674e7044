-- What holds of each clause of conjuncts and an ORDER BY: the columns that it names pass a test where theirs do.
use Rattle.std.proofs.Common.{◌≡◌, ℕ, suc, ◌<◌, is_some, Bool, true, false, ◌&&◌, ◌⊎◌, inl, inr, ⊎_elim, List, [], ◌∷◌, ◌++◌, length, map, filter, filter_map, All, Option, Some, None, option_map, refl, sym, ap, ◌∙◌, subst}
use Rattle.std.proofs.lemmas.Bool.{cases_Bool, and_parts, and_from, true≢false}
use Rattle.std.proofs.lemmas.Option.{same_Some}
use Rattle.opfamily.specs.pg_value_operators_Family.{Family}
use Rattle.opfamily.specs.pg_value_operators_Op.{Op}
use Rattle.opfamily.specs.pg_value_value_SqlType.{SqlType}
use Rattle.opfamily.specs.pg_value_value_Value.{Value}
use Rattle.opfamily.specs.Answers.{default_family_of, is_family}
use Rattle.pg_expr.specs.declared.operand.ColRef.{ColRef}
use Rattle.pg_expr.specs.declared.operand.Operand.{Operand}
use Rattle.pg_expr.specs.declared.operand.Operand.TheVariants.{Col, Lit}
use Rattle.pg_expr.specs.Cond.{Cond, compare, is_null, is_not_null, bool_col, const, all_of, any_of, negation}
use Rattle.pg_expr.specs.Columns.{passes_column, each_column}
use Rattle.eq_classes.specs.declared.order.OrderItem.{OrderItem}
use Rattle.eq_classes.specs.Equality.{Equality, equality_family, equal_in, equality_in, is_column, as_clause}
use Rattle.eq_classes.specs.Classes.{Premises, Linked, conjunct, constant, same, turned, chain, Class, has_member, Mention, is_in, left_of, in_family, ordered_by, mentions, first_mention, IsClass, AreClasses}
use Rattle.eq_classes.specs.Clauses.{ClauseSource, Clause, clause, by_conjunct, by_class, by_pair, one, first_in, is_first, equals, equals_constant, conjunct_clauses, constant_clauses, inner_clause, inner_clauses, pair_clause, pair_clauses, has_constant, class_clauses, clauses_from, clause_list}
use Rattle.eq_classes.proofs.ListLemmas.{IsIn, Before, in_parts, in_filter, in_filter_map, in_from_contains, all_at, earlier_in, later_in}
use Rattle.eq_classes.proofs.EqualLemmas.{column_is, family_is}
use Rattle.eq_classes.proofs.HoldLemmas.{in_map, in_flat_map, in_each_pair}
use Rattle.eq_classes.proofs.ClassLemmas.{first_member}
use Rattle.eq_classes.proofs.SideLemmas.{equality_is}
use Rattle.eq_classes.proofs.SoundLemmas.{in_member, position_found}

-- what holds of each conjunct as a clause, of each equality of two members of a class, and of each of a member and a constant, holds of
-- each clause
module _ (type_of : ColRef → SqlType) (conjuncts : List Cond) (classes : List Class) (P : Cond → Type 0)
    (by_itself : (k : Cond) → IsIn k conjuncts → P (as_clause type_of k))
    (by_members : (c : Class) → IsIn c classes → (x y : ColRef) → IsIn x c.members → IsIn y c.members → P (equals c x y))
    (by_constant : (c : Class) → IsIn c classes → (x : ColRef) (v : Value) → IsIn x c.members → IsIn v c.constants → P (equals_constant c x v)) where
  as_made : (k : Clause) (e : Cond) (s : ClauseSource) → k ≡ clause e s → P e → P k.cond
  as_made k e s is h = subst (λ (a : Clause). P a.cond) (sym is) h

  each_inner : (n : ℕ) (c : Class) → IsIn c classes → (x : ColRef) → IsIn x c.members → (o : Option ColRef) → first_in c (one x.rel.0) ≡ o → (k : Clause) → IsIn k (inner_clause n c x o) → P k.cond
  each_inner n c ic x ix None e k h = absurd h
  each_inner n c ic x ix (Some y) e k h = ⊎_elim
      (λ (t : is_column x y ≡ true). absurd (rw t at h))
      (λ (t : is_column x y ≡ false).
      let i : IsIn k (clause (equals c y x) (by_class n c) ∷ []) = rw t at h in
      ⊎_elim
      (λ (s : k ≡ clause (equals c y x) (by_class n c)). as_made k (equals c y x) (by_class n c) s (by_members c ic y x (first_member c (one x.rel.0) y e) ix))
      (λ (none : ⊥). absurd none)
      i)
      (cases_Bool (is_column x y))

  each_of_class : (n : ℕ) (c : Class) → IsIn c classes → (k : Clause) → IsIn k (class_clauses n c) → P k.cond
  each_of_class n c ic k i = ⊎_elim
      (λ (t : has_constant c ≡ true).
      let h : IsIn k (constant_clauses n c) = rw t at i in
      let w = in_flat_map (λ y. map (λ u. clause (equals_constant c y u) (by_class n c)) c.constants) c.members k h in
      let v = in_map (λ u. clause (equals_constant c w.0 u) (by_class n c)) c.constants k w.2 in
      as_made k (equals_constant c w.0 v.0) (by_class n c) v.2 (by_constant c ic w.0 v.0 w.1 v.1))
      (λ (t : has_constant c ≡ false). ⊎_elim
      (λ (h : IsIn k (inner_clauses n c)).
      let w = in_flat_map (λ y. inner_clause n c y (first_in c (one y.rel.0))) c.members k h in
      each_inner n c ic w.0 w.1 (first_in c (one (w.0).rel.0)) refl k w.2)
      (λ (h : IsIn k (pair_clauses n c)).
      let w = in_each_pair (pair_clause n c) (filter (is_first c) c.members) k h in
      let x = in_filter (is_first c) c.members w.0 (earlier_in w.0 w.1 (filter (is_first c) c.members) w.2) in
      let y = in_filter (is_first c) c.members w.1 (later_in w.0 w.1 (filter (is_first c) c.members) w.2) in
      as_made k (equals c w.0 w.1) (by_pair n c (w.0).rel.0 (w.1).rel.0) w.3 (by_members c ic w.0 w.1 x.0 y.0))
      (in_parts k (inner_clauses n c) (pair_clauses n c) (rw t at i)))
      (cases_Bool (has_constant c))

  each_conjunct : (n : ℕ) (ks : List Cond) → ((k : Cond) → IsIn k ks → P (as_clause type_of k)) → (c : Clause) → IsIn c (conjunct_clauses type_of n ks) → P c.cond
  each_conjunct n [] h c i = absurd i
  each_conjunct n (k ∷ ks) h c i = ⊎_elim
      (λ (t : is_some (equality_in type_of k) ≡ true). each_conjunct (suc n) ks (λ j a. h j (inr a)) c (rw t at i))
      (λ (t : is_some (equality_in type_of k) ≡ false). ⊎_elim
      (λ (s : c ≡ clause (as_clause type_of k) (by_conjunct n)). as_made c (as_clause type_of k) (by_conjunct n) s (h k (inl refl)))
      (λ (j : IsIn c (conjunct_clauses type_of (suc n) ks)). each_conjunct (suc n) ks (λ j a. h j (inr a)) c j)
      (rw t at i))
      (cases_Bool (is_some (equality_in type_of k)))

  each_of_classes : (n : ℕ) (cs : List Class) → ((c : Class) → IsIn c cs → IsIn c classes) → (k : Clause) → IsIn k (clauses_from n cs) → P k.cond
  each_of_classes n [] inside k i = absurd i
  each_of_classes n (c ∷ cs) inside k i = ⊎_elim
      (λ (h : IsIn k (class_clauses n c)). each_of_class n c (inside c (inl refl)) k h)
      (λ (h : IsIn k (clauses_from (suc n) cs)). each_of_classes (suc n) cs (λ d j. inside d (inr j)) k h)
      (in_parts k (class_clauses n c) (clauses_from (suc n) cs) i)

  pub each_clause : (k : Clause) → IsIn k (clause_list type_of conjuncts classes) → P k.cond
  each_clause k i = ⊎_elim
      (λ (h : IsIn k (conjunct_clauses type_of 1 conjuncts)). each_conjunct 1 conjuncts by_itself k h)
      (λ (h : IsIn k (clauses_from 0 classes)). each_of_classes 0 classes (λ c j. j) k h)
      (in_parts k (conjunct_clauses type_of 1 conjuncts) (clauses_from 0 classes) i)

abbrev pub Passes : (ColRef → Bool) → Operand → Type 0
Passes test (Col c) = test c ≡ true
Passes test (Lit v) = Unit {0}

side_passes : (test : ColRef → Bool) (o : Operand) → passes_column test o ≡ true → Passes test o
side_passes test (Col c) h = h
side_passes test (Lit v) h = tt

as_clause_passes : (test : ColRef → Bool) (type_of : ColRef → SqlType) (k : Cond) → each_column test k ≡ true → each_column test (as_clause type_of k) ≡ true
as_clause_passes test type_of (compare op (Col c) (Col d)) h = ⊎_elim
    (λ (t : is_column c d && is_some (equality_family op (type_of c)) ≡ true). rw t (and_parts (test c) (test d) h).0)
    (λ (t : is_column c d && is_some (equality_family op (type_of c)) ≡ false). rw t h)
    (cases_Bool (is_column c d && is_some (equality_family op (type_of c))))
as_clause_passes test type_of (compare op (Col c) (Lit v)) h = h
as_clause_passes test type_of (compare op (Lit v) r) h = h
as_clause_passes test type_of (is_null c) h = h
as_clause_passes test type_of (is_not_null c) h = h
as_clause_passes test type_of (bool_col c) h = h
as_clause_passes test type_of (const t) h = h
as_clause_passes test type_of (all_of cs) h = h
as_clause_passes test type_of (any_of cs) h = h
as_clause_passes test type_of (negation c) h = h

module _ (test : ColRef → Bool) (g : Premises) (pass : (k : Cond) → IsIn k g.conjuncts → each_column test k ≡ true) (items : (i : OrderItem) → IsIn i g.order → test i.col ≡ true) where
  equality_passes : (k : Cond) (e : Equality) → IsIn k g.conjuncts → equality_in g.type_of k ≡ Some e → (test e.left ≡ true) × Passes test e.right
  equality_passes k e i h =
      let q = equality_is g.type_of k e h in
      let both = and_parts (test e.left) (passes_column test e.right) (ap (each_column test) (sym q.is) ∙ pass k i) in
      (both.0, side_passes test e.right both.1)

  linked_passes : (f : Family) (x y : Operand) → Linked g f x y → (x ≡ y) ⊎ (Passes test x × Passes test y)
  linked_passes f x y (conjunct k c o i e) = let w = equality_passes k (equal_in c o f) (in_from_contains g.conjuncts k i) e in inr (w.0, w.1)
  linked_passes f x y (constant v w e) = inr (tt, tt)
  linked_passes f x y (same z) = inl refl
  linked_passes f x y (turned u v l) = ⊎_elim (λ e. inl (sym e)) (λ h. inr (h.1, h.0)) (linked_passes f u v l)
  linked_passes f x y (chain u v w l m) = ⊎_elim
      (λ (e : u ≡ v). ⊎_elim (λ (e' : v ≡ w). inl (e ∙ e')) (λ (h : Passes test v × Passes test w). inr (subst (Passes test) (sym e) h.0, h.1)) (linked_passes f v w m))
      (λ (h : Passes test u × Passes test v). ⊎_elim (λ (e' : v ≡ w). inr (h.0, subst (Passes test) e' h.1)) (λ (h' : Passes test v × Passes test w). inr (h.0, h'.1)) (linked_passes f v w m))
      (linked_passes f u v l)

  by_left : (m : Mention) (k : Cond) → IsIn k g.conjuncts → (o : Option Equality) → equality_in g.type_of k ≡ o → option_map left_of o ≡ Some m → test m.column ≡ true
  by_left m k i None e h = cc
  by_left m k i (Some q) e h = let is : left_of q ≡ m = same_Some (left_of q) m h in subst (λ (n : Mention). test n.column ≡ true) is (equality_passes k q i e).0

  by_item : (m : Mention) (item : OrderItem) → IsIn item g.order → (o : Option Family) → option_map (in_family item.col) o ≡ Some m → test m.column ≡ true
  by_item m item i None h = cc
  by_item m item i (Some f) h = let is : in_family item.col f ≡ m = same_Some (in_family item.col f) m h in subst (λ (n : Mention). test n.column ≡ true) is (items item i)

  mention_passes : (m : Mention) → IsIn m (mentions g) → test m.column ≡ true
  mention_passes m h = ⊎_elim
      (λ (i : IsIn m (filter_map (λ k. option_map left_of (equality_in g.type_of k)) g.conjuncts)).
      let w = in_filter_map (λ k. option_map left_of (equality_in g.type_of k)) g.conjuncts m i in
      by_left m w.0 w.1 (equality_in g.type_of w.0) refl w.2)
      (λ (i : IsIn m (filter_map (ordered_by g.type_of) g.order)).
      let w = in_filter_map (ordered_by g.type_of) g.order m i in
      by_item m w.0 w.1 (default_family_of (g.type_of (w.0).col)) w.2)
      (in_parts m (filter_map (λ k. option_map left_of (equality_in g.type_of k)) g.conjuncts) (filter_map (ordered_by g.type_of) g.order) h)

  column_same : (x y : ColRef) → Col x ≡ Col y → x ≡ y
  column_same x y h = cc

  module _ (classes : List Class) (are : AreClasses g classes) where
    pub member_passes : (c : Class) → IsIn c classes → (x : ColRef) → IsIn x c.members → test x ≡ true
    member_passes c i x ix =
        let w = position_found (is_in c) (mentions g) (all_at (λ e. first_mention g e < length (mentions g)) classes are.none_else c i) in
        let m : Mention = w.0 in
        let of = and_parts (is_family c.family m.family) (has_member c m.column) w.2 in
        let is = all_at (IsClass g) classes are.each c i in
        ⊎_elim
        (λ (e : Col m.column ≡ Col x). subst (λ (y : ColRef). test y ≡ true) (column_same m.column x e) (mention_passes m w.1))
        (λ (h : Passes test (Col m.column) × Passes test (Col x)). h.1)
        (linked_passes c.family (Col m.column) (Col x) ((is.joined m.column x of.1).0 (in_member c x ix)))

    pub clause_passes : (k : Clause) → IsIn k (clause_list g.type_of g.conjuncts classes) → each_column test k.cond ≡ true
    clause_passes = each_clause g.type_of g.conjuncts classes (λ e. each_column test e ≡ true)
        (λ k i. as_clause_passes test g.type_of k (pass k i))
        (λ c i x y ix iy. and_from _ _ (member_passes c i x ix) (member_passes c i y iy))
        (λ c i x v ix iv. and_from _ _ (member_passes c i x ix) refl)
