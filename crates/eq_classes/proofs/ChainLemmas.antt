-- The truth of a conjunct, as an equality conjunct or as a clause; and along a chain of true ones values are equal.
use Rattle.std.proofs.Common.{◌≡◌, true, false, ◌&&◌, ◌⊎◌, inl, inr, ⊎_elim, All, Some, is_some, refl, sym, ap, ◌∙◌, subst}
use Rattle.std.proofs.lemmas.Bool.{cases_Bool, and_parts, and_from}
use Rattle.opfamily.specs.pg_value_operators_Family.{Family}
use Rattle.opfamily.specs.pg_value_operators_Op.{Op}
use Rattle.opfamily.specs.pg_value_value_SqlType.{SqlType}
use Rattle.opfamily.specs.pg_value_value_Value.{Value}
use Rattle.opfamily.specs.pg_value_Truths.{is_true, truth_of_op}
use Rattle.pg_expr.specs.declared.operand.ColRef.{ColRef}
use Rattle.pg_expr.specs.declared.operand.Operand.{Operand}
use Rattle.pg_expr.specs.declared.operand.Operand.TheVariants.{Col, Lit}
use Rattle.pg_expr.specs.Cond.{Cond, compare, is_null, is_not_null, bool_col, const, all_of, any_of, negation}
use Rattle.pg_expr.specs.Truths.{value_of, truth_at}
use Rattle.pg_expr.specs.Typed.{IsTyped}
use Rattle.eq_classes.specs.Equality.{Equality, equal_in, equality_in, equality_family, is_column, are_equal, as_clause}
use Rattle.eq_classes.specs.Classes.{Premises, Linked, conjunct, constant, same, turned, chain}
use Rattle.eq_classes.specs.Clauses.{Set}
use Rattle.eq_classes.specs.Parts.{is_inside}
use Rattle.eq_classes.specs.work.Holding.{Fits}
use Rattle.eq_classes.proofs.ListLemmas.{IsIn, in_from_contains, all_at}
use Rattle.eq_classes.proofs.EqualLemmas.{column_is, truth_equal, truth_self, equal_sym, equal_trans}
use Rattle.eq_classes.proofs.SideLemmas.{equality_is, family_operator, left_fits, right_fits}

-- `x = x` is true exactly where x is not NULL
module _ (type_of : ColRef → SqlType) (b : ColRef → Value) where
  own_truth : (op : Op) (c d : ColRef) → is_column c d && is_some (equality_family op (type_of c)) ≡ true → is_true (truth_at b (is_not_null c)) ≡ is_true (truth_at b (compare op (Col c) (Col d)))
  own_truth op c d h =
      let parts = and_parts (is_column c d) (is_some (equality_family op (type_of c))) h in
      sym (truth_self op (type_of c) parts.1 (b c)) ∙ ap (λ (e : ColRef). is_true (truth_of_op op (b c) (b e))) (column_is c d parts.0)

  pub as_truth : (k : Cond) → is_true (truth_at b (as_clause type_of k)) ≡ is_true (truth_at b k)
  as_truth (compare op (Col c) (Col d)) = ⊎_elim
      (λ (t : is_column c d && is_some (equality_family op (type_of c)) ≡ true). rw t (own_truth op c d t))
      (λ (t : is_column c d && is_some (equality_family op (type_of c)) ≡ false). rw t refl)
      (cases_Bool (is_column c d && is_some (equality_family op (type_of c))))
  as_truth (compare op (Col c) (Lit v)) = refl
  as_truth (compare op (Lit v) o) = refl
  as_truth (is_null c) = refl
  as_truth (is_not_null c) = refl
  as_truth (bool_col c) = refl
  as_truth (const t) = refl
  as_truth (all_of cs) = refl
  as_truth (any_of cs) = refl
  as_truth (negation c) = refl

  own_inside : (set : Set) (op : Op) (c d : ColRef) → is_inside set (compare op (Col c) (Col d)) ≡ true → is_inside set (is_not_null c) ≡ true
  own_inside set op c d h =
      let parts = and_parts (set c.rel.0 && set d.rel.0) true h in
      and_from _ _ (and_parts (set c.rel.0) (set d.rel.0) parts.0).0 refl

  pub as_inside : (set : Set) (k : Cond) → is_inside set k ≡ true → is_inside set (as_clause type_of k) ≡ true
  as_inside set (compare op (Col c) (Col d)) h = ⊎_elim
      (λ (t : is_column c d && is_some (equality_family op (type_of c)) ≡ true). rw t (own_inside set op c d h))
      (λ (t : is_column c d && is_some (equality_family op (type_of c)) ≡ false). rw t h)
      (cases_Bool (is_column c d && is_some (equality_family op (type_of c))))
  as_inside set (compare op (Col c) (Lit v)) h = h
  as_inside set (compare op (Lit v) o) h = h
  as_inside set (is_null c) h = h
  as_inside set (is_not_null c) h = h
  as_inside set (bool_col c) h = h
  as_inside set (const t) h = h
  as_inside set (all_of cs) h = h
  as_inside set (any_of cs) h = h
  as_inside set (negation c) h = h

module _ (g : Premises) (b : ColRef → Value) (typed : All (IsTyped g.type_of) g.conjuncts) (fits : Fits g.type_of b) where
  -- an equality conjunct is true exactly where its sides are equal in its family
  pub conjunct_truth : (k : Cond) (e : Equality) → IsIn k g.conjuncts → equality_in g.type_of k ≡ Some e → is_true (truth_at b k) ≡ are_equal e.family (b e.left) (value_of b e.right)
  conjunct_truth k e i h =
      let q = equality_is g.type_of k e h in
      let t = all_at (IsTyped g.type_of) g.conjuncts typed k i in
      ap (λ (c : Cond). is_true (truth_at b c)) q.is
      ∙ ap (λ (op : Op). is_true (truth_of_op op (b e.left) (value_of b e.right))) (family_operator q.op (g.type_of e.left) e.family q.family)
      ∙ truth_equal e.family (b e.left) (value_of b e.right) (left_fits g.type_of b fits k e h t) (right_fits g.type_of b fits k e h t)

  pub linked_equal : ((k : Cond) → IsIn k g.conjuncts → is_true (truth_at b k) ≡ true) → (f : Family) (x y : Operand) → Linked g f x y → (x ≡ y) ⊎ (are_equal f (value_of b x) (value_of b y) ≡ true)
  linked_equal true_at f x y (conjunct k c o i e) =
      let ik = in_from_contains g.conjuncts k i in
      inr (sym (conjunct_truth k (equal_in c o f) ik e) ∙ true_at k ik)
  linked_equal true_at f x y (constant v w e) = inr e
  linked_equal true_at f x y (same z) = inl refl
  linked_equal true_at f x y (turned u v l) = ⊎_elim (λ e. inl (sym e)) (λ h. inr (equal_sym f (value_of b u) (value_of b v) h)) (linked_equal true_at f u v l)
  linked_equal true_at f x y (chain u v w l m) = ⊎_elim
      (λ (e : u ≡ v). ⊎_elim
      (λ (e' : v ≡ w). inl (e ∙ e'))
      (λ (h : are_equal f (value_of b v) (value_of b w) ≡ true). inr (subst (λ (z : Operand). are_equal f (value_of b z) (value_of b w) ≡ true) (sym e) h))
      (linked_equal true_at f v w m))
      (λ (h : are_equal f (value_of b u) (value_of b v) ≡ true). ⊎_elim
      (λ (e' : v ≡ w). inr (subst (λ (z : Operand). are_equal f (value_of b u) (value_of b z) ≡ true) e' h))
      (λ (h' : are_equal f (value_of b v) (value_of b w) ≡ true). inr (equal_trans f (value_of b u) (value_of b v) (value_of b w) h h'))
      (linked_equal true_at f v w m))
      (linked_equal true_at f u v l)
