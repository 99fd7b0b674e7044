-- A condition on a key column as a bound of the key: it fits the key, and it is met where the condition is True.
use Rattle.std.proofs.Common.{◌≡◌, ◌⊎◌, ℕ, Bool, true, false, not, cond, ◌&&◌, ◌||◌, nat_eq, List, refl, sym, ap, ap₂, ◌∙◌, subst, ⊎_elim, inl, inr}
use Rattle.std.proofs.lemmas.Bool.{and_parts, true≢false, eqb-true}
use Rattle.pg_base.specs.declared.numbers.ColNo.{ColNo}
use Rattle.pg_value.specs.declared.operators.Op.{Op}
use Rattle.pg_value.specs.declared.operators.Op.TheVariants.{Lt, Le, Eq, Ge, Gt, Ne, AbsLt, AbsLe, AbsEq, AbsGe, AbsGt}
use Rattle.pg_value.specs.declared.value.SqlType.{SqlType}
use Rattle.pg_value.specs.declared.value.Value.{Value}
use Rattle.pg_value.specs.declared.value.Value.TheVariants.{Null, Int, Bool as Flag, Text as String}
use Rattle.pg_value.specs.work.Order.{IsOfFamily}
use Rattle.pg_value.specs.Truths.{is_true, AreComparable, commutator_of, truth_of_op}
use Rattle.pg_value.proofs.OrderLaws.{truth_exchanged}
use Rattle.opfamily.specs.KeyOrder.{key_family}
use Rattle.opfamily.specs.declared.classes.IndexKey.{IndexKey}
use Rattle.opfamily.specs.declared.classes.Method.TheVariants.{Btree}
use Rattle.pg_expr.specs.declared.operand.ColRef.{ColRef}
use Rattle.pg_expr.specs.declared.operand.Operand.{Operand}
use Rattle.pg_expr.specs.declared.operand.Operand.TheVariants.{Col, Lit}
use Rattle.pg_expr.specs.Cond.{Cond, compare, is_null, is_not_null, bool_col, const, all_of, any_of, negation}
use Rattle.pg_expr.specs.Truths.{truth_at, value_of}
use Rattle.pg_expr.specs.Typed.{some_value}
use Rattle.pg_expr.proofs.PushedLaws.{IsDefined, kinds_turned}
use Rattle.btree_index.specs.declared.bounds.Probe.{Probe}
use Rattle.btree_index.specs.declared.bounds.Probe.TheVariants.{Bound}
use Rattle.btree_index.specs.work.Bounds as tree
use Rattle.btree_index.specs.work.Bounds.{IsOn}
use Rattle.index_match.specs.Conditions.{has_key_form, is_key, is_key_side, is_family_operator, is_outside}
use Rattle.index_match.specs.Bounds.{is_fixing}
use Rattle.scan_probes.specs.work.Values.{Given, value_beside}
use Rattle.scan_probes.specs.work.Probes.{column_of, given_value, probe_of}
use Rattle.scan_probes.proofs.ProbeLemmas.{commutes, same_family}

equality_turned : (op : Op) → tree.is_equality (commutator_of op) ≡ tree.is_equality op
equality_turned Lt = refl
equality_turned Le = refl
equality_turned Eq = refl
equality_turned Ge = refl
equality_turned Gt = refl
equality_turned Ne = refl
equality_turned AbsLt = refl
equality_turned AbsLe = refl
equality_turned AbsEq = refl
equality_turned AbsGe = refl
equality_turned AbsGt = refl

fixing_is : (op : Op) (a b : Operand) → tree.is_equality op ≡ is_fixing (compare op a b)
fixing_is Lt a b = refl
fixing_is Le a b = refl
fixing_is Eq a b = refl
fixing_is Ge a b = refl
fixing_is Gt a b = refl
fixing_is Ne a b = refl
fixing_is AbsLt a b = refl
fixing_is AbsLe a b = refl
fixing_is AbsEq a b = refl
fixing_is AbsGe a b = refl
fixing_is AbsGt a b = refl

null_true : (v : Value) → tree.is_null_value v ≡ is_true (truth_at (λ x. v) (is_null (record { rel = record { 0 = 0 }; col = record { 0 = 0 } })))
null_true Null = refl
null_true (Int n) = refl
null_true (Flag b) = refl
null_true (String t) = refl

not_null_true : (v : Value) → not (tree.is_null_value v) ≡ is_true (truth_at (λ x. v) (is_not_null (record { rel = record { 0 = 0 }; col = record { 0 = 0 } })))
not_null_true Null = refl
not_null_true (Int n) = refl
not_null_true (Flag b) = refl
not_null_true (String t) = refl

module _ (r : ℕ) (k : IndexKey) (given : Given) where
  key_read : (own : ColNo → Value) (x : ColRef) → is_key r k x ≡ true → value_beside r own given x ≡ own k.col
  key_read own x h =
      let parts = and_parts (nat_eq x.rel.0 r) (nat_eq x.col.0 k.col.0) h in
      ap (λ (b : Bool). cond b (own x.col) (given_value given x)) parts.0 ∙ ap (λ (n : ℕ). own (record { 0 = n })) (eqb-true x.col.0 k.col.0 parts.1)

  key_side : (own : ColNo → Value) (o : Operand) → is_key_side r k o ≡ true → value_of (value_beside r own given) o ≡ own k.col
  key_side own (Col x) h = key_read own x h
  key_side own (Lit v) h = absurd (true≢false (sym h))

  outside : (own : ColNo → Value) (o : Operand) → is_outside r o ≡ true → value_of (value_beside r own given) o ≡ value_of (given_value given) o
  outside own (Lit v) h = refl
  outside own (Col x) h = ap (λ (b : Bool). cond b (own x.col) (given_value given x)) (turned (nat_eq x.rel.0 r) h)
    where
      turned : (b : Bool) → not b ≡ true → b ≡ false
      turned true h = absurd (true≢false (sym h))
      turned false h = refl

  -- which side the column is on
  sides : (op : Op) (a b : Operand) → has_key_form Btree r k (compare op a b) ≡ true →
      ((is_key_side r k a && is_outside r b) ≡ true) ⊎ (((is_key_side r k a && is_outside r b) ≡ false) × ((is_outside r a && is_key_side r k b) ≡ true))
  sides op a b h = by (is_key_side r k a && is_outside r b) (is_outside r a && is_key_side r k b) (and_parts (is_family_operator Btree k op) _ h).1
    where
      by : (x y : Bool) → x || y ≡ true → (x ≡ true) ⊎ ((x ≡ false) × (y ≡ true))
      by true y h = inl refl
      by false y h = inr (refl, h)

  module _ (column : ℕ) where
    abbrev bound : Op → Operand → Probe
    bound op o = Bound (record { col = column; op = op; value = value_of (given_value given) o })

    -- what is shown of either side is shown of the bound
    on_side : (P : Probe → Type 0) (op : Op) (a b : Operand) → has_key_form Btree r k (compare op a b) ≡ true
        → (is_key_side r k a ≡ true → is_outside r b ≡ true → P (bound op b)) → (is_outside r a ≡ true → is_key_side r k b ≡ true → P (bound (commutator_of op) a))
        → P (probe_of r k column given (compare op a b))
    on_side P op a b h left right = ⊎_elim
        (λ (t : (is_key_side r k a && is_outside r b) ≡ true).
        let parts = and_parts (is_key_side r k a) (is_outside r b) t in
        subst (λ (x : Bool). P (cond x (bound op b) (bound (commutator_of op) a))) (sym t) (left parts.0 parts.1))
        (λ (t : ((is_key_side r k a && is_outside r b) ≡ false) × ((is_outside r a && is_key_side r k b) ≡ true)).
        let parts = and_parts (is_outside r a) (is_key_side r k b) t.1 in
        subst (λ (x : Bool). P (cond x (bound op b) (bound (commutator_of op) a))) (sym t.0) (right parts.0 parts.1))
        (sides op a b h)

    pub fixes : (e : Cond) → has_key_form Btree r k e ≡ true → tree.fixes_column (probe_of r k column given e) ≡ is_fixing e
    fixes (compare op a b) h = on_side (λ p. tree.fixes_column p ≡ is_fixing (compare op a b)) op a b h (λ x y. fixing_is op a b) (λ x y. equality_turned op ∙ fixing_is op a b)
    fixes (is_null x) h = refl
    fixes (is_not_null x) h = refl
    fixes (bool_col x) h = absurd (true≢false (sym h))
    fixes (const t) h = absurd (true≢false (sym h))
    fixes (all_of cs) h = absurd (true≢false (sym h))
    fixes (any_of cs) h = absurd (true≢false (sym h))
    fixes (negation c) h = absurd (true≢false (sym h))

    -- a bound stands on the key's column
    module _ (type_of : ColRef → SqlType) (key : IsOfFamily (key_family k) (some_value (type_of (column_of r k.col)))) where
      sample : ColNo → Value
      sample c = some_value (type_of (column_of r c))

      pub stands : (e : Cond) → has_key_form Btree r k e ≡ true → IsDefined (value_beside r (λ c. some_value (type_of (column_of r c))) given) e → IsOn column k (probe_of r k column given e)
      stands (compare op a b) h defined =
          let values = value_beside r (λ c. some_value (type_of (column_of r c))) given in
          let member = (and_parts (is_family_operator Btree k op) _ h).0 in
          on_side (IsOn column k) op a b h
          (λ ka ob.
          let both : AreComparable op (some_value (type_of (column_of r k.col))) (value_of (given_value given) b) =
          subst (λ (v : Value). AreComparable op v (value_of (given_value given) b)) (key_side (λ c. some_value (type_of (column_of r c))) a ka)
          (subst (λ (v : Value). AreComparable op (value_of values a) v) (outside (λ c. some_value (type_of (column_of r c))) b ob) defined) in
          record { column_is = refl; fits = (member, same_family (key_family k) (type_of (column_of r k.col)) (value_of (given_value given) b) key both.2) })
          (λ oa kb.
          let both : AreComparable op (value_of (given_value given) a) (some_value (type_of (column_of r k.col))) =
          subst (λ (v : Value). AreComparable op v (some_value (type_of (column_of r k.col)))) (outside (λ c. some_value (type_of (column_of r c))) a oa)
          (subst (λ (v : Value). AreComparable op (value_of values a) v) (key_side (λ c. some_value (type_of (column_of r c))) b kb) defined) in
          record { column_is = refl; fits = (commutes (key_family k) op member, same_family (key_family k) (type_of (column_of r k.col)) (value_of (given_value given) a) key (kinds_turned (value_of (given_value given) a) (some_value (type_of (column_of r k.col))) both.2)) })
      stands (is_null x) h defined = record { column_is = refl; fits = tt }
      stands (is_not_null x) h defined = record { column_is = refl; fits = tt }
      stands (bool_col x) h defined = absurd (true≢false (sym h))
      stands (const t) h defined = absurd (true≢false (sym h))
      stands (all_of cs) h defined = absurd (true≢false (sym h))
      stands (any_of cs) h defined = absurd (true≢false (sym h))
      stands (negation c) h defined = absurd (true≢false (sym h))

    -- key values with the column's own meet it where the condition is True
    module _ (own : ColNo → Value) (vs : List Value) (at : tree.key_value_at vs column ≡ own k.col) where
      pub meets_true : (e : Cond) → has_key_form Btree r k e ≡ true → IsDefined (value_beside r own given) e → tree.meets (probe_of r k column given e) vs ≡ is_true (truth_at (value_beside r own given) e)
      meets_true (compare op a b) h defined =
          let values = value_beside r own given in
          on_side (λ p. tree.meets p vs ≡ is_true (truth_of_op op (value_of values a) (value_of values b))) op a b h
          (λ ka ob. ap₂ (λ (v w : Value). is_true (truth_of_op op v w)) (at ∙ sym (key_side own a ka)) (sym (outside own b ob)))
          (λ oa kb. ap₂ (λ (v w : Value). is_true (truth_of_op (commutator_of op) v w)) (at ∙ sym (key_side own b kb)) (sym (outside own a oa))
          ∙ ap is_true (truth_exchanged op (value_of values a) (value_of values b) defined))
      meets_true (is_null x) h defined =
          ap tree.is_null_value (at ∙ sym (key_read own x (and_parts true (is_key r k x) h).1)) ∙ null_true (value_beside r own given x)
      meets_true (is_not_null x) h defined =
          ap (λ (v : Value). not (tree.is_null_value v)) (at ∙ sym (key_read own x (and_parts true (is_key r k x) h).1)) ∙ not_null_true (value_beside r own given x)
      meets_true (bool_col x) h defined = absurd (true≢false (sym h))
      meets_true (const t) h defined = absurd (true≢false (sym h))
      meets_true (all_of cs) h defined = absurd (true≢false (sym h))
      meets_true (any_of cs) h defined = absurd (true≢false (sym h))
      meets_true (negation c) h defined = absurd (true≢false (sym h))
