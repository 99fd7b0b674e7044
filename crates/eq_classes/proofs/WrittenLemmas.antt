-- The conjuncts of conditions as written have their truth, types, columns and atoms.
use Rattle.std.proofs.Common.{◌≡◌, ◌≤◌, ℕ, Bool, true, false, ◌&&◌, inl, inr, ⊎_elim, List, [], ◌∷◌, All, refl, sym, ap, ◌∙◌, subst, arith}
use Rattle.std.proofs.lemmas.Bool.{and_parts, and_from, or_right}
use Rattle.opfamily.specs.pg_value_operators_Truth.{Truth}
use Rattle.opfamily.specs.pg_value_operators_Truth_TheVariants.{True, False, Unknown}
use Rattle.opfamily.specs.pg_value_value_SqlType.{SqlType}
use Rattle.opfamily.specs.pg_value_value_Value.{Value}
use Rattle.opfamily.specs.pg_value_Truths.{is_true, both}
use Rattle.pg_expr.specs.declared.operand.ColRef.{ColRef}
use Rattle.pg_expr.specs.declared.operand.Operand.{Operand}
use Rattle.pg_expr.specs.declared.operand.Operand.TheVariants.{Col, Lit}
use Rattle.pg_expr.specs.Cond.{Cond, compare, is_null, is_not_null, bool_col, const, all_of, any_of, negation, Conds, no_conds, cond_and, conds_of}
use Rattle.pg_expr.specs.Columns.{atom_count, atom_count_of, passes_column, each_column, each_column_of}
use Rattle.pg_expr.specs.Conjuncts.{conjuncts_of}
use Rattle.pg_expr.specs.Pushed.{pushed}
use Rattle.pg_expr.specs.Truths.{truth_at, truth_of_all}
use Rattle.pg_expr.specs.Typed.{IsTyped, AreTyped}
use Rattle.pg_expr.proofs.DefinedLaws.{pushed-same_truth}
use Rattle.pg_expr.proofs.KeptLaws.{pushed-atoms, pushed-typed, pushed-each, conjuncts-atoms, conjuncts-typed, conjuncts-each, conjuncts-truth}
use Rattle.eq_classes.specs.Classes.{listed, conjuncts_in}
use Rattle.eq_classes.specs.Clauses.{Set}
use Rattle.eq_classes.specs.Parts.{has_column, is_inside}
use Rattle.eq_classes.specs.work.Holding.{Fits}
use Rattle.eq_classes.proofs.ListLemmas.{IsIn, all_at, all_from}
use Rattle.eq_classes.proofs.HoldLemmas.{in_flat_map, flat_map_in}
use Rattle.eq_classes.proofs.ClasswiseLemmas.{same_truth}

pub is_true-both : (s t : Truth) → is_true (both s t) ≡ is_true s && is_true t
is_true-both True t = refl
is_true-both False t = refl
is_true-both Unknown True = refl
is_true-both Unknown False = refl
is_true-both Unknown Unknown = refl

module _ (b : ColRef → Value) where
  pub each_true : (ks : List Cond) → is_true (truth_of_all b (conds_of ks)) ≡ true → (k : Cond) → IsIn k ks → is_true (truth_at b k) ≡ true
  each_true [] h k i = absurd i
  each_true (z ∷ zs) h k i =
      let parts = and_parts (is_true (truth_at b z)) (is_true (truth_of_all b (conds_of zs))) (sym (is_true-both (truth_at b z) (truth_of_all b (conds_of zs))) ∙ h) in
      ⊎_elim (λ (e : k ≡ z). ap (λ (c : Cond). is_true (truth_at b c)) e ∙ parts.0) (λ (later : IsIn k zs). each_true zs parts.1 k later) i

  pub true_each : (ks : List Cond) → ((k : Cond) → IsIn k ks → is_true (truth_at b k) ≡ true) → is_true (truth_of_all b (conds_of ks)) ≡ true
  true_each [] h = refl
  true_each (z ∷ zs) h = is_true-both (truth_at b z) (truth_of_all b (conds_of zs)) ∙ and_from _ _ (h z (inl refl)) (true_each zs (λ k i. h k (inr i)))

  listed_true : (cs : Conds) → is_true (truth_of_all b cs) ≡ true → (k : Cond) → IsIn k (listed cs) → is_true (truth_at b k) ≡ true
  listed_true no_conds h k i = absurd i
  listed_true (cond_and z zs) h k i =
      let parts = and_parts (is_true (truth_at b z)) (is_true (truth_of_all b zs)) (sym (is_true-both (truth_at b z) (truth_of_all b zs)) ∙ h) in
      ⊎_elim (λ (e : k ≡ z). ap (λ (c : Cond). is_true (truth_at b c)) e ∙ parts.0) (λ (later : IsIn k (listed zs)). listed_true zs parts.1 k later) i

  true_listed : (cs : Conds) → ((k : Cond) → IsIn k (listed cs) → is_true (truth_at b k) ≡ true) → is_true (truth_of_all b cs) ≡ true
  true_listed no_conds h = refl
  true_listed (cond_and z zs) h = is_true-both (truth_at b z) (truth_of_all b zs) ∙ and_from _ _ (h z (inl refl)) (true_listed zs (λ k i. h k (inr i)))

listed_typed : (t : ColRef → SqlType) (cs : Conds) → AreTyped t cs → (k : Cond) → IsIn k (listed cs) → IsTyped t k
listed_typed t no_conds h k i = absurd i
listed_typed t (cond_and z zs) h k i = ⊎_elim (λ (e : k ≡ z). subst (IsTyped t) (sym e) h.0) (λ (later : IsIn k (listed zs)). listed_typed t zs h.1 k later) i

listed_each : (test : ColRef → Bool) (cs : Conds) → each_column_of test cs ≡ true → (k : Cond) → IsIn k (listed cs) → each_column test k ≡ true
listed_each test no_conds h k i = absurd i
listed_each test (cond_and z zs) h k i =
    let parts = and_parts (each_column test z) (each_column_of test zs) h in
    ⊎_elim (λ (e : k ≡ z). ap (each_column test) e ∙ parts.0) (λ (later : IsIn k (listed zs)). listed_each test zs parts.1 k later) i

listed_atoms : (cs : Conds) → (k : Cond) → IsIn k (listed cs) → atom_count k ≤ atom_count_of cs
listed_atoms no_conds k i = absurd i
listed_atoms (cond_and z zs) k i = ⊎_elim
    (λ (e : k ≡ z). let same = ap atom_count e in omega (arith, same))
    (λ (later : IsIn k (listed zs)). let rest = listed_atoms zs k later in omega (arith, rest))
    i

any_side : (o : Operand) → passes_column (λ x. true) o ≡ true
any_side (Col c) = refl
any_side (Lit v) = refl

mutual
  any_column : (e : Cond) → each_column (λ x. true) e ≡ true
  any_column (compare op l r) = and_from _ _ (any_side l) (any_side r)
  any_column (is_null c) = refl
  any_column (is_not_null c) = refl
  any_column (bool_col c) = refl
  any_column (const t) = refl
  any_column (all_of cs) = any_columns cs
  any_column (any_of cs) = any_columns cs
  any_column (negation c) = any_column c

  any_columns : (cs : Conds) → each_column_of (λ x. true) cs ≡ true
  any_columns no_conds = refl
  any_columns (cond_and c cs) = and_from _ _ (any_column c) (any_columns cs)

-- the conjuncts of one condition
abbrev parts_of_one : Cond → List Cond
parts_of_one w = listed (conjuncts_of (pushed false w))

-- the columns of the conjuncts pass a test where those of the conditions do
pub in_columns : (ws : List Cond) (test : ColRef → Bool) → All (λ w. each_column test w ≡ true) ws → All (λ k. each_column test k ≡ true) (conjuncts_in ws)
in_columns ws test each = all_from (λ k. each_column test k ≡ true) (conjuncts_in ws) (λ k i.
    let w = in_flat_map parts_of_one ws k i in
    listed_each test (conjuncts_of (pushed false w.0)) (conjuncts-each test (pushed false w.0) ∙ pushed-each test false w.0 ∙ all_at (λ v. each_column test v ≡ true) ws each w.0 w.1) k w.2)

-- no conjunct has more atoms than a condition
pub in_atoms : (ws : List Cond) (most : ℕ) → All (λ w. atom_count w ≤ most) ws → All (λ k. atom_count k ≤ most) (conjuncts_in ws)
in_atoms ws most few = all_from (λ k. atom_count k ≤ most) (conjuncts_in ws) (λ k i.
    let w = in_flat_map parts_of_one ws k i in
    let same = conjuncts-atoms (pushed false w.0) ∙ pushed-atoms false w.0 in
    let here = all_at (λ v. atom_count v ≤ most) ws few w.0 w.1 in
    let part = listed_atoms (conjuncts_of (pushed false w.0)) k w.2 in
    omega (arith, same, here, part))

module _ (t : ColRef → SqlType) (ws : List Cond) (typed : All (IsTyped t) ws) where
  pub in_typed : All (IsTyped t) (conjuncts_in ws)
  in_typed = all_from (IsTyped t) (conjuncts_in ws) (λ k i.
      let w = in_flat_map parts_of_one ws k i in
      listed_typed t (conjuncts_of (pushed false w.0)) (conjuncts-typed t (pushed false w.0) (pushed-typed t false w.0 (all_at (IsTyped t) ws typed w.0 w.1))) k w.2)

  pub in_inside : (set : Set) → set 0 ≡ true → All (λ w. each_column (λ x. set x.rel.0) w ≡ true) ws → (k : Cond) → IsIn k (conjuncts_in ws) → is_inside set k ≡ true
  in_inside set zero_in each k i =
      and_from _ _
      (all_at (λ e. each_column (λ x. set x.rel.0) e ≡ true) (conjuncts_in ws) (in_columns ws (λ x. set x.rel.0) each) k i)
      (or_right (has_column k) (set 0) zero_in)

  module _ (b : ColRef → Value) (fits : Fits t b) where
    one_truth : (w : Cond) → IsTyped t w → truth_of_all b (conjuncts_of (pushed false w)) ≡ truth_at b w
    one_truth w is = conjuncts-truth b (pushed false w) ∙ pushed-same_truth w t (λ x. true) b is (any_column w) (λ c bound. fits c)

    pub in_truth : is_true (truth_of_all b (conds_of (conjuncts_in ws))) ≡ is_true (truth_of_all b (conds_of ws))
    in_truth = same_truth _ _
        (λ h. true_each b ws (λ w iw. ap is_true (sym (one_truth w (all_at (IsTyped t) ws typed w iw))) ∙ true_listed b (conjuncts_of (pushed false w)) (λ k i. each_true b (conjuncts_in ws) h k (flat_map_in parts_of_one ws w k iw i))))
        (λ h. true_each b (conjuncts_in ws) (λ k i.
        let w = in_flat_map parts_of_one ws k i in
        listed_true b (conjuncts_of (pushed false w.0)) (ap is_true (one_truth w.0 (all_at (IsTyped t) ws typed w.0 w.1)) ∙ each_true b ws h w.0 w.1) k w.2))
