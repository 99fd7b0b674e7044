-- Tests of the columns that a condition names.
use Rattle.std.proofs.Common.{◌≡◌, ℕ, refl, ap, ◌∙◌, Bool, true, false, ◌||◌, nat_eq, IsTrue}
use Rattle.std.proofs.lemmas.Bool.{and_parts, and_from, eq-eqb, or_right}
use Rattle.pg_value.specs.declared.operators.Truth.{Truth}
use Rattle.pg_value.specs.declared.value.Value.{Value}
use Rattle.pg_value.specs.Truths.{both, either, opposite, truth_of_op}
use Rattle.pg_expr.specs.declared.operand.ColRef.{ColRef}
use Rattle.pg_expr.specs.declared.operand.Operand.{Operand}
use Rattle.pg_expr.specs.declared.operand.Operand.TheVariants.{Col, Lit}
use Rattle.pg_expr.specs.Cond.{Cond, compare, is_null, is_not_null, bool_col, const, all_of, any_of, negation, Conds, no_conds, cond_and}
use Rattle.pg_expr.specs.Columns.{names_column, some_column_of, passes_column, each_column, each_column_of, names_rel}
use Rattle.pg_expr.specs.Truths.{value_of, truth_of_null, truth_of_flag, truth_at, truth_of_all, truth_of_any}

or_left : (x y : Bool) → x ≡ true → x || y ≡ true
or_left true y e = refl
or_left false y e = cc

-- where each relation that a condition names passes, each of its columns does
module _ (test : ℕ → Bool) where
  inside-side : (o : Operand) → ((k : ℕ) → IsTrue (names_column (λ c. nat_eq k c.rel.0) o) → IsTrue (test k)) → IsTrue (passes_column (λ c. test c.rel.0) o)
  inside-side (Col c) h = h c.rel.0 (eq-eqb c.rel.0 c.rel.0 refl)
  inside-side (Lit v) h = refl

  mutual
    pub inside-each : (c : Cond) → ((k : ℕ) → IsTrue (names_rel k c) → IsTrue (test k)) → IsTrue (each_column (λ x. test x.rel.0) c)
    inside-each (compare op l r) h = and_from _ _ (inside-side l (λ k e. h k (or_left _ _ e))) (inside-side r (λ k e. h k (or_right _ _ e)))
    inside-each (is_null c) h = h c.rel.0 (eq-eqb c.rel.0 c.rel.0 refl)
    inside-each (is_not_null c) h = h c.rel.0 (eq-eqb c.rel.0 c.rel.0 refl)
    inside-each (bool_col c) h = h c.rel.0 (eq-eqb c.rel.0 c.rel.0 refl)
    inside-each (const t) h = refl
    inside-each (all_of cs) h = inside-each_of cs h
    inside-each (any_of cs) h = inside-each_of cs h
    inside-each (negation c) h = inside-each c h

    inside-each_of : (cs : Conds) → ((k : ℕ) → IsTrue (some_column_of (λ c. nat_eq k c.rel.0) cs) → IsTrue (test k)) → IsTrue (each_column_of (λ x. test x.rel.0) cs)
    inside-each_of no_conds h = refl
    inside-each_of (cond_and c cs) h =
        and_from _ _ (inside-each c (λ k e. h k (or_left (names_rel k c) (some_column_of (λ x. nat_eq k x.rel.0) cs) e)))
        (inside-each_of cs (λ k e. h k (or_right (names_rel k c) (some_column_of (λ x. nat_eq k x.rel.0) cs) e)))

-- a column that is named passes each test that all pass
module _ (test other : ColRef → Bool) (weaker : (c : ColRef) → IsTrue (test c) → IsTrue (other c)) where
  weaker-side : (o : Operand) → IsTrue (passes_column test o) → IsTrue (passes_column other o)
  weaker-side (Col c) h = weaker c h
  weaker-side (Lit v) h = refl

  mutual
    pub weaker-each : (c : Cond) → IsTrue (each_column test c) → IsTrue (each_column other c)
    weaker-each (compare op l r) h =
        let sides = and_parts (passes_column test l) (passes_column test r) h in
        and_from _ _ (weaker-side l sides.0) (weaker-side r sides.1)
    weaker-each (is_null c) h = weaker c h
    weaker-each (is_not_null c) h = weaker c h
    weaker-each (bool_col c) h = weaker c h
    weaker-each (const t) h = refl
    weaker-each (all_of cs) h = weaker-each_of cs h
    weaker-each (any_of cs) h = weaker-each_of cs h
    weaker-each (negation c) h = weaker-each c h

    weaker-each_of : (cs : Conds) → IsTrue (each_column_of test cs) → IsTrue (each_column_of other cs)
    weaker-each_of no_conds h = refl
    weaker-each_of (cond_and c cs) h =
        let parts = and_parts (each_column test c) (each_column_of test cs) h in
        and_from _ _ (weaker-each c parts.0) (weaker-each_of cs parts.1)

-- the truth of a condition depends on the columns that it names
module _ (test : ColRef → Bool) (a b : ColRef → Value) (agree : (c : ColRef) → IsTrue (test c) → a c ≡ b c) where
  agree-side : (o : Operand) → IsTrue (passes_column test o) → value_of a o ≡ value_of b o
  agree-side (Col c) h = agree c h
  agree-side (Lit v) h = refl

  mutual
    pub agree-truth : (c : Cond) → IsTrue (each_column test c) → truth_at a c ≡ truth_at b c
    agree-truth (compare op l r) h =
        let sides = and_parts (passes_column test l) (passes_column test r) h in
        ap (λ (v : Value). truth_of_op op v (value_of a r)) (agree-side l sides.0) ∙ ap (truth_of_op op (value_of b l)) (agree-side r sides.1)
    agree-truth (is_null c) h = ap truth_of_null (agree c h)
    agree-truth (is_not_null c) h = ap (λ (v : Value). opposite (truth_of_null v)) (agree c h)
    agree-truth (bool_col c) h = ap truth_of_flag (agree c h)
    agree-truth (const t) h = refl
    agree-truth (all_of cs) h = agree-all cs h
    agree-truth (any_of cs) h = agree-any cs h
    agree-truth (negation c) h = ap opposite (agree-truth c h)

    agree-all : (cs : Conds) → IsTrue (each_column_of test cs) → truth_of_all a cs ≡ truth_of_all b cs
    agree-all no_conds h = refl
    agree-all (cond_and c cs) h =
        let parts = and_parts (each_column test c) (each_column_of test cs) h in
        ap (λ (t : Truth). both t (truth_of_all a cs)) (agree-truth c parts.0) ∙ ap (both (truth_at b c)) (agree-all cs parts.1)

    agree-any : (cs : Conds) → IsTrue (each_column_of test cs) → truth_of_any a cs ≡ truth_of_any b cs
    agree-any no_conds h = refl
    agree-any (cond_and c cs) h =
        let parts = and_parts (each_column test c) (each_column_of test cs) h in
        ap (λ (t : Truth). either t (truth_of_any a cs)) (agree-truth c parts.0) ∙ ap (either (truth_at b c)) (agree-any cs parts.1)
