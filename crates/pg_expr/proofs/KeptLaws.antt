-- What the pushed form and the conjuncts of a condition keep: its types, its columns, its atoms.
use Rattle.std.proofs.Common.{◌≡◌, ℕ, ◌+◌, refl, ap, sym, ◌∙◌, Bool, true, false, not, cond, ◌||◌, ◌&&◌, Option, None, Some, arith}
use Rattle.std.proofs.Math.Bool.{or_comm, or-false, or_assoc}
use Rattle.pg_value.specs.declared.operators.Op.{Op}
use Rattle.pg_value.specs.declared.value.Value.{Value}
use Rattle.pg_value.specs.declared.value.SqlType.{SqlType}
use Rattle.pg_value.specs.Truths.{both, negator_of, commutator_of, is_absolute}
use Rattle.pg_value.proofs.OrderLaws.{absolute_alike}
use Rattle.pg_expr.specs.declared.operand.ColRef.{ColRef}
use Rattle.pg_expr.specs.declared.operand.Operand.{Operand}
use Rattle.pg_expr.specs.declared.operand.Operand.TheVariants.{Col, Lit}
use Rattle.pg_expr.specs.Cond.{Cond, compare, is_null, is_not_null, bool_col, const, all_of, any_of, negation, Conds, no_conds, cond_and, joined}
use Rattle.pg_expr.specs.Columns.{names_column, some_column, some_column_of, passes_column, each_column, each_column_of, atom_count, atom_count_of}
use Rattle.pg_expr.specs.Conjuncts.{conjuncts_of, conjuncts_of_all}
use Rattle.pg_expr.specs.Truths.{value_of, truth_at, truth_of_all}
use Rattle.pg_expr.specs.Typed.{some_value, AreAlike, IsComparison, IsTyped, AreTyped}
use Rattle.pg_expr.specs.Pushed.{is_turned, placed, placed_not, group_of, parts_of, pushed, pushed_parts}
use Rattle.pg_expr.proofs.TruthLaws.{negator-opposes, both-True, truth_of_all-joined}
use Rattle.pg_expr.proofs.PushedLaws.{comparable-negator, comparable-commutator}

-- the types of columns
module _ (t : ColRef → SqlType) where
  abbrev sample : Operand → Value
  sample = value_of (λ c. some_value (t c))

  alike-turned : (l r : Operand) → AreAlike t l r → AreAlike t r l
  alike-turned (Col c) (Col d) h = sym h
  alike-turned (Col c) (Lit v) h = tt
  alike-turned (Lit v) (Col c) h = tt
  alike-turned (Lit v) (Lit w) h = tt

  -- the sides in the other order, and an operator that asks the same of them
  turned-sides : (op : Op) (l r : Operand) → IsComparison t op l r → IsComparison t (commutator_of op) r l
  turned-sides op l r h = record {
    comparable = comparable-commutator op (sample l) (sample r) h.comparable;
    alike = alike-turned l r h.alike;
    integers = λ is. let sides = h.integers (sym (absolute_alike op) ∙ is) in (sides.1, sides.0);
  }

  same-sides : (n op : Op) (l r : Operand) → is_absolute n ≡ is_absolute op → IsComparison t op l r → IsComparison t n l r
  same-sides n op l r same h = record {
    comparable = comparable-negator n op (sample l) (sample r) same h.comparable;
    alike = h.alike;
    integers = λ is. h.integers (sym same ∙ is);
  }

  turned-typed : (turns : Bool) (op : Op) (l r : Operand) → IsComparison t op l r → IsTyped t (cond turns (compare (commutator_of op) r l) (compare op l r))
  turned-typed true op l r h = turned-sides op l r h
  turned-typed false op l r h = h

  placed-typed : (op : Op) (l r : Operand) → IsComparison t op l r → IsTyped t (placed op l r)
  placed-typed op l r h = turned-typed (is_turned l r) op l r h

  not-typed : (found : Option Op) (op : Op) (l r : Operand) → ((n : Op) → found ≡ Some n → IsComparison t n l r) → IsComparison t op l r → IsTyped t (placed_not found op l r)
  not-typed None op l r each h = placed-typed op l r h
  not-typed (Some n) op l r each h = placed-typed n l r (each n refl)

  pub joined-typed : (cs ds : Conds) → AreTyped t cs → AreTyped t ds → AreTyped t (joined cs ds)
  joined-typed no_conds ds h k = k
  joined-typed (cond_and c cs) ds h k = (h.0, joined-typed cs ds h.1 k)

  group-typed : (any : Bool) (cs : Conds) → AreTyped t cs → IsTyped t (group_of any cs)
  group-typed false cs h = h
  group-typed true cs h = h

  parts-typed : (any : Bool) (c : Cond) → IsTyped t c → AreTyped t (parts_of any c)
  parts-typed false (all_of cs) h = h
  parts-typed true (any_of cs) h = h
  parts-typed false (any_of cs) h = (h, tt)
  parts-typed true (all_of cs) h = (h, tt)
  parts-typed false (compare op l r) h = (h, tt)
  parts-typed true (compare op l r) h = (h, tt)
  parts-typed false (is_null c) h = (h, tt)
  parts-typed true (is_null c) h = (h, tt)
  parts-typed false (is_not_null c) h = (h, tt)
  parts-typed true (is_not_null c) h = (h, tt)
  parts-typed false (bool_col c) h = (h, tt)
  parts-typed true (bool_col c) h = (h, tt)
  parts-typed false (const u) h = (h, tt)
  parts-typed true (const u) h = (h, tt)
  parts-typed false (negation c) h = (h, tt)
  parts-typed true (negation c) h = (h, tt)

  mutual
    pub pushed-typed : (negated : Bool) (c : Cond) → IsTyped t c → IsTyped t (pushed negated c)
    pushed-typed false (compare op l r) h = placed-typed op l r h
    pushed-typed true (compare op l r) h = not-typed (negator_of op) op l r (λ n e. same-sides n op l r (negator-opposes op n e).absolute h) h
    pushed-typed false (is_null c) h = tt
    pushed-typed true (is_null c) h = tt
    pushed-typed false (is_not_null c) h = tt
    pushed-typed true (is_not_null c) h = tt
    pushed-typed false (bool_col c) h = h
    pushed-typed true (bool_col c) h = h
    pushed-typed false (const u) h = tt
    pushed-typed true (const u) h = tt
    pushed-typed negated (all_of cs) h = group-typed negated (pushed_parts negated negated cs) (pushed_parts-typed negated negated cs h)
    pushed-typed negated (any_of cs) h = group-typed (not negated) (pushed_parts negated (not negated) cs) (pushed_parts-typed negated (not negated) cs h)
    pushed-typed negated (negation c) h = pushed-typed (not negated) c h

    pushed_parts-typed : (negated any : Bool) (cs : Conds) → AreTyped t cs → AreTyped t (pushed_parts negated any cs)
    pushed_parts-typed negated any no_conds h = tt
    pushed_parts-typed negated any (cond_and c cs) h = joined-typed (parts_of any (pushed negated c)) (pushed_parts negated any cs) (parts-typed any (pushed negated c) (pushed-typed negated c h.0)) (pushed_parts-typed negated any cs h.1)

  mutual
    pub conjuncts-typed : (c : Cond) → IsTyped t c → AreTyped t (conjuncts_of c)
    conjuncts-typed (compare op l r) h = (h, tt)
    conjuncts-typed (is_null c) h = (h, tt)
    conjuncts-typed (is_not_null c) h = (h, tt)
    conjuncts-typed (bool_col c) h = (h, tt)
    conjuncts-typed (const u) h = (h, tt)
    conjuncts-typed (all_of cs) h = all_conjuncts-typed cs h
    conjuncts-typed (any_of cs) h = (h, tt)
    conjuncts-typed (negation c) h = (h, tt)

    all_conjuncts-typed : (cs : Conds) → AreTyped t cs → AreTyped t (conjuncts_of_all cs)
    all_conjuncts-typed no_conds h = tt
    all_conjuncts-typed (cond_and c cs) h = joined-typed (conjuncts_of c) (conjuncts_of_all cs) (conjuncts-typed c h.0) (all_conjuncts-typed cs h.1)

-- the columns that pass a test
module _ (test : ColRef → Bool) where
  turned-some : (turns : Bool) (op : Op) (l r : Operand) → some_column test (cond turns (compare (commutator_of op) r l) (compare op l r)) ≡ names_column test l || names_column test r
  turned-some true op l r = or_comm (names_column test r) (names_column test l)
  turned-some false op l r = refl

  placed-some : (op : Op) (l r : Operand) → some_column test (placed op l r) ≡ names_column test l || names_column test r
  placed-some op l r = turned-some (is_turned l r) op l r

  not-some : (found : Option Op) (op : Op) (l r : Operand) → some_column test (placed_not found op l r) ≡ names_column test l || names_column test r
  not-some None op l r = placed-some op l r
  not-some (Some n) op l r = placed-some n l r

  joined-some : (cs ds : Conds) → some_column_of test (joined cs ds) ≡ some_column_of test cs || some_column_of test ds
  joined-some no_conds ds = refl
  joined-some (cond_and c cs) ds = ap (λ x. some_column test c || x) (joined-some cs ds) ∙ sym (or_assoc (some_column test c) (some_column_of test cs) (some_column_of test ds))

  group-some : (any : Bool) (cs : Conds) → some_column test (group_of any cs) ≡ some_column_of test cs
  group-some false cs = refl
  group-some true cs = refl

  parts-some : (any : Bool) (c : Cond) → some_column_of test (parts_of any c) ≡ some_column test c
  parts-some false (all_of cs) = refl
  parts-some true (any_of cs) = refl
  parts-some false (any_of cs) = or-false _
  parts-some true (all_of cs) = or-false _
  parts-some false (compare op l r) = or-false _
  parts-some true (compare op l r) = or-false _
  parts-some false (is_null c) = or-false _
  parts-some true (is_null c) = or-false _
  parts-some false (is_not_null c) = or-false _
  parts-some true (is_not_null c) = or-false _
  parts-some false (bool_col c) = or-false _
  parts-some true (bool_col c) = or-false _
  parts-some false (const t) = or-false _
  parts-some true (const t) = or-false _
  parts-some false (negation c) = or-false _
  parts-some true (negation c) = or-false _

  step-some : (cs ds : Conds) (x y : Bool) → some_column_of test cs ≡ x → some_column_of test ds ≡ y → some_column_of test (joined cs ds) ≡ x || y
  step-some cs ds x y first rest = joined-some cs ds ∙ ap (λ u. u || some_column_of test ds) first ∙ ap (λ u. x || u) rest

  mutual
    pub pushed-some : (negated : Bool) (c : Cond) → some_column test (pushed negated c) ≡ some_column test c
    pushed-some false (compare op l r) = placed-some op l r
    pushed-some true (compare op l r) = not-some (negator_of op) op l r
    pushed-some false (is_null c) = refl
    pushed-some true (is_null c) = refl
    pushed-some false (is_not_null c) = refl
    pushed-some true (is_not_null c) = refl
    pushed-some false (bool_col c) = refl
    pushed-some true (bool_col c) = refl
    pushed-some false (const t) = refl
    pushed-some true (const t) = refl
    pushed-some negated (all_of cs) = group-some negated (pushed_parts negated negated cs) ∙ pushed_parts-some negated negated cs
    pushed-some negated (any_of cs) = group-some (not negated) (pushed_parts negated (not negated) cs) ∙ pushed_parts-some negated (not negated) cs
    pushed-some negated (negation c) = pushed-some (not negated) c

    pushed_parts-some : (negated any : Bool) (cs : Conds) → some_column_of test (pushed_parts negated any cs) ≡ some_column_of test cs
    pushed_parts-some negated any no_conds = refl
    pushed_parts-some negated any (cond_and c cs) =
        step-some (parts_of any (pushed negated c)) (pushed_parts negated any cs) (some_column test c) (some_column_of test cs)
        (parts-some any (pushed negated c) ∙ pushed-some negated c) (pushed_parts-some negated any cs)

  mutual
    pub conjuncts-some : (c : Cond) → some_column_of test (conjuncts_of c) ≡ some_column test c
    conjuncts-some (compare op l r) = or-false _
    conjuncts-some (is_null c) = or-false _
    conjuncts-some (is_not_null c) = or-false _
    conjuncts-some (bool_col c) = or-false _
    conjuncts-some (const t) = or-false _
    conjuncts-some (all_of cs) = all_conjuncts-some cs
    conjuncts-some (any_of cs) = or-false _
    conjuncts-some (negation c) = or-false _

    all_conjuncts-some : (cs : Conds) → some_column_of test (conjuncts_of_all cs) ≡ some_column_of test cs
    all_conjuncts-some no_conds = refl
    all_conjuncts-some (cond_and c cs) =
        step-some (conjuncts_of c) (conjuncts_of_all cs) (some_column test c) (some_column_of test cs) (conjuncts-some c) (all_conjuncts-some cs)

-- each column passes where none passes the opposite test
or-not : (x y : Bool) → not x && not y ≡ not (x || y)
or-not true y = refl
or-not false y = refl

not_twice : (x : Bool) → x ≡ not (not x)
not_twice true = refl
not_twice false = refl

module _ (test : ColRef → Bool) where
  abbrev fails : ColRef → Bool
  fails c = not (test c)

  side-each : (o : Operand) → passes_column test o ≡ not (names_column fails o)
  side-each (Col c) = not_twice (test c)
  side-each (Lit v) = refl

  both-each : (a b x y : Bool) → a ≡ not x → b ≡ not y → a && b ≡ not (x || y)
  both-each a b x y p q = ap (λ u. u && b) p ∙ ap (λ u. not x && u) q ∙ or-not x y

  mutual
    each-some : (c : Cond) → each_column test c ≡ not (some_column fails c)
    each-some (compare op l r) = both-each _ _ _ _ (side-each l) (side-each r)
    each-some (is_null c) = not_twice (test c)
    each-some (is_not_null c) = not_twice (test c)
    each-some (bool_col c) = not_twice (test c)
    each-some (const t) = refl
    each-some (all_of cs) = each_of-some cs
    each-some (any_of cs) = each_of-some cs
    each-some (negation c) = each-some c

    each_of-some : (cs : Conds) → each_column_of test cs ≡ not (some_column_of fails cs)
    each_of-some no_conds = refl
    each_of-some (cond_and c cs) = both-each (each_column test c) (each_column_of test cs) (some_column fails c) (some_column_of fails cs) (each-some c) (each_of-some cs)

  pub pushed-each : (negated : Bool) (c : Cond) → each_column test (pushed negated c) ≡ each_column test c
  pushed-each negated c = each-some (pushed negated c) ∙ ap not (pushed-some fails negated c) ∙ sym (each-some c)

  pub conjuncts-each : (c : Cond) → each_column_of test (conjuncts_of c) ≡ each_column test c
  conjuncts-each c = each_of-some (conjuncts_of c) ∙ ap not (conjuncts-some fails c) ∙ sym (each-some c)

-- the number of atoms
turned-atoms : (turns : Bool) (op : Op) (l r : Operand) → atom_count (cond turns (compare (commutator_of op) r l) (compare op l r)) ≡ 1
turned-atoms true op l r = refl
turned-atoms false op l r = refl

not-atoms : (found : Option Op) (op : Op) (l r : Operand) → atom_count (placed_not found op l r) ≡ 1
not-atoms None op l r = turned-atoms (is_turned l r) op l r
not-atoms (Some n) op l r = turned-atoms (is_turned l r) n l r

joined-atoms : (cs ds : Conds) → atom_count_of (joined cs ds) ≡ atom_count_of cs + atom_count_of ds
joined-atoms no_conds ds = omega arith
joined-atoms (cond_and c cs) ds = let rest = joined-atoms cs ds in omega (arith, rest)

group-atoms : (any : Bool) (cs : Conds) → atom_count (group_of any cs) ≡ atom_count_of cs
group-atoms false cs = refl
group-atoms true cs = refl

parts-atoms : (any : Bool) (c : Cond) → atom_count_of (parts_of any c) ≡ atom_count c
parts-atoms false (all_of cs) = refl
parts-atoms true (any_of cs) = refl
parts-atoms false (any_of cs) = omega arith
parts-atoms true (all_of cs) = omega arith
parts-atoms false (negation c) = omega arith
parts-atoms true (negation c) = omega arith
parts-atoms false (compare op l r) = refl
parts-atoms true (compare op l r) = refl
parts-atoms false (is_null c) = refl
parts-atoms true (is_null c) = refl
parts-atoms false (is_not_null c) = refl
parts-atoms true (is_not_null c) = refl
parts-atoms false (bool_col c) = refl
parts-atoms true (bool_col c) = refl
parts-atoms false (const t) = refl
parts-atoms true (const t) = refl

step-atoms : (cs ds : Conds) (x y : ℕ) → atom_count_of cs ≡ x → atom_count_of ds ≡ y → atom_count_of (joined cs ds) ≡ x + y
step-atoms cs ds x y first rest = let sum = joined-atoms cs ds in omega (arith, sum)

mutual
  pub pushed-atoms : (negated : Bool) (c : Cond) → atom_count (pushed negated c) ≡ atom_count c
  pushed-atoms false (compare op l r) = turned-atoms (is_turned l r) op l r
  pushed-atoms true (compare op l r) = not-atoms (negator_of op) op l r
  pushed-atoms false (is_null c) = refl
  pushed-atoms true (is_null c) = refl
  pushed-atoms false (is_not_null c) = refl
  pushed-atoms true (is_not_null c) = refl
  pushed-atoms false (bool_col c) = refl
  pushed-atoms true (bool_col c) = refl
  pushed-atoms false (const t) = refl
  pushed-atoms true (const t) = refl
  pushed-atoms negated (all_of cs) = group-atoms negated (pushed_parts negated negated cs) ∙ pushed_parts-atoms negated negated cs
  pushed-atoms negated (any_of cs) = group-atoms (not negated) (pushed_parts negated (not negated) cs) ∙ pushed_parts-atoms negated (not negated) cs
  pushed-atoms negated (negation c) = pushed-atoms (not negated) c

  pushed_parts-atoms : (negated any : Bool) (cs : Conds) → atom_count_of (pushed_parts negated any cs) ≡ atom_count_of cs
  pushed_parts-atoms negated any no_conds = refl
  pushed_parts-atoms negated any (cond_and c cs) =
      step-atoms (parts_of any (pushed negated c)) (pushed_parts negated any cs) (atom_count c) (atom_count_of cs)
      (parts-atoms any (pushed negated c) ∙ pushed-atoms negated c) (pushed_parts-atoms negated any cs)

mutual
  pub conjuncts-atoms : (c : Cond) → atom_count_of (conjuncts_of c) ≡ atom_count c
  conjuncts-atoms (compare op l r) = refl
  conjuncts-atoms (is_null c) = refl
  conjuncts-atoms (is_not_null c) = refl
  conjuncts-atoms (bool_col c) = refl
  conjuncts-atoms (const t) = refl
  conjuncts-atoms (all_of cs) = all_conjuncts-atoms cs
  conjuncts-atoms (any_of cs) = omega arith
  conjuncts-atoms (negation c) = omega arith

  all_conjuncts-atoms : (cs : Conds) → atom_count_of (conjuncts_of_all cs) ≡ atom_count_of cs
  all_conjuncts-atoms no_conds = refl
  all_conjuncts-atoms (cond_and c cs) =
      step-atoms (conjuncts_of c) (conjuncts_of_all cs) (atom_count c) (atom_count_of cs) (conjuncts-atoms c) (all_conjuncts-atoms cs)

-- the truth of the conjuncts
mutual
  pub conjuncts-truth : (b : ColRef → Value) (c : Cond) → truth_of_all b (conjuncts_of c) ≡ truth_at b c
  conjuncts-truth b (compare op l r) = both-True _
  conjuncts-truth b (is_null c) = both-True _
  conjuncts-truth b (is_not_null c) = both-True _
  conjuncts-truth b (bool_col c) = both-True _
  conjuncts-truth b (const t) = both-True _
  conjuncts-truth b (all_of cs) = all_conjuncts-truth b cs
  conjuncts-truth b (any_of cs) = both-True _
  conjuncts-truth b (negation c) = both-True _

  all_conjuncts-truth : (b : ColRef → Value) (cs : Conds) → truth_of_all b (conjuncts_of_all cs) ≡ truth_of_all b cs
  all_conjuncts-truth b no_conds = refl
  all_conjuncts-truth b (cond_and c cs) =
      truth_of_all-joined b (conjuncts_of c) (conjuncts_of_all cs)
      ∙ ap (λ x. both x (truth_of_all b (conjuncts_of_all cs))) (conjuncts-truth b c) ∙ ap (both (truth_at b c)) (all_conjuncts-truth b cs)
