-- The pushed form: what holds of it, and what it keeps.
use Rattle.std.proofs.Common.{◌≡◌, refl, ap, sym, ◌∙◌, Bool, true, false, cond, Option, None, Some}
use Rattle.pg_value.specs.declared.operators.Truth.{Truth}
use Rattle.pg_value.specs.declared.operators.Op.{Op}
use Rattle.pg_value.specs.declared.operators.Op.TheVariants.{Lt, Le, Eq, Ge, Gt, Ne, AbsLt, AbsLe, AbsEq, AbsGe, AbsGt}
use Rattle.pg_value.specs.declared.value.Value.{Value}
use Rattle.pg_value.specs.declared.value.Value.TheVariants.{Null, Int, Bool as Flag, Text as String}
use Rattle.pg_value.specs.Truths.{both, either, opposite, truth_of_op, AreComparable, negator_of, commutator_of, is_absolute, HasOp, IsSameKind}
use Rattle.pg_value.proofs.OrderLaws.{truth_exchanged}
use Rattle.pg_expr.specs.declared.operand.ColRef.{ColRef}
use Rattle.pg_expr.specs.declared.operand.Operand.{Operand}
use Rattle.pg_expr.specs.Cond.{Cond, compare, is_null, is_not_null, bool_col, const, all_of, any_of, negation, Conds, no_conds, cond_and, joined}
use Rattle.pg_expr.specs.Truths.{value_of, truth_at, truth_of_all, truth_of_any, truth_of_null}
use Rattle.pg_expr.specs.Pushed.{is_turned, placed, placed_not, parts_of, pushed, pushed_parts}
use Rattle.pg_expr.proofs.TruthLaws.{opposite-both, opposite-either, opposite_twice, both-True, either-False, truth_of_all-joined, truth_of_any-joined, Opposes, negator-opposes}
use Rattle.pg_value.proofs.OrderLaws.{absolute_alike as absolute-commutator}

-- the sides of each comparison may stand at its operator under the binding
abbrev mutual
  pub IsDefined : (ColRef → Value) → Cond → Type 0
  IsDefined b (compare op l r) = AreComparable op (value_of b l) (value_of b r)
  IsDefined b (is_null c) = Unit {0}
  IsDefined b (is_not_null c) = Unit {0}
  IsDefined b (bool_col c) = Unit {0}
  IsDefined b (const t) = Unit {0}
  IsDefined b (all_of cs) = AreDefined b cs
  IsDefined b (any_of cs) = AreDefined b cs
  IsDefined b (negation c) = IsDefined b c

  pub AreDefined : (ColRef → Value) → Conds → Type 0
  AreDefined b no_conds = Unit {0}
  AreDefined b (cond_and c cs) = IsDefined b c × AreDefined b cs

-- an operator that asks the same kinds of its sides may stand in another's place
same_kinds : (n op : Op) (v : Value) → is_absolute n ≡ is_absolute op → HasOp op v → HasOp n v
same_kinds n op Null same h = tt
same_kinds n op (Int x) same h = tt
same_kinds n op (Flag x) same h = same ∙ h
same_kinds n op (String x) same h = same ∙ h

pub comparable-negator : (n op : Op) (a b : Value) → is_absolute n ≡ is_absolute op → AreComparable op a b → AreComparable n a b
comparable-negator n op a b same h = (same_kinds n op a same h.0, same_kinds n op b same h.1, h.2)

pub kinds_turned : (a b : Value) → IsSameKind a b → IsSameKind b a
kinds_turned Null Null h = tt
kinds_turned Null (Int y) h = tt
kinds_turned Null (Flag y) h = tt
kinds_turned Null (String y) h = tt
kinds_turned (Int x) Null h = tt
kinds_turned (Int x) (Int y) h = tt
kinds_turned (Int x) (Flag y) h = h
kinds_turned (Int x) (String y) h = h
kinds_turned (Flag x) Null h = tt
kinds_turned (Flag x) (Int y) h = h
kinds_turned (Flag x) (Flag y) h = tt
kinds_turned (Flag x) (String y) h = h
kinds_turned (String x) Null h = tt
kinds_turned (String x) (Int y) h = h
kinds_turned (String x) (Flag y) h = h
kinds_turned (String x) (String y) h = tt

pub comparable-commutator : (op : Op) (a b : Value) → AreComparable op a b → AreComparable (commutator_of op) b a
comparable-commutator op a b h = (same_kinds _ op b (absolute-commutator op) h.1, same_kinds _ op a (absolute-commutator op) h.0, kinds_turned a b h.2)

abbrev pub opposite_if : Bool → Truth → Truth
opposite_if true t = opposite t
opposite_if false t = t

-- the truth of a comparison with its sides placed
module _ (b : ColRef → Value) where
  turned-truth : (turns : Bool) (op : Op) (l r : Operand) → AreComparable op (value_of b l) (value_of b r) →
      truth_at b (cond turns (compare (commutator_of op) r l) (compare op l r)) ≡ truth_of_op op (value_of b l) (value_of b r)
  turned-truth true op l r h = truth_exchanged op (value_of b l) (value_of b r) h
  turned-truth false op l r h = refl

  pub placed-truth : (op : Op) (l r : Operand) → AreComparable op (value_of b l) (value_of b r) → truth_at b (placed op l r) ≡ truth_of_op op (value_of b l) (value_of b r)
  placed-truth op l r h = turned-truth (is_turned l r) op l r h

  -- a list as parts of an AND, or of an OR
  all-parts : (c : Cond) → truth_of_all b (parts_of false c) ≡ truth_at b c
  all-parts (compare op l r) = both-True _
  all-parts (is_null c) = both-True _
  all-parts (is_not_null c) = both-True _
  all-parts (bool_col c) = both-True _
  all-parts (const t) = both-True _
  all-parts (all_of cs) = refl
  all-parts (any_of cs) = both-True _
  all-parts (negation c) = both-True _

  any-parts : (c : Cond) → truth_of_any b (parts_of true c) ≡ truth_at b c
  any-parts (compare op l r) = either-False _
  any-parts (is_null c) = either-False _
  any-parts (is_not_null c) = either-False _
  any-parts (bool_col c) = either-False _
  any-parts (const t) = either-False _
  any-parts (all_of cs) = either-False _
  any-parts (any_of cs) = refl
  any-parts (negation c) = either-False _

  all-step : (c : Cond) (cs : Conds) (t u : Truth) → truth_at b c ≡ t → truth_of_all b cs ≡ u → truth_of_all b (joined (parts_of false c) cs) ≡ both t u
  all-step c cs t u first rest = truth_of_all-joined b (parts_of false c) cs ∙ ap (λ x. both x (truth_of_all b cs)) (all-parts c ∙ first) ∙ ap (both t) rest

  any-step : (c : Cond) (cs : Conds) (t u : Truth) → truth_at b c ≡ t → truth_of_any b cs ≡ u → truth_of_any b (joined (parts_of true c) cs) ≡ either t u
  any-step c cs t u first rest = truth_of_any-joined b (parts_of true c) cs ∙ ap (λ x. either x (truth_of_any b cs)) (any-parts c ∙ first) ∙ ap (either t) rest

  -- NOT of a comparison, by its negator or left in place
  not-truth : (found : Option Op) (op : Op) (l r : Operand) → ((n : Op) → found ≡ Some n → (Opposes n op) × AreComparable n (value_of b l) (value_of b r)) → AreComparable op (value_of b l) (value_of b r) →
      truth_at b (placed_not found op l r) ≡ opposite (truth_of_op op (value_of b l) (value_of b r))
  not-truth None op l r each h = ap opposite (placed-truth op l r h)
  not-truth (Some n) op l r each h = placed-truth n l r (each n refl).1 ∙ (each n refl).0.truth _ _

  negated-truth : (op : Op) (l r : Operand) → AreComparable op (value_of b l) (value_of b r) → truth_at b (placed_not (negator_of op) op l r) ≡ opposite (truth_of_op op (value_of b l) (value_of b r))
  negated-truth op l r h = not-truth (negator_of op) op l r (λ n e. (negator-opposes op n e, comparable-negator n op _ _ (negator-opposes op n e).absolute h)) h

  -- the pushed form has the truth of the condition or, where negated, of its NOT
  mutual
    pub pushed-truth : (negated : Bool) (c : Cond) → IsDefined b c → truth_at b (pushed negated c) ≡ opposite_if negated (truth_at b c)
    pushed-truth false (compare op l r) h = placed-truth op l r h
    pushed-truth true (compare op l r) h = negated-truth op l r h
    pushed-truth false (is_null c) h = refl
    pushed-truth true (is_null c) h = refl
    pushed-truth false (is_not_null c) h = refl
    pushed-truth true (is_not_null c) h = sym (opposite_twice (truth_of_null (b c)))
    pushed-truth false (bool_col c) h = refl
    pushed-truth true (bool_col c) h = refl
    pushed-truth false (const t) h = refl
    pushed-truth true (const t) h = refl
    pushed-truth false (all_of cs) h = all-kept cs h
    pushed-truth true (all_of cs) h = all-opposed cs h
    pushed-truth false (any_of cs) h = any-kept cs h
    pushed-truth true (any_of cs) h = any-opposed cs h
    pushed-truth false (negation c) h = pushed-truth true c h
    pushed-truth true (negation c) h = pushed-truth false c h ∙ sym (opposite_twice (truth_at b c))

    all-kept : (cs : Conds) → AreDefined b cs → truth_of_all b (pushed_parts false false cs) ≡ truth_of_all b cs
    all-kept no_conds h = refl
    all-kept (cond_and c cs) h = all-step (pushed false c) (pushed_parts false false cs) _ _ (pushed-truth false c h.0) (all-kept cs h.1)

    all-opposed : (cs : Conds) → AreDefined b cs → truth_of_any b (pushed_parts true true cs) ≡ opposite (truth_of_all b cs)
    all-opposed no_conds h = refl
    all-opposed (cond_and c cs) h = any-step (pushed true c) (pushed_parts true true cs) _ _ (pushed-truth true c h.0) (all-opposed cs h.1) ∙ sym (opposite-both (truth_at b c) _)

    any-kept : (cs : Conds) → AreDefined b cs → truth_of_any b (pushed_parts false true cs) ≡ truth_of_any b cs
    any-kept no_conds h = refl
    any-kept (cond_and c cs) h = any-step (pushed false c) (pushed_parts false true cs) _ _ (pushed-truth false c h.0) (any-kept cs h.1)

    any-opposed : (cs : Conds) → AreDefined b cs → truth_of_all b (pushed_parts true false cs) ≡ opposite (truth_of_any b cs)
    any-opposed no_conds h = refl
    any-opposed (cond_and c cs) h = all-step (pushed true c) (pushed_parts true false cs) _ _ (pushed-truth true c h.0) (any-opposed cs h.1) ∙ sym (opposite-either (truth_at b c) _)
