-- Laws of three-valued logic over lists, and of the operators.
use Rattle.std.proofs.Common.{◌≡◌, refl, ap, sym, ◌∙◌, Bool, true, false, not, cond, Some, Ordering, Less, Equal, Greater}
use Rattle.pg_value.specs.declared.operators.Family.{Family}
use Rattle.pg_value.specs.declared.operators.Family.TheVariants.{Integer, IntAbs, Text as TextOps, Bool as BoolOps}
use Rattle.pg_value.specs.declared.operators.Truth.{Truth}
use Rattle.pg_value.specs.declared.operators.Truth.TheVariants.{True, False, Unknown}
use Rattle.pg_value.specs.declared.operators.Op.{Op}
use Rattle.pg_value.specs.declared.operators.Op.TheVariants.{Lt, Le, Eq, Ge, Gt, Ne, AbsLt, AbsLe, AbsGe, AbsGt}
use Rattle.pg_value.specs.declared.value.Value.{Value}
use Rattle.pg_value.specs.declared.value.Value.TheVariants.{Null, Int, Bool as Flag, Text as String}
use Rattle.pg_value.specs.Order.{value_order}
use Rattle.pg_value.specs.Truths.{both, either, opposite, truth_of, truth_of_op, accepts, is_absolute, negator_of}
use Rattle.pg_expr.specs.declared.operand.ColRef.{ColRef}
use Rattle.pg_expr.specs.Cond.{Conds, no_conds, cond_and, joined}
use Rattle.pg_expr.specs.Truths.{truth_at, truth_of_all, truth_of_any}

pub opposite-both : (a b : Truth) → opposite (both a b) ≡ either (opposite a) (opposite b)
opposite-both True b = refl
opposite-both False b = refl
opposite-both Unknown True = refl
opposite-both Unknown False = refl
opposite-both Unknown Unknown = refl

pub opposite-either : (a b : Truth) → opposite (either a b) ≡ both (opposite a) (opposite b)
opposite-either True b = refl
opposite-either False b = refl
opposite-either Unknown True = refl
opposite-either Unknown False = refl
opposite-either Unknown Unknown = refl

pub opposite_twice : (t : Truth) → opposite (opposite t) ≡ t
opposite_twice True = refl
opposite_twice False = refl
opposite_twice Unknown = refl

pub both-True : (t : Truth) → both t True ≡ t
both-True True = refl
both-True False = refl
both-True Unknown = refl

pub either-False : (t : Truth) → either t False ≡ t
either-False True = refl
either-False False = refl
either-False Unknown = refl

both_assoc : (a b c : Truth) → both (both a b) c ≡ both a (both b c)
both_assoc True b c = refl
both_assoc False b c = refl
both_assoc Unknown True c = refl
both_assoc Unknown False True = refl
both_assoc Unknown False False = refl
both_assoc Unknown False Unknown = refl
both_assoc Unknown Unknown True = refl
both_assoc Unknown Unknown False = refl
both_assoc Unknown Unknown Unknown = refl

either_assoc : (a b c : Truth) → either (either a b) c ≡ either a (either b c)
either_assoc True b c = refl
either_assoc False b c = refl
either_assoc Unknown False c = refl
either_assoc Unknown True True = refl
either_assoc Unknown True False = refl
either_assoc Unknown True Unknown = refl
either_assoc Unknown Unknown True = refl
either_assoc Unknown Unknown False = refl
either_assoc Unknown Unknown Unknown = refl

-- AND and OR of one list after another
pub truth_of_all-joined : (b : ColRef → Value) (cs ds : Conds) → truth_of_all b (joined cs ds) ≡ both (truth_of_all b cs) (truth_of_all b ds)
truth_of_all-joined b no_conds ds = refl
truth_of_all-joined b (cond_and c cs) ds = ap (both (truth_at b c)) (truth_of_all-joined b cs ds) ∙ sym (both_assoc (truth_at b c) _ _)

pub truth_of_any-joined : (b : ColRef → Value) (cs ds : Conds) → truth_of_any b (joined cs ds) ≡ either (truth_of_any b cs) (truth_of_any b ds)
truth_of_any-joined b no_conds ds = refl
truth_of_any-joined b (cond_and c cs) ds = ap (either (truth_at b c)) (truth_of_any-joined b cs ds) ∙ sym (either_assoc (truth_at b c) _ _)

truth_of-not : (x y : Bool) → x ≡ not y → truth_of x ≡ opposite (truth_of y)
truth_of-not x true e = ap truth_of e
truth_of-not x false e = ap truth_of e

opposed_in : (n op : Op) (kind : Family) (a b : Value) → is_absolute n ≡ is_absolute op → ((o : Ordering) → accepts n o ≡ not (accepts op o)) →
    truth_of (accepts n (value_order (cond (is_absolute n) IntAbs kind) a b)) ≡ opposite (truth_of (accepts op (value_order (cond (is_absolute op) IntAbs kind) a b)))
opposed_in n op kind a b same opposed =
    ap (λ (x : Bool). truth_of (accepts n (value_order (cond x IntAbs kind) a b))) same
    ∙ truth_of-not _ _ (opposed (value_order (cond (is_absolute op) IntAbs kind) a b))

-- an operator that is met where another is not has the opposite truth
opposed_truth : (n op : Op) → is_absolute n ≡ is_absolute op → ((o : Ordering) → accepts n o ≡ not (accepts op o)) →
    (a b : Value) → truth_of_op n a b ≡ opposite (truth_of_op op a b)
opposed_truth n op same opposed Null b = refl
opposed_truth n op same opposed (Int x) Null = refl
opposed_truth n op same opposed (Flag x) Null = refl
opposed_truth n op same opposed (String x) Null = refl
opposed_truth n op same opposed (Int x) (Int y) = opposed_in n op Integer _ _ same opposed
opposed_truth n op same opposed (Int x) (Flag y) = opposed_in n op Integer _ _ same opposed
opposed_truth n op same opposed (Int x) (String y) = opposed_in n op Integer _ _ same opposed
opposed_truth n op same opposed (Flag x) (Int y) = opposed_in n op BoolOps _ _ same opposed
opposed_truth n op same opposed (Flag x) (Flag y) = opposed_in n op BoolOps _ _ same opposed
opposed_truth n op same opposed (Flag x) (String y) = opposed_in n op BoolOps _ _ same opposed
opposed_truth n op same opposed (String x) (Int y) = opposed_in n op TextOps _ _ same opposed
opposed_truth n op same opposed (String x) (Flag y) = opposed_in n op TextOps _ _ same opposed
opposed_truth n op same opposed (String x) (String y) = opposed_in n op TextOps _ _ same opposed

each_order : (f g : Ordering → Bool) → f Less ≡ not (g Less) → f Equal ≡ not (g Equal) → f Greater ≡ not (g Greater) → (o : Ordering) → f o ≡ not (g o)
each_order f g less equal greater Less = less
each_order f g less equal greater Equal = equal
each_order f g less equal greater Greater = greater

-- a negator has the opposite truth
pub record Opposes (n op : Op) : Type 0 where
  pub truth : (a b : Value) → truth_of_op n a b ≡ opposite (truth_of_op op a b)
  pub absolute : is_absolute n ≡ is_absolute op

opposes : (n op : Op) → is_absolute n ≡ is_absolute op → accepts n Less ≡ not (accepts op Less) → accepts n Equal ≡ not (accepts op Equal) → accepts n Greater ≡ not (accepts op Greater) → Opposes n op
opposes n op same less equal greater = record { truth = opposed_truth n op same (each_order (accepts n) (accepts op) less equal greater); absolute = same }

pub negator-opposes : (op n : Op) → negator_of op ≡ Some n → Opposes n op
negator-opposes Lt Ge e = opposes Ge Lt refl refl refl refl
negator-opposes Le Gt e = opposes Gt Le refl refl refl refl
negator-opposes Eq Ne e = opposes Ne Eq refl refl refl refl
negator-opposes Ge Lt e = opposes Lt Ge refl refl refl refl
negator-opposes Gt Le e = opposes Le Gt refl refl refl refl
negator-opposes Ne Eq e = opposes Eq Ne refl refl refl refl
negator-opposes AbsLt AbsGe e = opposes AbsGe AbsLt refl refl refl refl
negator-opposes AbsLe AbsGt e = opposes AbsGt AbsLe refl refl refl refl
negator-opposes AbsGe AbsLt e = opposes AbsLt AbsGe refl refl refl refl
negator-opposes AbsGt AbsLe e = opposes AbsLe AbsGt refl refl refl refl
negator-opposes op n e = cc
