-- A well typed condition is defined under each binding of values that are of the kinds of their columns' types: those of the types, and the sample of each type.
use Rattle.pg_value.specs.declared.operators.Op.{Op}
use Rattle.pg_value.specs.declared.value.SqlType.{SqlType}
use Rattle.pg_value.specs.declared.value.Value.{Value}
use Rattle.pg_value.specs.declared.value.Value.TheVariants.{Null, Int, Bool as Flag, Text as String}
use Rattle.pg_value.specs.Truths.{AreComparable, HasOp}
use Rattle.pg_expr.specs.declared.operand.ColRef.{ColRef}
use Rattle.pg_expr.specs.declared.operand.Operand.{Operand}
use Rattle.pg_expr.specs.declared.operand.Operand.TheVariants.{Col, Lit}
use Rattle.pg_expr.specs.Cond.{Cond, compare, is_null, is_not_null, bool_col, const, all_of, any_of, negation, Conds, no_conds, cond_and}
use Rattle.pg_expr.specs.Truths.{value_of}
use Rattle.pg_expr.specs.Typed.{AreTyped, IsTyped, some_value}
use Rattle.pg_expr.proofs.DefinedLaws.{IsLike, same_kind-like}
use Rattle.pg_expr.proofs.PushedLaws.{AreDefined, IsDefined, kinds_turned}

pub like_itself : (v : Value) → IsLike v v
like_itself Null = tt
like_itself (Int n) = tt
like_itself (Flag b) = tt
like_itself (String t) = tt

operator_like : (op : Op) (s v : Value) → IsLike s v → HasOp op s → HasOp op v
operator_like op s Null like h = tt
operator_like op s (Int n) like h = tt
operator_like op (Flag a) (Flag b) like h = h
operator_like op (String t) (String u) like h = h
operator_like op s v like h = absurd like

sides_like : (op : Op) (s u v w : Value) → IsLike s v → IsLike u w → AreComparable op s u → AreComparable op v w
sides_like op s u v w left right h = (
  operator_like op s v left h.0,
  operator_like op u w right h.1,
  kinds_turned w v (same_kind-like u w v right (kinds_turned v u (same_kind-like s v u left h.2))),
)

module _ (t : ColRef → SqlType) (b : ColRef → Value) (like : (x : ColRef) → IsLike (some_value (t x)) (b x)) where
  side : (o : Operand) → IsLike (value_of (λ c. some_value (t c)) o) (value_of b o)
  side (Col c) = like c
  side (Lit v) = like_itself v

  mutual
    pub kinds_defined : (e : Cond) → IsTyped t e → IsDefined b e
    kinds_defined (compare op l r) h = sides_like op (value_of (λ c. some_value (t c)) l) (value_of (λ c. some_value (t c)) r) (value_of b l) (value_of b r) (side l) (side r) h.comparable
    kinds_defined (is_null c) h = tt
    kinds_defined (is_not_null c) h = tt
    kinds_defined (bool_col c) h = tt
    kinds_defined (const u) h = tt
    kinds_defined (all_of es) h = each_defined es h
    kinds_defined (any_of es) h = each_defined es h
    kinds_defined (negation e) h = kinds_defined e h

    each_defined : (es : Conds) → AreTyped t es → AreDefined b es
    each_defined no_conds h = tt
    each_defined (cond_and e es) h = (kinds_defined e h.0, each_defined es h.1)
