use Rattle.std.proofs.Common.{◌≡◌, sym, subst}
use Rattle.pg_value.specs.declared.operators.Op.{Op}
use Rattle.pg_value.specs.declared.value.Value.{Value}
use Rattle.pg_value.specs.Truths.{AreComparable}
use Rattle.pg_expr.specs.Cond.{compare}
use Rattle.pg_expr.specs.Truths.{value_of}
use Rattle.pg_expr.proofs.DefinedLaws.{typed-defined}
use Rattle.pg_expr.proofs.binding.comparison_truth.Goals as goal

comparable_at : (op : Op) (a b x y : Value) → x ≡ a → y ≡ b → AreComparable op a b → AreComparable op x y
comparable_at op a b x y e f h = subst (AreComparable op x) (sym f) (subst (λ (u : Value). AreComparable op u b) (sym e) h)

pub apply-requires : goal.apply-requires
apply-requires g c =
    let value_at = g.B.Binding.value_at c.args.b.now in
    comparable_at c.args.op (value_of value_at c.args.l.now) (value_of value_at c.args.r.now) c.operand_value.result.now c.operand_value-2.result.now c.operand_value.ensures c.operand_value-2.ensures
    (typed-defined (g.B.Binding.type_of c.args.b.now) (g.B.Binding.binds c.args.b.now) value_at c.requires.values (compare c.args.op c.args.l.now c.args.r.now) c.requires.typed c.requires.bound)
