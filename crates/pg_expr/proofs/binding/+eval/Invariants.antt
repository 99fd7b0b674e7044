use Rattle.std.proofs.Common.{◌≡◌, IsTrue, drop}
use Rattle.pg_value.specs.Truths.{both, either}
use Rattle.pg_expr.specs.Columns.{each_column_of}
use Rattle.pg_expr.specs.Truths.{truth_of_all, truth_of_any}
use Rattle.pg_expr.specs.Typed.{AreTyped}
use Rattle.pg_expr.specs.work.View.{conds}
use Rattle.pg_expr.proofs.binding.+eval.Given as goal

-- the truth so far, with that of what is left, is the truth of all
abbrev pub invariant-eval_all-loop-part : goal.invariant-eval_all-loop-part
invariant-eval_all-loop-part g l =
    let value_at = g.B.Binding.value_at l.b in
    let rest = conds (drop l.part-index l.parts) in
    record {
      truth : both l.all (truth_of_all value_at rest) ≡ truth_of_all value_at (conds l.parts);
      typed : AreTyped (g.B.Binding.type_of l.b) rest;
      bound : IsTrue (each_column_of (g.B.Binding.binds l.b) rest);
    }

abbrev pub invariant-eval_any-loop-part : goal.invariant-eval_any-loop-part
invariant-eval_any-loop-part g l =
    let value_at = g.B.Binding.value_at l.b in
    let rest = conds (drop l.part-index l.parts) in
    record {
      truth : either l.any (truth_of_any value_at rest) ≡ truth_of_any value_at (conds l.parts);
      typed : AreTyped (g.B.Binding.type_of l.b) rest;
      bound : IsTrue (each_column_of (g.B.Binding.binds l.b) rest);
    }
