use Rattle.pg_expr.proofs.FormLaws.{conjuncts-form}
use Rattle.pg_expr.proofs.KeptLaws.{conjuncts-typed, conjuncts-some, conjuncts-each, conjuncts-atoms, conjuncts-truth}
use Rattle.pg_expr.proofs.laws.conjuncts_laws.Goals as goal

pub returns : goal.returns
returns c = record {
  truth = λ e b. conjuncts-truth b e;
  form = conjuncts-form;
  typed = λ e t h. conjuncts-typed t e h;
  some = λ e test. conjuncts-some test e;
  each = λ e test. conjuncts-each test e;
  atoms = conjuncts-atoms;
}
