use Rattle.std.proofs.Common.{false}
use Rattle.pg_expr.proofs.DefinedLaws.{pushed-same_truth}
use Rattle.pg_expr.proofs.FormLaws.{pushed-form, pushed-fixed}
use Rattle.pg_expr.proofs.KeptLaws.{pushed-typed, pushed-some, pushed-each, pushed-atoms}
use Rattle.pg_expr.proofs.laws.pushed_form_laws.Goals as goal

pub returns : goal.returns
returns c = record {
  form = pushed-form false;
  fixed = pushed-fixed;
  truth = pushed-same_truth;
  typed = λ e t h. pushed-typed t false e h;
  some = λ e test. pushed-some test false e;
  each = λ e test. pushed-each test false e;
  atoms = pushed-atoms false;
}
