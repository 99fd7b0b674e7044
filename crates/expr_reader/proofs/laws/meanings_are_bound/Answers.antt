use Rattle.std.proofs.Common.{true, refl}
use Rattle.expr_reader.proofs.TypedLemmas.{expr-good}
use Rattle.expr_reader.proofs.laws.meanings_are_bound.Goals as goal

pub returns-clause-typed : goal.returns-clause-typed
returns-clause-typed c = λ scope types e x is. (expr-good scope types (λ r. true) (λ k d lt. refl) e x is).0

pub returns-clause-visible : goal.returns-clause-visible
returns-clause-visible c = λ scope types e x test is all. (expr-good scope types test all e x is).1
