use Rattle.eq_classes.proofs.WrittenLemmas.{in_atoms, in_columns, in_typed}
use Rattle.plan_laws.proofs.classes.conjuncts_are_over.Goals as goal

pub returns : goal.returns
returns c = record {
  typed = λ ws type_of typed. in_typed type_of ws typed;
  columns = λ ws test each. in_columns ws test each;
  atoms = λ ws most few. in_atoms ws most few;
}
