use Rattle.pg_expr.proofs.ColumnLaws.{inside-each, weaker-each, agree-truth}
use Rattle.pg_expr.proofs.laws.column_laws.Goals as goal

pub returns : goal.returns
returns c = record {
  inside = λ e test h. inside-each test e h;
  weaker = λ e test other h each. weaker-each test other h e each;
  agree = λ e test a b h each. agree-truth test a b h e each;
}
