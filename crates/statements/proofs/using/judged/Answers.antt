use Rattle.sql_query.specs.Worlds.{world}
use Rattle.statements.proofs.using.judged.Goals as goal

pub returns-clause-ordered : goal.returns-clause-ordered
returns-clause-ordered c = λ stored. record {
  bound = c.in_ok-query.ensures.bound;
  whole = c.in_ok-query.ensures.whole;
  order = c.in_ok-query.ensures.within.0;
  within = c.in_ok-query.ensures.within.1;
  told = c.in_ok-told.ensures.told;
  read = c.in_ok-query.ensures.read stored;
}
