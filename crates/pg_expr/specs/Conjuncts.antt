-- The conjuncts of a condition. Source: PostgreSQL, src/backend/optimizer/README (implicit-AND lists of qual clauses).
use Rattle.pg_expr.specs.Cond.{Cond, all_of, Conds, no_conds, cond_and, joined}

-- the parts of an AND, those of an AND within it in its place; any other condition alone
abbrev mutual
  pub conjuncts_of : Cond → Conds
  conjuncts_of (all_of cs) = conjuncts_of_all cs
  conjuncts_of c = cond_and c no_conds

  pub conjuncts_of_all : Conds → Conds
  conjuncts_of_all no_conds = no_conds
  conjuncts_of_all (cond_and c cs) = joined (conjuncts_of c) (conjuncts_of_all cs)
