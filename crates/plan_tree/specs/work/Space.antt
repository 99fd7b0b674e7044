-- Working words beside those of `Space`.
use Rattle.std.specs.Prelude.{ℕ, Bool, not, ◌||◌, nat_lt, List, length}
use Rattle.pg_base.specs.declared.numbers.IndexNo.{IndexNo}
use Rattle.pg_base.specs.declared.numbers.RelNo.{RelNo}
use Rattle.pg_base.specs.declared.rel_set.RelSet.{RelSet}
use Rattle.pg_expr.specs.Cond.{Cond}
use Rattle.sql_query.specs.catalog_Contents.{Contents, index_at}
use Rattle.eq_classes.specs.Clauses.{Set}
use Rattle.sql_query.specs.Queries.{Query}
use Rattle.path_cost.specs.Estimates.{conditions_from}
use Rattle.index_match.specs.Conditions.{is_hash}
use Rattle.pg_expr.specs.work.AtomSets.{contains}
use Rattle.plan_tree.specs.Space.{others_named, conditions_at}

-- the conditions of the clauses of a set
abbrev pub conditions_in : Query → List ℕ → List Cond
conditions_in q set = conditions_from 0 (contains set) q.classes.clauses

-- the relations other than r that the conditions of the clauses of a set name
abbrev pub named_beside : Query → RelNo → List ℕ → Set
named_beside q r set = others_named r.0 (conditions_in q set)

module _ (c : Contents) (q : Query) where
  -- an index may serve an index scan: a hash index has a condition
  abbrev pub may_serve : RelNo → IndexNo → RelSet → Bool
  may_serve r i p = not (is_hash (index_at c i).method) || nat_lt 0 (length (conditions_at c q r i p))
