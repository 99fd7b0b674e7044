-- How many atoms the OR clauses of a query have, and the arms of bitmap trees. Own.
use Rattle.std.specs.Prelude.{◌≤◌, ◌++◌, ◌∷◌, ℕ, List, [], cond, map, sum}
use Rattle.pg_base.specs.declared.limits.TheConstants.{MOST_ATOMS}
use Rattle.pg_base.specs.declared.numbers.IndexNo.{IndexNo}
use Rattle.pg_expr.specs.Columns.{atom_count}
use Rattle.eq_classes.specs.Clauses.{Clause}
use Rattle.sql_query.specs.Queries.{Query}
use Rattle.plan_tree.specs.Bitmaps.{is_or}
use Rattle.plan_tree.specs.Plans.{BitTree}
use Rattle.plan_check.specs.Plains.{arms_in}

-- the atoms of a clause that is an OR
abbrev pub or_atoms : Clause → ℕ
or_atoms k = cond (is_or k.cond) (atom_count k.cond) 0

-- the OR clauses together have no more atoms than a statement may have
abbrev pub HasFewAtoms : Query → Type 0
HasFewAtoms q = sum (map or_atoms q.classes.clauses) ≤ MOST_ATOMS

-- the indexes of the arms of some trees, in order
abbrev pub arms_of_all : List BitTree → List IndexNo
arms_of_all [] = []
arms_of_all (b ∷ bs) = arms_in b ++ arms_of_all bs
