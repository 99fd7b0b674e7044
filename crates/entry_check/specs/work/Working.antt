-- What the joins of two sets have in common. Own.
use Rattle.std.specs.Prelude.{◌≡◌, ◌-◌, ◌^◌, ◌&&◌, ◌||◌, ℕ, Some, min, not, slice_get, List, length, nat_lt}
use Rattle.pg_base.specs.Sets.{has}
use Rattle.catalog.specs.Contents.{Contents}
use Rattle.cost_rules.specs.work.Costs.{IsEstimate}
use Rattle.eq_classes.specs.Parts.{is_join}
use Rattle.sql_query.specs.Queries.{Query}
use Rattle.path_cost.specs.Costs.{operators}
use Rattle.path_cost.specs.Estimates.{conditions_where, is_pair_of, pairs, set_rows}
use Rattle.pathkeys.specs.work.Finding.{class_numbers}
use Rattle.plan_tree.specs.Costs.{join_operators}
use Rattle.plan_tree.specs.Plans.{Plan, param_of, set_of, joins}
use Rattle.plan_tree.specs.Space.{IsSameSet}
use Rattle.entry_check.specs.declared.merges.MergeWork.{MergeWork}
use Rattle.entry_check.specs.declared.nests.NestWork.{NestWork}
use Rattle.pg_base.specs.declared.rel_set.RelSet.{RelSet}
use Rattle.pg_expr.specs.work.AtomSets.{contains}
use Rattle.eq_classes.specs.Clauses.{ClassTable}
use Rattle.eq_classes.specs.Listing.{clause_at}
use Rattle.eq_classes.specs.declared.classes.ClassNo.{ClassNo}

-- the operators that each pair of rows of a nested loop of two sets goes through, whose inner side is given the rows of a
-- third one
abbrev pub AreNestOperators : Query → ℕ → ℕ → ℕ → ℕ → Type 0
AreNestOperators q a b p n = (o i : Plan) → IsSameSet (set_of o) (has a) → IsSameSet (set_of i) (has b) → IsSameSet (param_of i) (has p) → n ≡ min (join_operators q o i) (2 ^ 64 - 1)

-- the operators that were worked out for each pair of rows of a nested loop are the right ones
abbrev pub AreGiven : Query → NestWork → Type 0
AreGiven q w = (p n : ℕ) → slice_get w.given p ≡ Some (Some n) → AreNestOperators q w.outer.0 w.inner.0 p n

module _ (c : Contents) (q : Query) where
  -- of nested loops: their set, its rows, their operators where the inner side is given no rows, and where it is given some
  pub record IsNestWork (w : NestWork) : Type 0 where
    pub union : (k : ℕ) → has w.set.0 k ≡ has w.outer.0 k || has w.inner.0 k
    pub estimated : w.rows ≡ set_rows c q.range q.classes (has w.set.0)
    pub tested : AreNestOperators q w.outer.0 w.inner.0 0 w.ops
    pub given : AreGiven q w

  -- of merges by a list: their set, its rows, the pairs of rows that are equal in the classes of the list, and the
  -- operators of the other clauses
  pub record IsMergeWork (w : MergeWork) : Type 0 where
    pub union : (k : ℕ) → has w.set.0 k ≡ has w.outer.0 k || has w.inner.0 k
    pub estimated : w.rows ≡ set_rows c q.range q.classes (has w.set.0)
    pub paired : w.equal ≡ pairs c q.range q.classes (has w.outer.0) (has w.inner.0) (class_numbers w.list.now)
    pub bounded : IsEstimate w.equal
    pub tested : w.ops ≡ min (operators (conditions_where (λ k. is_join (has w.outer.0) (has w.inner.0) k && not (is_pair_of (class_numbers w.list.now) k)) q.classes.clauses)) (2 ^ 64 - 1)

-- the clauses that a join of one set tests with any plan of a second that is given the rows of a third
abbrev pub AreClausesTested : ClassTable → RelSet → RelSet → RelSet → List ℕ → Type 0
AreClausesTested t a b p tested = (i : Plan) → IsSameSet (set_of i) (has b.0) → IsSameSet (param_of i) (has p.0) →
    (k : ℕ) → contains tested k ≡ nat_lt k (length t.clauses) && joins (has a.0) i (clause_at t.clauses k)

-- the operators of the clauses that a merge of two sets tests beside the equality of the classes of a list
abbrev pub merge_tests : Query → List ClassNo → RelSet → RelSet → ℕ
merge_tests q list a b =
    min (operators (conditions_where
    (λ k. is_join (has a.0) (has b.0) k && not (is_pair_of (class_numbers list) k)) q.classes.clauses)) (2 ^ 64 - 1)
