-- What is used by plans and bitmap trees, as they are held, and what they cost. Own.
use Rattle.std.specs.Prelude.{ℕ, ◌||◌, ◌&&◌, Bool, List, length, nat_lt}
use Rattle.pg_base.specs.Sets.{has}
use Rattle.pg_base.specs.declared.numbers.IndexNo.{IndexNo}
use Rattle.pg_base.specs.declared.numbers.RelNo.{RelNo}
use Rattle.pg_base.specs.declared.rel_set.RelSet.{RelSet}
use Rattle.pg_expr.specs.work.AtomSets.{contains}
use Rattle.eq_classes.specs.Clauses.{ClassTable}
use Rattle.eq_classes.specs.Listing.{clause_at}
use Rattle.eq_classes.specs.declared.classes.ClassNo.{ClassNo}
use Rattle.cost_rules.specs.Costs as rules
use Rattle.cost_rules.specs.work.Costs as rules_work
use Rattle.cost_rules.specs.declared.pair.Pair.{Pair}
use Rattle.index_match.specs.Conditions.{index_conditions}
use Rattle.index_match.specs.Numbered.{has_number}
use Rattle.index_match.specs.declared.matching.Match.{Match}
use Rattle.pathkeys.specs.work.Finding.{class_numbers}
use Rattle.path_cost.specs.Estimates.{pairs}
use Rattle.sql_query.specs.catalog_Contents.{Contents}
use Rattle.sql_query.specs.Queries.{Query}
use Rattle.plan_tree.specs.declared.bits.BitTree.{BitTree as Bits}
use Rattle.plan_tree.specs.declared.plan.Plan.{Plan as Planned}
use Rattle.plan_tree.specs.Bitmaps.{some_uses, uses}
use Rattle.plan_tree.specs.Costs.{cost, estimate, join_operators, merge_operators}
use Rattle.plan_tree.specs.Plans.{bitmap, joins, set_of}
use Rattle.plan_tree.specs.work.Views.{bits, bits_all, plan}

-- a number is that of a clause, and of a bound or a test of an index
abbrev pub is_of_match : ClassTable → Match → ℕ → Bool
is_of_match t found k = nat_lt k (length t.clauses) && (contains found.bounds k || contains found.tests k)

-- a number is that of a clause that a join of an outer plan with an inner one tests
abbrev pub joins_at : Planned → Planned → ClassTable → ℕ → Bool
joins_at outer inner t k = nat_lt k (length t.clauses) && joins (set_of (plan outer)) (plan inner) (clause_at t.clauses k)

-- a number is in a set, or that of a condition of an index
abbrev pub used_with_index : Contents → Query → RelNo → RelSet → IndexNo → List ℕ → ℕ → Bool
used_with_index c q r p i used k =
    contains used k || (nat_lt k (length q.classes.clauses) && has_number (index_conditions c q.classes i r.0 (has p.0)) k)

-- a number is in a set, or that of a clause that a bitmap tree uses
abbrev pub used_with_tree : Contents → Query → RelNo → RelSet → Bits → List ℕ → ℕ → Bool
used_with_tree c q r p tree used k =
    contains used k || (nat_lt k (length q.classes.clauses) && uses c q r.0 (has p.0) (bits tree) k)

-- a number is in a set, or that of a clause that one of some bitmap trees uses
abbrev pub used_with_all : Contents → Query → RelNo → RelSet → List Bits → List ℕ → ℕ → Bool
used_with_all c q r p trees used k =
    contains used k || (nat_lt k (length q.classes.clauses) && some_uses c q r.0 (has p.0) (bits_all trees) k)

-- what a bitmap scan by a tree costs
abbrev pub tree_cost : Contents → Query → RelNo → RelSet → Bits → Pair
tree_cost c q r p tree = cost c q (bitmap r p (bits tree))

-- the operators of the clauses of a merge that are no pair clauses of its keys
abbrev pub merge_operators_by : Query → List ClassNo → Planned → Planned → ℕ
merge_operators_by q keys outer inner = merge_operators q (class_numbers keys) (plan outer) (plan inner)

module _ (c : Contents) (q : Query) where
  -- what a nested loop costs over these costs of its sides
  abbrev pub nest_over : Planned → Planned → Pair → Pair → Pair
  nest_over outer inner a b =
      rules.nest_cost a b (estimate c q (plan outer)) (estimate c q (plan inner)) (join_operators q (plan outer) (plan inner))

  -- what a merge by some classes costs over these costs of its sides
  abbrev pub merge_over : List ClassNo → Planned → Planned → Pair → Pair → Pair
  merge_over keys outer inner a b =
      rules.merge_cost a b (estimate c q (plan outer)) (estimate c q (plan inner)) (length keys)
      (pairs c q.range q.classes (set_of (plan outer)) (set_of (plan inner)) (class_numbers keys))
      (merge_operators_by q keys outer inner)
