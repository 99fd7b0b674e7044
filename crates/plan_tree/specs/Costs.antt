-- The estimated rows, the cost and the price of a plan, by its structure. They are exact: no number is cut. Own.
use Rattle.std.specs.Prelude.{ℕ, ◌+◌, ◌-◌, ◌*◌, min, Bool, not, true, false, ◌&&◌, List, [], ◌∷◌, length, sum, Option, Some, None}
use Rattle.pg_base.specs.Sets.{has}
use Rattle.pg_base.specs.declared.numbers.IndexNo.{IndexNo}
use Rattle.pg_base.specs.declared.numbers.RelNo.{RelNo}
use Rattle.pg_base.specs.declared.rel_set.RelSet.{RelSet}
use Rattle.pg_expr.specs.Cond.{Cond}
use Rattle.sql_query.specs.catalog_Contents.{Contents, index_at}
use Rattle.eq_classes.specs.Clauses.{Set}
use Rattle.eq_classes.specs.Parts.{is_join}
use Rattle.index_match.specs.Numbered.{has_number}
use Rattle.sql_query.specs.Queries.{Query, all_of_query}
use Rattle.sql_query.specs.declared.window.Window.{Window}
use Rattle.cost_rules.specs.declared.pair.Pair.{Pair}
use Rattle.cost_rules.specs.declared.parameters.TheConstants.{BITMAP_CHILD}
use Rattle.cost_rules.specs.Costs.{sort_cost, nest_cost, merge_cost, price_of}
use Rattle.path_cost.specs.Estimates.{conditions_where, is_pair_of, pairs, param_rows, set_rows}
use Rattle.path_cost.specs.Costs.{operators, seq_cost, bitmap_cost, index_cost, index_part, arm_part}
use Rattle.pathkeys.specs.Keys.{Keys}
use Rattle.index_match.specs.Arms.{arms_of, arm_parts, arm_bounds}
use Rattle.index_match.specs.Conditions.{index_conditions}
use Rattle.index_match.specs.Bounds.{index_bounds}
use Rattle.plan_tree.specs.Plans.{Plan, seq, index, index_only, bitmap, sort, nest, merge, BitTree, leaf, all_hold, some_arm, BitTrees, no_trees, tree_and, set_of, GivenScan, given_scan, joins}
use Rattle.plan_tree.specs.Bitmaps.{condition_at, uses}

-- the parts of indexes together, with so much for each after the first
abbrev pub together : List ℕ → ℕ
together parts = sum parts + BITMAP_CHILD * (length parts - 1)

-- the rows that a statement asks for, of n: all, or those up to its limit behind its offset
abbrev pub asked_by : Option ℕ → ℕ → ℕ → ℕ
asked_by None offset n = n
asked_by (Some limit) offset n = min n (limit + offset)

-- the rows of n that LIMIT and OFFSET ask of a plan; those that OFFSET passes over are made too (PostgreSQL manual, LIMIT
-- and OFFSET)
abbrev pub asked : Window → ℕ → ℕ
asked w n = asked_by w.limit w.offset n

-- the operators of a merge's clauses that are no pair clauses of its keys, and those of all clauses of a nested loop
abbrev pub merge_operators : Query → Keys → Plan → Plan → ℕ
merge_operators q keys outer inner = operators (conditions_where (λ k. is_join (set_of outer) (set_of inner) k && not (is_pair_of keys k)) q.classes.clauses)

-- a nested loop tests each clause that joins its sides at each pair of rows: the operators of these together
abbrev pub join_operators : Query → Plan → Plan → ℕ
join_operators q outer inner = operators (conditions_where (joins (set_of outer) inner) q.classes.clauses)

module _ (c : Contents) (q : Query) where
  -- the rows that a plan is taken to give: by its set and its parameterisation alone
  abbrev pub rows_given : Set → Option GivenScan → ℕ
  rows_given set None = set_rows c q.range q.classes set
  rows_given set (Some s) = param_rows c q.range q.classes s.relation.0 (has s.param.0)

  -- the estimated rows of a plan: of one run, so that a scan with a parameterisation counts those for one outer row
  -- (ppi_rows)
  abbrev pub estimate : Plan → ℕ
  estimate p = rows_given (set_of p) (given_scan p)

  -- the part of an index that serves an arm of an OR, where the rows of a parameterisation are given
  abbrev pub part_of_arm : RelNo → RelSet → Cond → IndexNo → ℕ
  part_of_arm r p arm i = arm_part c q.range q.classes i r.0 (has p.0) (arm_parts arm) (has_number (arm_bounds (index_at c i) r.0 arm))

  -- the parts of the indexes of an OR's arms
  abbrev pub parts_of_arms : RelNo → RelSet → List Cond → List IndexNo → List ℕ
  parts_of_arms r p (arm ∷ arms) (i ∷ is) = part_of_arm r p arm i ∷ parts_of_arms r p arms is
  parts_of_arms r p _ _ = []

  -- the parts of the indexes of a bitmap tree: of its leaves and of its arms
  abbrev mutual
    pub part_of : RelNo → RelSet → BitTree → ℕ
    part_of r p (leaf i) = index_part c q.range q.classes i r.0 (has p.0) (has_number (index_bounds c q.classes i r.0 (has p.0))) (has_number (index_conditions c q.classes i r.0 (has p.0)))
    part_of r p (all_hold bs) = together (parts_of_all r p bs)
    part_of r p (some_arm n is) = together (parts_of_arms r p (arms_of (condition_at q n)) is)

    pub parts_of_all : RelNo → RelSet → BitTrees → List ℕ
    parts_of_all r p no_trees = []
    parts_of_all r p (tree_and b bs) = part_of r p b ∷ parts_of_all r p bs

  -- the cost of an index scan or an index-only scan by the relation's clauses and the parameterisation, in 1/400 of a
  -- sequential page
  abbrev pub scan_cost : RelNo → IndexNo → RelSet → Bool → Pair
  scan_cost r i p only = index_cost c q.range q.classes i r.0 (has p.0) (has_number (index_bounds c q.classes i r.0 (has p.0))) (has_number (index_conditions c q.classes i r.0 (has p.0))) only

  -- what a plan costs before its first row, and in all
  abbrev pub cost : Plan → Pair
  cost (seq r) = seq_cost c q.range q.classes r.0
  cost (index r i backward p) = scan_cost r i p false
  cost (index_only r i backward p) = scan_cost r i p true
  cost (bitmap r p bits) = bitmap_cost c q.range q.classes r.0 (has p.0) (uses c q r.0 (has p.0) bits) (part_of r p bits)
  cost (sort keys input) = sort_cost (cost input) (set_rows c q.range q.classes (set_of input))
  cost (nest outer inner) = nest_cost (cost outer) (cost inner) (estimate outer) (estimate inner) (join_operators q outer inner)
  cost (merge keys outer inner) = merge_cost (cost outer) (cost inner) (estimate outer) (estimate inner) (length keys) (pairs c q.range q.classes (set_of outer) (set_of inner) keys) (merge_operators q keys outer inner)

  -- the rows that the whole query is taken to give
  abbrev pub query_rows : ℕ
  query_rows = set_rows c q.range q.classes (all_of_query q)

  -- the total, or under a window the cost of the rows asked for
  abbrev pub price_by : Option Window → Plan → ℕ
  price_by None p = (cost p).total
  price_by (Some w) p = price_of (cost p) (asked w query_rows) query_rows

  -- what finished plans are compared by: the total cost, or under LIMIT and OFFSET that of the rows asked for
  -- (compare_fractional_path_costs)
  abbrev pub price : Plan → ℕ
  price p = price_by q.window p
