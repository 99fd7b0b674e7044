-- Plans that group the tuples of a query, and the least one (PostgreSQL, src/backend/optimizer/plan/planner.c,
-- create_ordinary_grouping_paths; the space is own).
use Rattle.std.specs.Prelude.{◌≡◌, ℕ, ◌<◌, ◌≤◌, Bool, true, not, nat_lt, List, [], length, map, Option, Some, None}
use Rattle.catalog.specs.Contents.{Contents}
use Rattle.cost_rules.specs.declared.parameters.TheConstants.{MOST_COST}
use Rattle.eq_classes.specs.declared.order.OrderItem.{OrderItem}
use Rattle.eq_classes.specs.Clauses.{first_in}
use Rattle.eq_classes.specs.Listing.{class_at}
use Rattle.pg_expr.specs.declared.operand.ColRef.{ColRef}
use Rattle.path_cost.specs.Columns.{stats_of}
use Rattle.pathkeys.specs.Keys.{Keys, covers, order_keys}
use Rattle.sql_query.specs.Queries.{Query, all_of_query, in_order_of}
use Rattle.plan_tree.specs.Costs.{cost, query_rows}
use Rattle.plan_tree.specs.Plans.{Plan}
use Rattle.plan_tree.specs.Space.{IsFinished}
use Rattle.group_values.specs.declared.form.Form.{Form}
use Rattle.group_values.specs.declared.form.Form.TheVariants.{Sorted, Hashed}
use Rattle.group_values.specs.GroupCosts.{estimated_groups, grouped_cost, row_tests, whole_cost}

-- a query whose tuples are grouped: the relations with their conditions and classes, the GROUP BY columns as items of an order,
-- the items of ORDER BY, and the number of calls
pub record GroupQuery : Type 0 where
  pub base : Query
  pub groups : List OrderItem
  pub lines : List OrderItem
  pub calls : ℕ

-- the classes by which groups are told apart: those of the GROUP BY columns
abbrev pub group_keys : GroupQuery → Keys
group_keys g = order_keys g.base.classes g.groups

-- the classes by which lines are sorted: those of ORDER BY
abbrev pub line_keys : GroupQuery → Keys
line_keys g = order_keys g.base.classes g.lines

-- how many different values a column is taken to have; a class without a member is taken to have one
abbrev pub distinct_in : Contents → Query → Option ColRef → ℕ
distinct_in c q None = 1
distinct_in c q (Some x) = (stats_of c q.range x).distinct

-- how many different values the first member of a class is taken to have
abbrev pub distinct_of : Contents → Query → ℕ → ℕ
distinct_of c q n = distinct_in c q (first_in (class_at q.classes.classes n) (all_of_query q))

-- the classes by which the groups of a form come sorted
abbrev pub form_keys : Form → GroupQuery → Keys
form_keys Sorted g = group_keys g
form_keys Hashed g = []

-- how many different values the first member of each group key is taken to have
abbrev pub distinct_of_keys : Contents → GroupQuery → List ℕ
distinct_of_keys c g = map (distinct_of c g.base) (group_keys g)

-- how many groups there are taken to be
abbrev pub group_rows : Contents → GroupQuery → ℕ
group_rows c g = estimated_groups (query_rows c g.base) (distinct_of_keys c g)

-- whether a form can group a query: hashed groups need a key
abbrev pub can_group : Form → GroupQuery → Bool
can_group Sorted g = true
can_group Hashed g = nat_lt 0 (length (group_keys g))

-- whether the groups of a form are sorted in the end: they do not come in the order of the lines
abbrev pub is_sorted_after : Form → GroupQuery → Bool
is_sorted_after form g = not (covers (form_keys form g) (line_keys g))

-- the query whose finished plans a form can group: in the order of the group keys, or in none
abbrev pub input_query : Form → GroupQuery → Query
input_query Sorted g = in_order_of g.base g.groups
input_query Hashed g = in_order_of g.base []

-- what the node that groups costs over a plan, with that plan
abbrev pub node_total : Contents → GroupQuery → Form → Plan → ℕ
node_total c g form p = grouped_cost (cost c (input_query form g) p).total (query_rows c g.base) (row_tests form (length (group_keys g)) g.calls) (group_rows c g)

-- what a plan costs in all that groups the tuples of another one
abbrev pub plan_total : Contents → GroupQuery → Form → Plan → ℕ
plan_total c g form p = whole_cost (is_sorted_after form g) (node_total c g form p) (group_rows c g)

-- a plan that groups: a form over a plan whose tuples it can group, below the limit
pub record IsGroupPlan (c : Contents) (g : GroupQuery) (form : Form) (p : Plan) : Type 0 where
  pub offered : can_group form g ≡ true
  pub input : IsFinished c (input_query form g) p
  pub admissible : plan_total c g form p < MOST_COST

-- a plan that groups, and no plan that groups costs less
pub record IsLeastOf (c : Contents) (g : GroupQuery) (form : Form) (p : Plan) : Type 0 where
  pub is : IsGroupPlan c g form p
  pub least : (f : Form) (other : Plan) → IsGroupPlan c g f other → plan_total c g form p ≤ plan_total c g f other
