-- The lines above the plan whose tuples are grouped (PostgreSQL manual, Using EXPLAIN; src/backend/commands/explain.c; the
-- forms are own).
use Rattle.std.specs.Prelude.{ℕ, Bool, true, false, cond, List, [], ◌∷◌, ◌++◌, codes, length}
use Rattle.std.specs.Fmt.{decimal}
use Rattle.catalog.specs.Contents.{Contents}
use Rattle.reply.specs.explain_Texts.{figures_text, keys_text, lead, text_at}
use Rattle.pathkeys.specs.Keys.{Keys}
use Rattle.plan_tree.specs.Plans.{Plan}
use Rattle.sql_query.specs.Grouped.{GroupedQuery}
use Rattle.sql_query.specs.Queries.{all_of_query}
use Rattle.group_query.specs.Grouping.{group_items}
use Rattle.group_query.specs.Shapes.{calls_of}
use Rattle.group_values.specs.declared.form.Form.{Form}
use Rattle.group_values.specs.declared.form.Form.TheVariants.{Sorted, Hashed}
use Rattle.group_explain.specs.GroupPlans.{GroupQuery, group_keys, group_rows, input_query, is_sorted_after, line_keys, node_total, plan_total}

-- what is grouped, as plans that group see it
abbrev pub group_query : GroupedQuery → GroupQuery
group_query g = record { base = g.base; groups = group_items g.base.classes g.keys; lines = g.order; calls = length (calls_of g.items) }

-- the name of the node of a form, as PostgreSQL prints it, before its keys
abbrev pub form_name : Form → List ℕ
form_name Sorted = codes "GroupAggregate by "
form_name Hashed = codes "HashAggregate by "

-- what a node that groups is: by its keys, where it has any
abbrev pub title_by : Keys → List ℕ → List ℕ
title_by [] by_keys = codes "Aggregate"
title_by (n ∷ ns) by_keys = by_keys

-- the depth of the first line of the input
abbrev pub input_depth : Bool → ℕ
input_depth sort_after = cond sort_after 2 1

module _ (c : Contents) (g : GroupedQuery) where
  -- keys by their first members among all relations
  abbrev pub all_keys_text : Keys → List ℕ
  all_keys_text keys = keys_text c g.base (all_of_query g.base) keys

  -- what the node that groups is
  abbrev pub group_title : Form → List ℕ
  group_title form = title_by (group_keys (group_query g)) (form_name form ++ all_keys_text (group_keys (group_query g)))

  -- a line of a node over groups
  abbrev pub group_line : ℕ → List ℕ → ℕ → ℕ → List ℕ
  group_line d title total rows = lead d ++ (title ++ figures_text (decimal total) rows)

  -- the line of the sort of the groups, with a total and so many groups
  abbrev pub sort_line : ℕ → ℕ → List ℕ
  sort_line total groups = group_line 0 (codes "Sort by " ++ all_keys_text (line_keys (group_query g))) total groups

  -- the lines above the input, with what the node that groups costs, what the plan costs in all, and so many groups: with a
  -- sort of the groups on top its line stands first
  abbrev pub lines_above : Form → ℕ → ℕ → ℕ → Bool → List ℕ
  lines_above form node total groups true = sort_line total groups ++ group_line 1 (group_title form) node groups
  lines_above form node total groups false = group_line 0 (group_title form) total groups

  -- the lines above the input of a plan that groups, with its own costs and its groups
  abbrev pub plan_lines_above : Form → Plan → Bool → List ℕ
  plan_lines_above form p sort_after = lines_above form (node_total c (group_query g) form p) (plan_total c (group_query g) form p) (group_rows c (group_query g)) sort_after

  -- a plan that groups: these lines, and the input plan beneath them
  abbrev pub group_plan_text : Form → Plan → List ℕ
  group_plan_text form p =
      plan_lines_above form p (is_sorted_after form (group_query g)) ++ text_at c (input_query form (group_query g)) (input_depth (is_sorted_after form (group_query g))) p
