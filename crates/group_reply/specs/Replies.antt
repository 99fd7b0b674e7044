-- What a grouped SELECT prints, and what that costs. Own.
use Rattle.std.specs.Prelude.{ℕ, ◌≡◌, ◌+◌, ◌*◌, List, ◌++◌, length, map, slice_index_or, IsPermutation}
use Rattle.std.specs.List.{flat_map}
use Rattle.pg_value.specs.Sorting.{IsInOrder, one_after_other}
use Rattle.pg_value.specs.declared.value.SqlType.{SqlType}
use Rattle.pg_value.specs.declared.value.SqlType.TheVariants.{Int8}
use Rattle.pg_value.specs.declared.value.Value.{Value}
use Rattle.pg_expr.specs.declared.operand.ColRef.{ColRef}
use Rattle.catalog.specs.Contents.{Contents}
use Rattle.catalog.specs.Range.{Range, type_in}
use Rattle.reply_text.specs.Texts.{count_line, row_line}
use Rattle.sql_query.specs.Grouped.{GroupedQuery}
use Rattle.sql_query.specs.declared.grouped.Item.{Item}
use Rattle.sql_query.specs.declared.grouped.Item.TheVariants.{Key, Min, Max}
use Rattle.sql_query.specs.Meaning.{meaning}
use Rattle.sql_query.specs.Tuples.{Tuple, no_rows}
use Rattle.sql_query.specs.Worlds.{World}
use Rattle.plan_tree.specs.Counts.{MOST_READS, fetches, looks}
use Rattle.plan_tree.specs.Plans.{Plan}
use Rattle.plan_tree.specs.Run.{run}
use Rattle.group_values.specs.Groups.{Seen, line, lines, sorter_order, summaries}
use Rattle.group_values.specs.Shapes.{Summary}
use Rattle.group_values.specs.declared.form.Form.{Form}
use Rattle.group_explain.specs.GroupPlans.{input_query}
use Rattle.group_runs.specs.Seen.{seen_of}
use Rattle.group_query.specs.Shapes.{args_of, shape_of}
use Rattle.group_explain.specs.reply_Effort.{exactly}
use Rattle.group_explain.specs.reply_Replies.{Reply}
use Rattle.group_explain.specs.Plans.{IsGroupExplanation}
use Rattle.group_explain.specs.Texts.{group_query}

module _ (w : World) (g : GroupedQuery) where
  -- what is seen of a tuple
  abbrev pub seen_at : Tuple → Seen
  seen_at t = seen_of w g.base g.keys (args_of g.items) t

  -- what is known of each group of the tuples that the query means
  abbrev pub meant_groups : List Summary
  meant_groups = summaries (shape_of g) (map seen_at (meaning w g.base))

  -- one line for each group of the tuples that the query means
  abbrev pub meant_lines : List (List Value)
  meant_lines = lines (shape_of g) (map seen_at (meaning w g.base))

  -- the tuples of the input of a plan that groups
  abbrev pub input_tuples : Form → Plan → List Tuple
  input_tuples form p = run w (input_query form (group_query g)) p (no_rows g.base)

  -- one line for each group of the tuples of a plan's input, in ORDER BY
  abbrev pub plan_lines : Form → Plan → List (List Value)
  plan_lines form p = lines (shape_of g) (map seen_at (input_tuples form p))

  -- lines are those of the query's groups, each once, in the order of the items of ORDER BY
  pub record AreOrderedLines (shown : List (List Value)) : Type 0 where
    pub groups : List Summary
    pub meant : IsPermutation groups meant_groups
    pub are : shown ≡ map (line (shape_of g).items) groups
    pub ordered : IsInOrder (one_after_other (map sorter_order (shape_of g).order)) groups

-- the type of what an item shows: that of its column, int8 of a count
abbrev pub item_type : Contents → Range → List ColRef → Item → SqlType
item_type c range keys (Key n) = type_in c range (slice_index_or keys n (record { rel = record { 0 = 0 }; col = record { 0 = 0 } }))
item_type c range keys (Min x) = type_in c range x
item_type c range keys (Max x) = type_in c range x
item_type c range keys i = Int8

-- the types of what items show, from the left
abbrev pub item_types : Contents → Range → List ColRef → List Item → List SqlType
item_types c range keys is = map (item_type c range keys) is

-- a line for each group, each of its values as one of its item's type, and the line of their number
abbrev pub lines_text : List SqlType → List (List Value) → List ℕ
lines_text types ls = flat_map (row_line types) ls ++ count_line (length ls)

-- a grouped SELECT: the text of a plan that groups, which none undercuts, and the lines of the groups of its input's tuples,
-- which are as a bag those of the query's meaning and stand in ORDER BY, with their number; the rows that the input fetches
-- are fetched, and there are its looks, with 32 for each of its tuples
pub record IsGroupedAnswerTo (w : World) (g : GroupedQuery) (r : Reply) : Type 0 where
  pub form : Form
  pub plan : Plan
  pub text : List ℕ
  pub explanation : IsGroupExplanation w.contents g form plan text
  pub shown : List (List Value)
  pub of_plan : shown ≡ plan_lines w g form plan
  pub meant : IsPermutation shown (meant_lines w g)
  pub ordered : AreOrderedLines w g shown
  pub printed : r.bytes ≡ text ++ lines_text (item_types w.contents g.base.range g.keys g.items) shown
  pub fetched : r.fetched ≡ exactly (fetches w (input_query form (group_query g)) plan (no_rows g.base))
  pub looked : r.looked ≡ looks w (input_query form (group_query g)) plan (no_rows g.base) + MOST_READS * length (input_tuples w g form plan)
