-- What is drawn and printed of a grouped query whose base is in the order that the chosen input is asked in. Own.
use Rattle.std.specs.Prelude.{◌≡◌, ◌+◌, ◌*◌, ◌^◌, ◌<◌, All, List, ◌++◌, length, map}
use Rattle.pg_value.specs.declared.value.Value.{Value}
use Rattle.sql_query.specs.Grouped.{GroupedQuery}
use Rattle.sql_query.specs.Queries.{Query}
use Rattle.sql_query.specs.Tuples.{Tuple, no_rows}
use Rattle.sql_query.specs.Worlds.{World}
use Rattle.plan_tree.specs.Counts.{MOST_READS, fetches, looks}
use Rattle.plan_tree.specs.Plans.{Plan}
use Rattle.plan_tree.specs.Run.{run}
use Rattle.plan_tree.specs.Space.{IsFinished}
use Rattle.group_values.specs.Groups.{Seen, lines}
use Rattle.group_values.specs.declared.form.Form.{Form}
use Rattle.group_values.specs.declared.form.Form.TheVariants.{Sorted}
use Rattle.group_values.specs.work.Grouping.{final_shape}
use Rattle.group_values.specs.work.Neighbours.{AreTogether}
use Rattle.group_values.specs.declared.task.GroupPlan.{GroupPlan}
use Rattle.group_values.specs.declared.task.GroupTask.{GroupTask}
use Rattle.group_runs.specs.Seen.{seen_of}
use Rattle.group_query.specs.Shapes.{args_of, calls_of, shape_of}
use Rattle.group_explain.specs.work.Texts.{task_text}
use Rattle.group_explain.specs.reply_Effort.{exactly}
use Rattle.group_explain.specs.reply_Replies.{Reply}
use Rattle.group_reply.specs.work.Columns.{AreSeenOf, IsItemIn}
use Rattle.group_reply.specs.Replies.{item_types, lines_text}
use Rattle.plan_tree.specs.work.Views.{path}
use Rattle.group_explain.specs.declared.chosen.Chosen.{Chosen}

-- the lines of groups of what is seen, sorted in the end where the plan says so
abbrev pub final_lines : GroupedQuery → GroupPlan → List Seen → List (List Value)
final_lines g p ss = lines (final_shape p.sort_after (shape_of g)) ss

module _ (w : World) (q : Query) (g : GroupedQuery) where
  -- what is seen of tuples
  abbrev pub seen_all : List Tuple → List Seen
  seen_all ts = map (seen_of w q g.keys (args_of g.items)) ts

  -- the tuples of a plan
  abbrev pub drawn : Plan → List Tuple
  drawn p = run w q p (no_rows q)

  -- an input whose tuples can be grouped: finished, over columns that are there, the tuples of a group side by side where only
  -- the last group is looked at; places are numbers below 2^32
  pub record IsInputFor (form : Form) (p : Plan) : Type 0 where
    pub finished : IsFinished w.contents q p
    pub seen : AreSeenOf w.contents q.range g.keys (args_of g.items)
    pub items : All (IsItemIn w.contents q.range g.keys) g.items
    pub together : form ≡ Sorted → AreTogether (seen_all (drawn p))
    pub few_keys : length g.keys < 2 ^ 32
    pub few_calls : length (calls_of g.items) < 2 ^ 32

  -- the plan's text and the lines of the groups of the input's tuples, with the input's fetches, and its looks with 32 for each
  -- tuple
  abbrev pub drawn_reply : GroupTask → GroupPlan → Plan → Reply
  drawn_reply t chosen p = record {
    bytes = task_text w.contents g t chosen p ++ lines_text (item_types w.contents q.range g.keys g.items) (final_lines g chosen (seen_all (drawn p)));
    fetched = exactly (fetches w q p (no_rows q));
    looked = looks w q p (no_rows q) + MOST_READS * length (drawn p);
  }

  -- the reply of a chosen plan: its text and the lines of the groups of its input's tuples
  abbrev pub chosen_reply : Chosen → Reply
  chosen_reply x = drawn_reply x.task x.plan (path x.input).tree
