-- From the plan that is chosen for a grouped query to its answer.
use Rattle.std.proofs.Common.{◌≡◌, ℕ, Bool, true, false, not, List, [], get_or, map, refl, sym, ap, ◌∙◌, subst, IsPermutation}
use Rattle.std.proofs.Common.{Result, Ok, Err}
use Rattle.std.specs.Result.{IsErrAnd}
use Rattle.eq_classes.specs.declared.order.OrderItem.{OrderItem}
use Rattle.pg_expr.specs.declared.operand.ColRef.{ColRef}
use Rattle.pg_value.specs.declared.value.Value.{Value}
use Rattle.pathkeys.specs.Keys.{covers, order_keys}
use Rattle.sql_query.specs.Grouped.{GroupedQuery}
use Rattle.sql_query.specs.Queries.{Query, in_order_of}
use Rattle.sql_query.specs.Tuples.{no_rows}
use Rattle.sql_query.specs.WellBound.{IsWellBound}
use Rattle.sql_query.specs.Worlds.{World, IsWorld}
use Rattle.plan_tree.specs.Plans.{Plan}
use Rattle.plan_tree.specs.Run.{run}
use Rattle.plan_tree.specs.Space.{IsFinished}
use Rattle.plan_tree.specs.work.Views.{path}
use Rattle.group_values.specs.Groups.{Seen, lines, sorted, summaries}
use Rattle.group_values.specs.declared.form.Form.{Form}
use Rattle.group_values.specs.declared.form.Form.TheVariants.{Sorted, Hashed}
use Rattle.group_values.specs.work.Grouping.{final_shape}
use Rattle.group_values.specs.work.Neighbours.{AreTogether}
use Rattle.group_values.specs.declared.task.GroupTask.{GroupTask}
use Rattle.group_explain.specs.work.GroupPlans.{IsLeastOfTask, IsTaskOf}
use Rattle.group_runs.proofs.BagLemmas.{groups-in-order}
use Rattle.group_runs.specs.Seen.{seen_of}
use Rattle.group_runs.proofs.OrderLemmas.{plan-needs-no-sort}
use Rattle.group_runs.proofs.RunLemmas.{plan-groups, plan-lines, plan-neighbours}
use Rattle.group_query.specs.Grouping.{IsWellGrouped, group_items}
use Rattle.group_query.specs.Shapes.{args_of, shape_of}
use Rattle.group_explain.specs.declared.chosen.Chosen.{Chosen}
use Rattle.group_explain.specs.Plans.{IsGroupedExplanationOf}
use Rattle.group_explain.specs.work.Plans.{IsChosen, input_base, over_base}
use Rattle.group_explain.specs.Texts.{group_query}
use Rattle.group_explain.specs.work.Texts.{task_text}
use Rattle.group_explain.proofs.NumberLemmas.{text-explains}
use Rattle.group_explain.specs.reply_Effort.{exactly}
use Rattle.group_explain.specs.reply_Putting.{HasWriteCause}
use Rattle.group_explain.specs.reply_Replies.{HasBegun, HasReplied, Reply, Traces}
use Rattle.group_explain.specs.reply_Stops.{stop_by}
use Rattle.group_explain.specs.reply_stop_Broken.{Broken}
use Rattle.group_explain.specs.reply_stop_Broken_TheVariants.{Write, Memory}
use Rattle.group_explain.specs.reply_stop_Stop.{Stop}
use Rattle.group_explain.specs.reply_stop_Stop_TheVariants as stops
use Rattle.group_reply.specs.work.Drawing.{IsInputFor, drawn_reply}
use Rattle.group_reply.specs.Replies.{AreOrderedLines, IsGroupedAnswerTo, meant_groups, meant_lines, seen_at}
use Rattle.group_reply.proofs.ColumnLemmas.{args-there, columns-are, item-there, sorters-are}

covered : (b : Bool) → false ≡ not b → b ≡ true
covered true e = refl
covered false e = e

-- what is seen of a plan's tuples, of a query in an order
abbrev pub ran : World → GroupedQuery → List OrderItem → Plan → List Seen
ran w g o p = map (seen_at w g) (run w (in_order_of g.base o) p (no_rows g.base))

module _ (w : World) (g : GroupedQuery) (world : IsWorld w) (bound : IsWellGrouped w.contents g) where
  -- a query without an order is in none
  plain-bound : IsWellBound w.contents (in_order_of g.base [])
  plain-bound = let P : List OrderItem → Type 0 = λ o. IsWellBound w.contents (in_order_of g.base o) in subst P bound.plain bound.base

  -- over a finished plan in an order
  module _ (o : List OrderItem) (ordered : IsWellBound w.contents (in_order_of g.base o)) (p : Plan) (finished : IsFinished w.contents (in_order_of g.base o) p) where
    lines-meant : IsPermutation (lines (shape_of g) (ran w g o p)) (meant_lines w g)
    lines-meant = plan-lines w (in_order_of g.base o) p world ordered finished (shape_of g) g.keys (args_of g.items) refl

    groups-meant : IsPermutation (sorted (shape_of g).order (summaries (shape_of g) (ran w g o p))) (meant_groups w g)
    groups-meant = plan-groups w (in_order_of g.base o) p world ordered finished (shape_of g) g.keys (args_of g.items) refl

    -- where the keys of ORDER BY are the first of the plan's, no sort of the groups changes their lines
    lines-final : (after : Bool) → after ≡ not (covers (order_keys g.base.classes o) (order_keys g.base.classes g.order))
        → lines (final_shape after (shape_of g)) (ran w g o p) ≡ lines (shape_of g) (ran w g o p)
    lines-final true e = refl
    lines-final false e =
        plan-needs-no-sort w g.base p o g.order world ordered bound.by_lines finished (covered (covers (order_keys g.base.classes o) (order_keys g.base.classes g.order)) e) (shape_of g) g.keys (args_of g.items)
        (sorters-are g.keys g.order bound.order)

    lines-shown : (after : Bool) → after ≡ not (covers (order_keys g.base.classes o) (order_keys g.base.classes g.order))
        → IsPermutation (lines (final_shape after (shape_of g)) (ran w g o p)) (meant_lines w g)
    lines-shown after e = let P : List (List Value) → Type 0 = λ l. IsPermutation l (meant_lines w g) in subst P (sym (lines-final after e)) lines-meant

    ordered-lines : (shown : List (List Value)) → shown ≡ lines (shape_of g) (ran w g o p) → AreOrderedLines w g shown
    ordered-lines shown are = record { groups = sorted (shape_of g).order (summaries (shape_of g) (ran w g o p)); meant = groups-meant; are = are; ordered = groups-in-order (shape_of g) (ran w g o p) }

  answer-by : (form : Form) (after : Bool) (cost rows : ℕ) (t : GroupTask) → IsTaskOf w.contents (group_query g) t
      → (least : IsLeastOfTask w.contents (group_query g) t (record { form = form; sort_after = after; cost = cost; rows = rows }))
      → IsGroupedAnswerTo w g (drawn_reply w (input_base form g) g t (record { form = form; sort_after = after; cost = cost; rows = rows }) least.plan)
  answer-by Sorted after cost rows t task least =
      let o : List OrderItem = group_items g.base.classes g.keys in
      let same : lines (final_shape after (shape_of g)) (ran w g o least.plan) ≡ lines (shape_of g) (ran w g o least.plan) = lines-final o bound.by_groups least.plan least.is.input after least.sort_after in
      record {
        form = Sorted;
        plan = least.plan;
        text = task_text w.contents g t (record { form = Sorted; sort_after = after; cost = cost; rows = rows }) least.plan;
        explanation = text-explains w.contents g t (record { form = Sorted; sort_after = after; cost = cost; rows = rows }) task least;
        shown = lines (final_shape after (shape_of g)) (ran w g o least.plan);
        of_plan = same;
        meant = lines-shown o bound.by_groups least.plan least.is.input after least.sort_after;
        ordered = ordered-lines o bound.by_groups least.plan least.is.input (lines (final_shape after (shape_of g)) (ran w g o least.plan)) same;
        printed = refl;
        fetched = refl;
        looked = refl;
      }
  answer-by Hashed after cost rows t task least =
      let o : List OrderItem = [] in
      let same : lines (final_shape after (shape_of g)) (ran w g o least.plan) ≡ lines (shape_of g) (ran w g o least.plan) = lines-final o plain-bound least.plan least.is.input after least.sort_after in
      record {
        form = Hashed;
        plan = least.plan;
        text = task_text w.contents g t (record { form = Hashed; sort_after = after; cost = cost; rows = rows }) least.plan;
        explanation = text-explains w.contents g t (record { form = Hashed; sort_after = after; cost = cost; rows = rows }) task least;
        shown = lines (final_shape after (shape_of g)) (ran w g o least.plan);
        of_plan = same;
        meant = lines-shown o plain-bound least.plan least.is.input after least.sort_after;
        ordered = ordered-lines o plain-bound least.plan least.is.input (lines (final_shape after (shape_of g)) (ran w g o least.plan)) same;
        printed = refl;
        fetched = refl;
        looked = refl;
      }

  input-by : (form : Form) (p : Plan) → IsFinished w.contents (input_base form g) p → IsInputFor w (input_base form g) (over_base (input_base form g) g) form p
  input-by Sorted p finished =
      let q : Query = in_order_of g.base (group_items g.base.classes g.keys) in
      let P : List ColRef → Type 0 = λ keys. AreTogether (map (seen_of w q keys (args_of g.items)) (run w q p (no_rows q))) in
      record {
        finished = finished;
        seen = record { of_groups = bound.keys; of_calls = args-there w.contents g g.items bound.items };
        items = λ i d lt. item-there w.contents g (get_or g.items i d) (bound.items i d lt);
        together = λ is. subst P (columns-are g.base.classes g.keys) (plan-neighbours w q p world bound.by_groups finished (args_of g.items));
        few_keys = bound.few_keys;
        few_calls = bound.few_calls;
      }
  input-by Hashed p finished = record {
    finished = finished;
    seen = record { of_groups = bound.keys; of_calls = args-there w.contents g g.items bound.items };
    items = λ i d lt. item-there w.contents g (get_or g.items i d) (bound.items i d lt);
    together = λ is. absurd (cc is);
    few_keys = bound.few_keys;
    few_calls = bound.few_calls;
  }

  module _ (x : Chosen) (chosen : IsChosen w.contents g x) where
    abbrev here : Query
    here = input_base x.plan.form g

    abbrev reply-of : Query → Reply
    reply-of q = drawn_reply w q g x.task x.plan (path x.input).tree

    pub answer-is : IsGroupedAnswerTo w g (reply-of here)
    answer-is =
        let P : Plan → Type 0 = λ p. IsGroupedAnswerTo w g (drawn_reply w here g x.task x.plan p) in
        subst P chosen.input (answer-by x.plan.form x.plan.sort_after x.plan.cost x.plan.rows x.task chosen.task chosen.least)

    pub input-is : (q : Query) (left : GroupedQuery) → q ≡ here → left ≡ over_base here g → IsInputFor w q left x.plan.form (path x.input).tree
    input-is q left same over =
        let P : Query → Type 0 = λ b. IsInputFor w b left x.plan.form (path x.input).tree in
        let Q : GroupedQuery → Type 0 = λ h. IsInputFor w here h x.plan.form (path x.input).tree in
        subst P (sym same) (subst Q (sym over) (input-by x.plan.form (path x.input).tree chosen.finished.finished))

    -- what a call did that printed it, and one that printed a part
    module _ (q : Query) (same : q ≡ here) where
      answers : (r : Reply) → r ≡ reply-of q → IsGroupedAnswerTo w g r
      answers r is = let P : Reply → Type 0 = λ s. IsGroupedAnswerTo w g s in subst P (sym (is ∙ ap reply-of same)) answer-is

      pub answered : (a b : Traces) → HasReplied (λ r. r ≡ reply-of q) a b → HasReplied (IsGroupedAnswerTo w g) a b
      answered a b h = record { reply = h.reply; answers = answers h.reply h.answers; gained = h.gained; fetched = h.fetched; looked = h.looked }

      pub answering : (a b : Traces) → HasBegun (λ r. r ≡ reply-of q) a b → HasBegun (IsGroupedAnswerTo w g) a b
      answering a b h = record { reply = h.reply; answers = answers h.reply h.answers; gained = h.gained; fetched = h.fetched; looked = h.looked }

    pub has-answer : (r : Reply) × IsGroupedAnswerTo w g r
    has-answer = (reply-of here, answer-is)

    pub has-explanation : (r : Reply) × IsGroupedExplanationOf w.contents g r
    has-explanation = (
      record { bytes = task_text w.contents g x.task x.plan chosen.least.plan; fetched = exactly 0; looked = 0 },
      record { form = x.plan.form; plan = chosen.least.plan; explanation = text-explains w.contents g x.task x.plan chosen.task chosen.least; fetched = refl; looked = refl },
    )

-- a call that stopped
abbrev stopped : Stop → Result (Unit {0}) Stop
stopped s = Err s

pub caused-by : (r : Result (Unit {0}) Stop) (b : Broken) (before now : ℕ) → IsErrAnd r (λ e. e ≡ stop_by b) → HasWriteCause {T = Unit {0}} Write before now (Err b) → HasWriteCause stops.Write before now r
caused-by (Ok u) b before now is cause = absurd is
caused-by (Err e) Write before now is cause = record { write = λ so. cause.write refl; quiet = λ other. absurd (other (ap stopped is)) }
caused-by (Err e) Memory before now is cause = record {
  write = λ wrong. absurd (let bad : stopped stops.Memory ≡ stopped stops.Write = ap stopped (sym is) ∙ wrong in cc (bad));
  quiet = λ other. cause.quiet (λ wrong. absurd (cc (wrong)));
}
