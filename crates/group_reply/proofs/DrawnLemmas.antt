-- What a run over the chosen input printed, fetched and looked at.
use Rattle.std.proofs.Common.{◌≡◌, ℕ, ◌+◌, ◌*◌, ◌≤◌, List, ◌++◌, length, refl, ap, ap₂, ◌∙◌, subst, arith, Option}
use Rattle.std.specs.Io.KnownBytes.{Appends}
use Rattle.pg_base.specs.Writing.{AppendsPrefix}
use Rattle.pg_value.specs.declared.value.SqlType.{SqlType}
use Rattle.pg_value.specs.declared.value.Value.{Value}
use Rattle.sql_query.specs.Grouped.{GroupedQuery}
use Rattle.sql_query.specs.Queries.{Query}
use Rattle.sql_query.specs.Tuples.{Tuple, no_rows}
use Rattle.sql_query.specs.Worlds.{World}
use Rattle.plan_tree.specs.Counts.{MOST_READS, fetches, looks}
use Rattle.plan_tree.specs.Plans.{Plan}
use Rattle.executor.specs.work.Reading.{Reading}
use Rattle.group_values.specs.declared.task.GroupPlan.{GroupPlan}
use Rattle.group_values.specs.declared.task.GroupTask.{GroupTask}
use Rattle.group_explain.specs.work.Plans.{over_base}
use Rattle.group_explain.specs.work.Texts.{task_text}
use Rattle.group_explain.specs.reply_Replies.{HasBegun, HasReplied, Reply, traces}
use Rattle.group_explain.specs.reply_PuttingLemmas.{prefix-none}
use Rattle.group_reply.specs.work.Drawing.{drawn, drawn_reply, final_lines, seen_all}
use Rattle.group_reply.specs.Replies.{item_types, lines_text}

-- nothing done yet
pub begun-none : (reply : Reply) (a : Option (List ℕ)) (f l : ℕ) → HasBegun (λ r. r ≡ reply) (traces a f l) (traces a f l)
begun-none reply a f l = record { reply = reply; answers = refl; gained = prefix-none a reply.bytes; fetched = omega arith; looked = omega arith }

-- over a reading of a plan's tuples
module _ (w : World) (q : Query) (asked : GroupedQuery) (t : GroupTask) (chosen : GroupPlan) (p : Plan) (r : Reading) (left : r.left ≡ drawn w q asked p) (owed : r.owed ≡ fetches w q p (no_rows q))
    (allowed : r.allowed ≡ looks w q p (no_rows q)) (a b : Option (List ℕ)) (f f' l l' : ℕ) (looked : l' ≤ l + (r.allowed + MOST_READS * length r.left)) where
  abbrev reply : Reply
  reply = drawn_reply w q asked t chosen p

  few : l' ≤ l + reply.looked
  few = omega (arith, looked, allowed, ap (λ (ts : List Tuple). length ts) left)

  -- drawing stopped before anything was printed
  pub begun-drawing : a ≡ b → f' ≤ f + r.owed → HasBegun (λ s. s ≡ reply) (traces a f l) (traces b f' l')
  begun-drawing same fetched =
      let P : Option (List ℕ) → Type 0 = λ h. AppendsPrefix a h reply.bytes in
      record { reply = reply; answers = refl; gained = subst P same (prefix-none a reply.bytes); fetched = omega (arith, fetched, owed); looked = few }

  module _ (over : GroupedQuery) (base : Query) (same : over ≡ over_base base asked) (text : List ℕ) (text-is : text ≡ task_text w.contents asked t chosen p) (shown : List (List Value))
      (shown-is : shown ≡ final_lines over chosen (seen_all w q over r.left)) (fetched : f' ≡ f + r.owed) where
    shown-of : shown ≡ final_lines asked chosen (seen_all w q asked (drawn w q asked p))
    shown-of =
        shown-is ∙ ap (λ (h : GroupedQuery). final_lines h chosen (seen_all w q h r.left)) same
        ∙ ap (λ (ts : List Tuple). final_lines asked chosen (seen_all w q asked ts)) left

    abbrev types-of : GroupedQuery → List SqlType
    types-of h = item_types w.contents q.range h.keys h.items

    bytes-are : text ++ lines_text (types-of over) shown ≡ reply.bytes
    bytes-are =
        ap₂ (λ (x : List ℕ) (ls : List (List Value)). x ++ lines_text (types-of over) ls) text-is shown-of
        ∙ ap (λ (h : GroupedQuery). task_text w.contents asked t chosen p ++ lines_text (types-of h) (final_lines asked chosen (seen_all w q asked (drawn w q asked p)))) same

    pub replied-drawn : Appends a b (text ++ lines_text (types-of over) shown) → HasReplied (λ s. s ≡ reply) (traces a f l) (traces b f' l')
    replied-drawn gained =
        let P : List ℕ → Type 0 = λ x. Appends a b x in
        record {
          reply = reply;
          answers = refl;
          gained = subst P bytes-are gained;
          fetched = record { above = omega (arith, fetched, owed); within = omega (arith, fetched, owed); exact = omega (arith, fetched, owed) };
          looked = few;
        }

    pub begun-drawn : AppendsPrefix a b (text ++ lines_text (types-of over) shown) → HasBegun (λ s. s ≡ reply) (traces a f l) (traces b f' l')
    begun-drawn gained =
        let P : List ℕ → Type 0 = λ x. AppendsPrefix a b x in
        record { reply = reply; answers = refl; gained = subst P bytes-are gained; fetched = omega (arith, fetched, owed); looked = few }
