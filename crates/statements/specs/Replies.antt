-- What an accepted statement prints, and what that costs. Own.
use Rattle.std.specs.Prelude.{ℕ, ◌≡◌, [], length}
use Rattle.sql_query.specs.Worlds.{World, stored_at}
use Rattle.index_prices.specs.Replies.{IsReplyTo}
use Rattle.group_reply.specs.reply_Effort.{exactly}
use Rattle.group_reply.specs.reply_Replies.{Reply, IsAnswerTo, IsExplanationOf}
use Rattle.store.specs.Kept.{load_looks}
use Rattle.store.specs.Actions.{Action, idle, make, build, size, describe, fill, gather, answer, explain, certify, advise, verify, follow, answer_groups, explain_groups}
use Rattle.plan_reply.specs.Tabled.{IsTableOf}
use Rattle.check_reply.specs.Checked.{IsCheckedText}
use Rattle.plan_reply.specs.Told.{IsPlanReplyTo}
use Rattle.group_reply.specs.group_explain_Plans.{IsGroupedExplanationOf}
use Rattle.group_reply.specs.Replies.{IsGroupedAnswerTo}

-- the reply with nothing printed and nothing fetched, and a number of looks
abbrev pub silent : ℕ → Reply
silent looks = record { bytes = []; fetched = exactly 0; looked = looks }

-- an accepted statement's reply: SELECT prints the answer by a best plan, its EXPLAIN that plan alone, and its EXPLAIN (TABLE)
-- that plan with a table of it. ADVISE prints the advice, and CHECK a line that tells whether its lines are a certificate of
-- the query, each with nothing fetched and nothing looked at. USE PLAN prints the answer by the plan that is written out, or
-- why it is not run. A SELECT that groups prints a line for each group behind the least plan that groups, its EXPLAIN that plan
-- alone. The others print nothing: CREATE INDEX and ANALYZE look at each row of their table, and COPY at each new row for each
-- index of the table
abbrev pub IsReply : World → Action → Reply → Type 0
IsReply w idle r = r ≡ silent 0
IsReply w (make name names columns) r = r ≡ silent 0
IsReply w (build name x) r = r ≡ silent (length (stored_at w x.table).rows)
IsReply w (size t rows pages) r = r ≡ silent 0
IsReply w (describe t column s) r = r ≡ silent 0
IsReply w (fill t s) r = r ≡ silent (load_looks w.contents t (stored_at w t) s)
IsReply w (gather t) r = r ≡ silent (length (stored_at w t).rows)
IsReply w (answer q) r = IsAnswerTo w q r
IsReply w (explain q) r = IsExplanationOf w.contents q r
IsReply w (certify q) r = IsTableOf w.contents q r
IsReply w (advise most candidates queries) r = IsReplyTo w.contents candidates queries most r.bytes × (r.fetched ≡ exactly 0) × (r.looked ≡ 0)
IsReply w (verify q block) r = IsCheckedText w.contents q block r.bytes × (r.fetched ≡ exactly 0) × (r.looked ≡ 0)
IsReply w (follow q block) r = IsPlanReplyTo w q block r
IsReply w (answer_groups g) r = IsGroupedAnswerTo w g r
IsReply w (explain_groups g) r = IsGroupedExplanationOf w.contents g r
