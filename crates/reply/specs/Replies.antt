-- Replies to queries, and what a call that writes one changes and leaves. Own.
use Rattle.std.specs.Prelude.{ℕ, ◌≡◌, ◌+◌, ◌≤◌, List}
use Rattle.std.specs.declared.option.Option.{Option}
use Rattle.std.specs.Io.KnownBytes.{Appends}
use Rattle.pg_base.specs.Writing.{AppendsPrefix}
use Rattle.catalog.specs.Contents.{Contents}
use Rattle.sql_query.specs.Queries.{Query}
use Rattle.sql_query.specs.Worlds.{World}
use Rattle.plan_tree.specs.Plans.{Plan}
use Rattle.reply.specs.Answers.{IsAnswer, IsExplanation}
use Rattle.reply.specs.Effort.{HasRisen, Rise, answer_fetches, answer_looks, exactly}

-- the bytes printed, the rows fetched, and the most looks at entries and at rows already found
pub record Reply : Type 0 where
  pub bytes : List ℕ
  pub fetched : Rise
  pub looked : ℕ

-- the answer to a query by a plan, with that plan's fetches, and its looks beside 32 for each row printed; under LIMIT with
-- those for the tuples up to the last one
pub record IsAnswerTo (w : World) (q : Query) (r : Reply) : Type 0 where
  pub plan : Plan
  pub answer : IsAnswer w q plan r.bytes
  pub fetched : r.fetched ≡ answer_fetches w q plan
  pub looked : r.looked ≡ answer_looks w q plan

-- the text of a plan of the query, with nothing fetched and nothing looked at
pub record IsExplanationOf (c : Contents) (q : Query) (r : Reply) : Type 0 where
  pub plan : Plan
  pub explanation : IsExplanation c q plan r.bytes
  pub fetched : r.fetched ≡ exactly 0
  pub looked : r.looked ≡ 0

-- what a call changes: the bytes that out holds, and the two counters
pub record Traces : Type 0 where
  pub held : Option (List ℕ)
  pub fetched : ℕ
  pub looked : ℕ

-- the bytes held, the rows fetched and the looks, by their numbers
abbrev pub traces : Option (List ℕ) → ℕ → ℕ → Traces
traces held fetched looked = record { held = held; fetched = fetched; looked = looked }

-- out gained a reply of a kind, with its fetches and at most its looks
pub record HasReplied (IsReply : Reply → Type 0) (old new : Traces) : Type 0 where
  pub reply : Reply
  pub answers : IsReply reply
  pub gained : Appends old.held new.held reply.bytes
  pub fetched : HasRisen reply.fetched old.fetched new.fetched
  pub looked : new.looked ≤ old.looked + reply.looked

-- out gained some first bytes of such a reply, with at most its fetches and looks
pub record HasBegun (IsReply : Reply → Type 0) (old new : Traces) : Type 0 where
  pub reply : Reply
  pub answers : IsReply reply
  pub gained : AppendsPrefix old.held new.held reply.bytes
  pub fetched : new.fetched ≤ old.fetched + reply.fetched.most
  pub looked : new.looked ≤ old.looked + reply.looked
