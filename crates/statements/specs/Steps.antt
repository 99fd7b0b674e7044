-- What a step of the script machine does. Own.
use Rattle.std.specs.Prelude.{ℕ, ◌≡◌, ◌⊎◌, List}
use Rattle.reply_text.specs.Tells.{IsFieldOf}
use Rattle.group_reply.specs.reply_Replies.{HasBegun, HasReplied, Traces}
use Rattle.sql_query.specs.Worlds.{World}
use Rattle.statements.specs.declared.end.End.{End}
use Rattle.statements.specs.declared.end.End.TheVariants as ends
use Rattle.store.specs.Actions.{Action, after}
use Rattle.statements.specs.Accepted.{IsRead}
use Rattle.statements.specs.Faults.{IsFault}
use Rattle.statements.specs.Replies.{IsReply}

-- the statement at this place was read and carried out, and out gained its reply
pub record Advances (w w' : World) (text : List ℕ) (at next : ℕ) (old new : Traces) : Type 0 where
  pub action : Action
  pub read : IsRead w text at action next
  pub world : w' ≡ after w action
  pub replied : HasReplied (IsReply w action) old new

-- the statement at this place has a reply, and out gained some first bytes of it
pub record IsBegun (w : World) (text : List ℕ) (at : ℕ) (old new : Traces) : Type 0 where
  pub action : Action
  pub next : ℕ
  pub read : IsRead w text at action next
  pub begun : HasBegun (IsReply w action) old new

-- why a step gives no reply, and what it left: the statement's first fault; or, with a part of the reply written at most, a
-- failed out or no more memory
abbrev pub Stops : End → World → List ℕ → ℕ → Traces → Traces → Type 0
Stops (ends.Fault f) w text at old new = IsFault w text at f × IsFieldOf w.contents f × (new ≡ old)
Stops ends.Write w text at old new = IsBegun w text at old new
Stops ends.Memory w text at old new = (new ≡ old) ⊎ IsBegun w text at old new
