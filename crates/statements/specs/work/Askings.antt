-- Working words beside those of `Askings`.
use Rattle.std.specs.Prelude.{Option, Some, None}
use Rattle.store.specs.Actions.{Action}
use Rattle.group_reply.specs.reply_work_Measures.{IsMeasured}
use Rattle.group_reply.specs.reply_Replies.{Reply}
use Rattle.group_reply.specs.reply_measuring_Measured.{Measured}
use Rattle.sql_query.specs.Worlds.{World}
use Rattle.statements.specs.Replies.{IsReply}
use Rattle.statements.specs.Askings.{Asking, asked_in}

-- the rows and the least price of a query that is asked were measured, and nothing where none is
abbrev pub IsMeasuredOf : Option Asking → Option Measured → Type 0
IsMeasuredOf None None = Unit {0}
IsMeasuredOf (Some a) (Some m) = IsMeasured a.world a.query m.rows m.cost
IsMeasuredOf _ _ = ⊥

-- a statement has a reply, and what it asks was measured
pub record IsTallied (w : World) (action : Action) (m : Option Measured) : Type 0 where
  pub reply : Reply
  pub replies : IsReply w action reply
  pub measured : IsMeasuredOf (asked_in w action) m
