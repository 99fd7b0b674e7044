-- What is done at the words of a query, of an ADVISE, of a CHECK or of a USE PLAN, over a store of a catalogue. Own.
use Rattle.std.specs.Prelude.{ℕ}
use Rattle.std.specs.declared.option.Option.{Option}
use Rattle.sql_lex.specs.Ends.{end_of}
use Rattle.group_reply.specs.reply_Replies.{Traces}
use Rattle.group_reply.specs.reply_measuring_Measured.{Measured}
use Rattle.statements.specs.declared.end.End.{End}
use Rattle.statements.specs.declared.using.Place.{Place}
use Rattle.statements.specs.work.Claims.{world_at}
use Rattle.statements.specs.work.Steps.{IsAnsweredOver, IsTalliedOver, Refuses, StopsOver}

module _ {C F L : Type 0} where
  -- out gained the reply, and the next statement begins at an offset
  abbrev pub IsAnsweredAt : Place C F L → ℕ → Traces → Traces → Type 0
  IsAnsweredAt at next old new = IsAnsweredOver (world_at at) at.text.now at.tokens.now next old new

  -- why out did not gain the whole reply
  abbrev pub StopsAnswerAt : End → Place C F L → Traces → Traces → Type 0
  StopsAnswerAt e at old new = StopsOver e (world_at at) at.text.now at.tokens.now old new

  -- why nothing was written or looked at
  abbrev pub RefusesAt : End → Place C F L → Type 0
  RefusesAt e at = Refuses e (world_at at) at.text.now at.tokens.now 0 0

  -- what the words ask up to their end was measured
  abbrev pub IsTalliedAt : Place C F L → Option Measured → Type 0
  IsTalliedAt at = IsTalliedOver (world_at at) at.text.now at.tokens.now (end_of at.tokens.now)
