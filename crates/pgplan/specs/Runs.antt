-- What a run of the program did to its source and to its sinks. Own.
use Rattle.std.specs.Prelude.{ℕ, ◌≡◌, ◌⊎◌, ◌+◌, ◌<◌, ◌≤◌, List, ◌++◌, length, take}
use Rattle.std.specs.declared.option.Option.{Option}
use Rattle.std.specs.Io.KnownBytes.{Appends, Consumes, IsAtEnd}
use Rattle.pg_base.specs.Reading.{ConsumesUpTo}
use Rattle.pg_base.specs.declared.faults.Fault.{Fault}
use Rattle.pg_base.specs.declared.limits.TheConstants.{MOST_SCRIPT_BYTES}
use Rattle.reply_text.specs.Lines.{fault_line}
use Rattle.sql_query.specs.Worlds.{empty_world}
use Rattle.store.specs.Actions.{Action}
use Rattle.statements.specs.Accepted.{IsRead}
use Rattle.statements.specs.Faults.{IsFault}
use Rattle.statements.specs.reply_Replies.{Reply}
use Rattle.statements.specs.Replies.{IsReply}
use Rattle.statements.specs.Scripts.{Worked, AreFirst, AreAll, world_after, place_after, replies}
use Rattle.pgplan.specs.Statuses.{IsTold}

-- a text was taken, all that the source had
pub record IsReadWhole (left left' : Option (List ℕ)) (text : List ℕ) : Type 0 where
  pub taken : Consumes left left' text
  pub within : length text ≤ MOST_SCRIPT_BYTES
  pub ended : IsAtEnd left'

-- the source gave one byte more than a script has
pub record IsTooLong (left left' : Option (List ℕ)) : Type 0 where
  pub text : List ℕ
  pub taken : Consumes left left' text
  pub long : length text ≡ MOST_SCRIPT_BYTES + 1

-- every statement was worked, and out gained their replies and no more
pub record IsAnswered (text : List ℕ) (held held' : Option (List ℕ)) : Type 0 where
  pub statements : List Worked
  pub all : AreAll text statements
  pub gained : Appends held held' (replies statements)

-- the first statements were worked, out gained their replies and no more, and the one after them has this fault
pub record EndsInFault (text : List ℕ) (held held' : Option (List ℕ)) (statements : List Worked) (f : Fault) : Type 0 where
  pub first : AreFirst text statements
  pub more : place_after 0 statements < length text
  pub fault : IsFault (world_after empty_world statements) text (place_after 0 statements) f
  pub gained : Appends held held' (replies statements)

-- the first statements were worked, and out gained their replies and some first bytes of the next one's
pub record IsCutOff (text : List ℕ) (held held' : Option (List ℕ)) : Type 0 where
  pub statements : List Worked
  pub first : AreFirst text statements
  pub more : place_after 0 statements < length text
  pub action : Action
  pub next : ℕ
  pub read : IsRead (world_after empty_world statements) text (place_after 0 statements) action next
  pub reply : Reply
  pub answers : IsReply (world_after empty_world statements) action reply
  pub count : ℕ
  pub within : count ≤ length reply.bytes
  pub gained : Appends held held' (replies statements ++ take count reply.bytes)

-- the first statements were worked, and out gained their replies and no more
pub record IsPaused (text : List ℕ) (held held' : Option (List ℕ)) : Type 0 where
  pub statements : List Worked
  pub first : AreFirst text statements
  pub gained : Appends held held' (replies statements)

-- the first statements may be worked, and the one after them has a fault
pub record ReachesFault (text : List ℕ) : Type 0 where
  pub statements : List Worked
  pub first : AreFirst text statements
  pub more : place_after 0 statements < length text
  pub fault : Fault
  pub is : IsFault (world_after empty_world statements) text (place_after 0 statements) fault

-- no statement of the text has a fault: whichever first ones are worked, the one after them has none
abbrev pub HasNoFault : List ℕ → Type 0
HasNoFault text = ¬ ReachesFault text

-- a text was read whole, and every statement answered
abbrev pub AnswersAll : (left left' held held' : Option (List ℕ)) → Type 0
AnswersAll left left' held held' = (text : List ℕ) × IsReadWhole left left' text × IsAnswered text held held'

-- a text was read whole, its first statements were answered, and the line of the next one's fault was printed
abbrev pub TellsFault : (left left' held held' errs errs' : Option (List ℕ)) → (before now : ℕ) → Type 0
TellsFault left left' held held' errs errs' before now =
    (text : List ℕ) × (statements : List Worked) × (fault : Fault) × IsReadWhole left left' text × EndsInFault text held held' statements fault
    × IsTold errs errs' before now (fault_line (world_after empty_world statements).contents text fault)

-- a text was read whole, and out gained the replies of the first statements and some first bytes of the next one's
abbrev pub CutsOff : (left left' held held' : Option (List ℕ)) → Type 0
CutsOff left left' held held' = (text : List ℕ) × IsReadWhole left left' text × IsCutOff text held held'

-- memory ran out: some first bytes were taken of the source and out is as before; or a text was read whole, and out gained
-- the replies of the first statements, and it may be some first bytes of the next one's
abbrev pub RunsOut : (left left' held held' : Option (List ℕ)) → Type 0
RunsOut left left' held held' =
    (ConsumesUpTo left left' (MOST_SCRIPT_BYTES + 1) × (held' ≡ held)) ⊎ ((text : List ℕ) × IsReadWhole left left' text × (IsPaused text held held' ⊎ IsCutOff text held held'))

-- the source failed, out failed, or memory ran out
abbrev pub IsCutShort : ℕ → Type 0
IsCutShort status = (status ≡ 2) ⊎ ((status ≡ 4) ⊎ (status ≡ 5))
