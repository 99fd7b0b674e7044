-- Working words beside those of `Steps`.
use Rattle.std.specs.Prelude.{ℕ, ◌≡◌, ◌⊎◌, ◌+◌, ◌≤◌, ◌<◌, Bool, false, true, length, List, [], ◌∷◌, slice_range, Option, None, Ok}
use Rattle.pg_base.specs.declared.numbers.TableNo.{TableNo}
use Rattle.sql_lex.specs.declared.tokens.Token.{Token}
use Rattle.sql_grammar.specs.Faults.{terminals}
use Rattle.sql_grammar.specs.Terminals.{Terminal, free, t_name}
use Rattle.sql_grammar.specs.declared.class.Free.TheVariants.{Check as CheckWord, Use as UseWord}
use Rattle.catalog.specs.Contents.{Contents}
use Rattle.ddl_reader.specs.Block.{IsBlockEnd}
use Rattle.ddl_reader.specs.work.Statements.{begins_ddl, begins_index}
use Rattle.ddl_reader.specs.Tables.{Definition, data_for}
use Rattle.reply_text.specs.Tells.{IsFieldOf}
use Rattle.heap.specs.Loading.{loaded, records_of}
use Rattle.heap.specs.Stored.{Stored}
use Rattle.group_reply.specs.reply_Replies.{HasBegun, HasReplied, Traces}
use Rattle.group_reply.specs.reply_measuring_Measured.{Measured}
use Rattle.sql_query.specs.Worlds.{World, stored_at}
use Rattle.store.specs.Kept.{load_looks}
use Rattle.statements.specs.declared.end.End.{End}
use Rattle.statements.specs.declared.end.End.TheVariants as ends
use Rattle.store.specs.Actions.{Action, after}
use Rattle.statements.specs.Accepted.{IsRead, IsReadOver}
use Rattle.statements.specs.Askings.{asked_in}
use Rattle.statements.specs.work.Askings.{IsTallied}
use Rattle.statements.specs.Faults.{IsFault, IsFaultOver, IsRefused}
use Rattle.statements.specs.Replies.{IsReply, silent}
use Rattle.statements.specs.work.Replies.{told}

-- the statement at this place was read and carried out, and what it asks was measured
pub record Tallies (w w' : World) (text : List ℕ) (at next : ℕ) (m : Option Measured) : Type 0 where
  pub action : Action
  pub read : IsRead w text at action next
  pub world : w' ≡ after w action
  pub tallied : IsTallied w action m

-- where a field of COPY data is wrong, the catalogue has its table and column
abbrev pub HasField : Contents → End → Type 0
HasField c (ends.Fault f) = IsFieldOf c f
HasField c _ = Unit {0}

-- why the statement at this place was not tallied: its first fault, or out of memory
abbrev pub StopsTally : End → World → List ℕ → ℕ → Type 0
StopsTally (ends.Fault f) w text at = IsFault w text at f × IsFieldOf w.contents f
StopsTally ends.Write w text at = ⊥
StopsTally ends.Memory w text at = Unit {0}

-- the tokens do this, print nothing, and took no more looks than that takes
pub record IsCarrying (w : World) (text : List ℕ) (tokens : List Token) (action : Action) (next : ℕ) (looked looked' : ℕ) : Type 0 where
  pub read : IsReadOver w text tokens action next
  pub looks : ℕ
  pub reply : IsReply w action (silent looks)
  pub within : looked' ≤ looked + looks

-- the tokens are a definition, which was carried out
abbrev pub IsDefined : World → World → List ℕ → List Token → ℕ → (looked looked' : ℕ) → Type 0
IsDefined w w' text tokens next looked looked' = (action : Action) × IsCarrying w text tokens action next looked looked' × (w' ≡ after w action)

-- why the statement of these tokens was not carried out, before anything was written: its first fault, before anything was
-- looked at; or out of memory, perhaps after some of its looks
abbrev pub Refuses : End → World → List ℕ → List Token → (looked looked' : ℕ) → Type 0
Refuses (ends.Fault f) w text tokens looked looked' = IsFaultOver w text tokens f × IsFieldOf w.contents f × (looked' ≡ looked)
Refuses ends.Write w text tokens looked looked' = ⊥
Refuses ends.Memory w text tokens looked looked' = (looked' ≡ looked) ⊎ ((action : Action) × (next : ℕ) × IsCarrying w text tokens action next looked looked')

-- why a definition was not carried out
abbrev pub RefusesDefinition : End → World → List ℕ → Definition → List ℕ → Type 0
RefusesDefinition (ends.Fault f) w text definition at = IsRefused w text definition at f × IsFieldOf w.contents f
RefusesDefinition ends.Write w text definition at = ⊥
RefusesDefinition ends.Memory w text definition at = Unit {0}

-- data for a table, from an offset on, are loaded with no more looks than that takes
abbrev pub AreLoaded : World → List ℕ → TableNo → ℕ → (looked looked' : ℕ) → Type 0
AreLoaded w text t start looked looked' =
    (end next : ℕ) × (s : Stored) × IsBlockEnd text start end next × (loaded (stored_at w t) (records_of (slice_range text start end)) ≡ Ok s) × (looked' ≤ looked + load_looks w.contents t (stored_at w t) s)

-- why data for a table, from an offset on, were not loaded: their fault, or out of memory, perhaps after some of the looks
abbrev pub RefusesData : End → World → List ℕ → TableNo → ℕ → (looked looked' : ℕ) → Type 0
RefusesData (ends.Fault f) w text t start looked looked' = RefusesDefinition (ends.Fault f) w text (data_for t start) [] × (looked' ≡ looked)
RefusesData ends.Write w text t start looked looked' = ⊥
RefusesData ends.Memory w text t start looked looked' = (looked' ≡ looked) ⊎ AreLoaded w text t start looked looked'

-- the tokens are a query, an ADVISE, a CHECK or a USE PLAN, whose reply out gained
abbrev pub IsAnsweredOver : World → List ℕ → List Token → ℕ → Traces → Traces → Type 0
IsAnsweredOver w text tokens next old new = (action : Action) × IsReadOver w text tokens action next × (w ≡ after w action) × HasReplied (IsReply w action) old new

-- the tokens are a query, an ADVISE, a CHECK or a USE PLAN, and out gained some first bytes of its reply
abbrev pub IsBegunOver : World → List ℕ → List Token → Traces → Traces → Type 0
IsBegunOver w text tokens old new = (action : Action) × (next : ℕ) × IsReadOver w text tokens action next × HasBegun (IsReply w action) old new

-- the tokens are neither an empty statement nor a definition
pub record AreNoDefinition (text : List ℕ) (tokens : List Token) : Type 0 where
  pub some : 1 < length tokens
  pub no_ddl : begins_ddl (terminals text tokens) ≡ false
  pub no_index : begins_index (terminals text tokens) ≡ false

-- the tokens do this and leave the world as it is, and what they ask was measured
pub record IsTalliedOver (w : World) (text : List ℕ) (tokens : List Token) (next : ℕ) (m : Option Measured) : Type 0 where
  pub action : Action
  pub read : IsReadOver w text tokens action next
  pub still : w ≡ after w action
  pub tallied : IsTallied w action m

-- CHECK is the first word
abbrev pub begins_check : List Terminal → Bool
begins_check (t_name (free CheckWord _) ∷ _) = true
begins_check _ = false

-- USE is the first word
abbrev pub begins_use : List Terminal → Bool
begins_use (t_name (free UseWord _) ∷ _) = true
begins_use _ = false

-- the tokens do this up to `next`, ask no query and leave the world as it is, and these bytes are their reply
pub record IsTelling (w : World) (text : List ℕ) (tokens : List Token) (next : ℕ) (bytes : List ℕ) : Type 0 where
  pub action : Action
  pub read : IsReadOver w text tokens action next
  pub still : w ≡ after w action
  pub quiet : asked_in w action ≡ None
  pub reply : IsReply w action (told bytes)

-- why the query, the ADVISE, the CHECK or the USE PLAN of these tokens was not answered whole
abbrev pub StopsOver : End → World → List ℕ → List Token → Traces → Traces → Type 0
StopsOver (ends.Fault f) w text tokens old new = IsFaultOver w text tokens f × IsFieldOf w.contents f × (new ≡ old)
StopsOver ends.Write w text tokens old new = IsBegunOver w text tokens old new
StopsOver ends.Memory w text tokens old new = (new ≡ old) ⊎ IsBegunOver w text tokens old new
