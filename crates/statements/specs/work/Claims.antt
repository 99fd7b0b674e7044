-- CHECK and USE PLAN: a SELECT with lines behind it. Own.
use Rattle.std.specs.Prelude.{ℕ, ◌≡◌, ◌≤◌, Bool, true, List, length, slice_range, None}
use Rattle.pg_base.specs.declared.limits.TheConstants.{MOST_SCRIPT_BYTES}
use Rattle.sql_lex.specs.declared.tokens.Token.{Token}
use Rattle.sql_lex.specs.Words.{AreWords}
use Rattle.sql_grammar.specs.Terminals.{Terminal}
use Rattle.sql_query.specs.Queries.{Query}
use Rattle.sql_query.specs.WellBound.{IsWellBound}
use Rattle.sql_query.specs.Worlds.{World, world}
use Rattle.store.specs.work.Kept.{IsStoreOf}
use Rattle.store.specs.Actions.{Action, verify, follow}
use Rattle.plan_reply.specs.work.Told.{IsTold}
use Rattle.statements.specs.declared.claims.Given.{Given}
use Rattle.statements.specs.declared.claims.Given.TheVariants.{Certificate, Plan}
use Rattle.statements.specs.declared.using.Order.{Order}
use Rattle.statements.specs.declared.using.Place.{Place}
use Rattle.statements.specs.Accepted.{IsReadOver}
use Rattle.statements.specs.work.Steps.{begins_check, begins_use}

-- the first word is that of a statement with such lines behind it
abbrev pub begins_for : Given → List Terminal → Bool
begins_for Certificate ts = begins_check ts
begins_for Plan ts = begins_use ts

-- the number of words before its SELECT
abbrev pub words_for : Given → ℕ
words_for Certificate = 1
words_for Plan = 2

-- what is done with its query and these lines
abbrev pub action_for : Given → Query → List ℕ → Action
action_for Certificate q block = verify q block
action_for Plan q block = follow q block

-- a query for which a plan is given has no LIMIT and no OFFSET
abbrev pub IsWholeFor : Given → Query → Type 0
IsWholeFor Certificate q = Unit {0}
IsWholeFor Plan q = q.window ≡ None

-- where a USE PLAN is answered
abbrev pub world_at : {C F L : Type 0} → Place C F L → World
world_at at = world at.catalog.now at.store.now.stored

-- the words of a place where a USE PLAN is answered are those of the text, and its store is one of the catalogue
pub record IsPlace {C F L : Type 0} (at : Place C F L) : Type 0 where
  pub short : length at.text.now ≤ MOST_SCRIPT_BYTES
  pub words : (from : ℕ) × AreWords at.text.now from at.tokens.now
  pub store : IsStoreOf at.catalog.now at.store.now

-- what was read of the USE PLAN of these tokens, and what is to be printed of its lines
pub record IsOrder (w : World) (text : List ℕ) (tokens : List Token) (o : Order) : Type 0 where
  pub bound : IsWellBound w.contents o.query
  pub whole : o.query.window ≡ None
  pub order : o.start ≤ o.end
  pub within : o.end ≤ length text
  pub told : IsTold w.contents o.query (slice_range text o.start o.end) o.told
  pub read : IsReadOver w text tokens (follow o.query (slice_range text o.start o.end)) o.next
