-- The statements of a script, worked one after another from no table on. Own.
use Rattle.std.specs.Prelude.{ℕ, ◌≡◌, ◌<◌, List, [], ◌∷◌, length}
use Rattle.std.specs.List.{flat_map}
use Rattle.sql_query.specs.Worlds.{World, empty_world}
use Rattle.store.specs.Actions.{Action, after}
use Rattle.statements.specs.Accepted.{IsRead}
use Rattle.group_reply.specs.reply_Replies.{Reply}
use Rattle.statements.specs.Replies.{IsReply}

-- a statement that was worked: what it did, where the next one begins, and its reply
pub record Worked : Type 0 where
  pub action : Action
  pub next : ℕ
  pub reply : Reply

-- from this place on and in this world, these are the statements that come first, each read and answered in the world that
-- the ones before it leave
abbrev pub AreWorked : World → List ℕ → ℕ → List Worked → Type 0
AreWorked w text from [] = Unit {0}
AreWorked w text from (s ∷ ss) = (from < length text) × IsRead w text from s.action s.next × IsReply w s.action s.reply × AreWorked (after w s.action) text s.next ss

-- the world that they leave
abbrev pub world_after : World → List Worked → World
world_after w [] = w
world_after w (s ∷ ss) = world_after (after w s.action) ss

-- where the statement after them begins
abbrev pub place_after : ℕ → List Worked → ℕ
place_after from [] = from
place_after from (s ∷ ss) = place_after s.next ss

-- what they print together
abbrev pub replies : List Worked → List ℕ
replies ss = flat_map (λ s. s.reply.bytes) ss

-- the first statements of a script
abbrev pub AreFirst : List ℕ → List Worked → Type 0
AreFirst text ss = AreWorked empty_world text 0 ss

-- all statements of a script
pub record AreAll (text : List ℕ) (ss : List Worked) : Type 0 where
  pub first : AreFirst text ss
  pub ended : place_after 0 ss ≡ length text
