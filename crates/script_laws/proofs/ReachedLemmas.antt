-- The worlds that statements reach.
use Rattle.std.proofs.Common.{ℕ, List, [], ◌∷◌, ◌++◌, arith}
use Rattle.std.proofs.lemmas.List.Elements.{All-nil}
use Rattle.catalog.specs.Contents.{IsIndexOf, IsLawful, IsLawfulTable, nothing}
use Rattle.sql_query.specs.Worlds.{World, empty_world}
use Rattle.store.specs.Actions.{after}
use Rattle.statements.specs.Accepted.{IsRead}
use Rattle.statements.specs.Replies.{IsReply}
use Rattle.statements.specs.Scripts.{AreFirst, AreWorked, Worked, place_after, world_after}
use Rattle.world_laws.specs.LawfulWorlds.{IsLawfulWorld}
use Rattle.world_laws.proofs.AfterLemmas.{kept-lawful}
use Rattle.script_laws.specs.Reached.{IsBoundIn, reached}
use Rattle.script_laws.proofs.ReadLemmas.{read-bound, read-may}

nothing-lawful : IsLawful nothing
nothing-lawful = record {
  tables = All-nil IsLawfulTable;
  few = omega arith;
  indexes = All-nil (IsIndexOf nothing);
  room = λ t. omega arith;
  tables_differ = λ i j d before lt. absurd (omega (arith, before, lt));
  indexes_differ = λ i j d before lt. absurd (omega (arith, before, lt));
  apart = λ name among other. let lt = among.1 in omega (arith, lt);
}

empty-lawful : IsLawfulWorld empty_world
empty-lawful = record { contents = nothing-lawful; stored = tt }

worked-lawful : (w : World) (text : List ℕ) (from : ℕ) (ss : List Worked) → IsLawfulWorld w → AreWorked w text from ss → IsLawfulWorld (world_after w ss)
worked-lawful w text from [] h worked = h
worked-lawful w text from (s ∷ ss) h worked = worked-lawful (after w s.action) text s.next ss (kept-lawful w h s.action (read-may w text from s.action s.next h worked.1)) worked.3

pub reached-lawful : (text : List ℕ) (before : List Worked) → AreFirst text before → IsLawfulWorld (reached before)
reached-lawful text before first = worked-lawful empty_world text 0 before empty-lawful first

-- a statement behind others
pub record IsWorkedAt (w : World) (text : List ℕ) (from : ℕ) (before : List Worked) (s : Worked) : Type 0 where
  pub first : AreWorked w text from before
  pub read : IsRead (world_after w before) text (place_after from before) s.action s.next
  pub replies : IsReply (world_after w before) s.action s.reply

worked-at : (w : World) (text : List ℕ) (from : ℕ) (before : List Worked) (s : Worked) (behind : List Worked) → AreWorked w text from (before ++ s ∷ behind) → IsWorkedAt w text from before s
worked-at w text from [] s behind h = record { first = tt; read = h.1; replies = h.2 }
worked-at w text from (x ∷ xs) s behind h =
    let at = worked-at (after w x.action) text x.next xs s behind h.3 in
    record { first = (h.0, h.1, h.2, at.first); read = at.read; replies = at.replies }

module _ (text : List ℕ) (before : List Worked) (s : Worked) (behind : List Worked) (first : AreFirst text (before ++ s ∷ behind)) where
  pub own : IsWorkedAt empty_world text 0 before s
  own = worked-at empty_world text 0 before s behind first

  pub lawful : IsLawfulWorld (reached before)
  lawful = reached-lawful text before own.first

  pub bound : IsBoundIn (reached before).contents s.action
  bound = read-bound (reached before) text (place_after 0 before) s.action s.next lawful own.read
