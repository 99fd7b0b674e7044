-- The statements of a script, one more at the end; and what a stop leaves of them.
use Rattle.std.proofs.Common.{◌≡◌, ℕ, ◌<◌, List, [], ◌∷◌, ◌++◌, length, take, refl, sym, ◌∙◌, ap, append-nil, inl, inr, Option, Some, None}
use Rattle.std.proofs.lemmas.List.Concat.{flat_map-append}
use Rattle.std.specs.Io.KnownBytes.{Appends}
use Rattle.pg_base.proofs.Bytes.{Appends-more}
use Rattle.sql_query.specs.Worlds.{World, empty_world}
use Rattle.statements.specs.declared.end.End.{End}
use Rattle.statements.specs.declared.end.End.TheVariants as ends
use Rattle.store.specs.Actions.{after}
use Rattle.statements.specs.Accepted.{IsRead}
use Rattle.statements.specs.Replies.{IsReply}
use Rattle.statements.specs.Scripts.{Worked, AreWorked, AreFirst, world_after, place_after, replies}
use Rattle.statements.specs.reply_Replies.{Traces}
use Rattle.statements.specs.Steps.{Advances, IsBegun, Stops}
use Rattle.pgplan.specs.Runs.{IsAnswered, IsCutOff}
use Rattle.pgplan.specs.work.Runs.{Ends}
use Rattle.pg_base.proofs.OptionLemmas.{appends-none as Appends-none}

-- one more statement
pub AreWorked-more : (w : World) (text : List ℕ) (from : ℕ) (ss : List Worked) (s : Worked) → AreWorked w text from ss → place_after from ss < length text →
    IsRead (world_after w ss) text (place_after from ss) s.action s.next → IsReply (world_after w ss) s.action s.reply → AreWorked w text from (ss ++ s ∷ [])
AreWorked-more w text from [] s worked more read reply = (more, read, reply, tt)
AreWorked-more w text from (t ∷ ss) s worked more read reply =
    (worked.0, worked.1, worked.2, AreWorked-more (after w t.action) text t.next ss s worked.3 more read reply)

pub world_after-more : (w : World) (ss : List Worked) (s : Worked) → world_after w (ss ++ s ∷ []) ≡ after (world_after w ss) s.action
world_after-more w [] s = refl
world_after-more w (t ∷ ss) s = world_after-more (after w t.action) ss s

pub place_after-more : (from : ℕ) (ss : List Worked) (s : Worked) → place_after from (ss ++ s ∷ []) ≡ s.next
place_after-more from [] s = refl
place_after-more from (t ∷ ss) s = place_after-more t.next ss s

pub replies-more : (ss : List Worked) (s : Worked) → replies (ss ++ s ∷ []) ≡ replies ss ++ s.reply.bytes
replies-more ss s = flat_map-append (λ (t : Worked). t.reply.bytes) ss (s ∷ []) ∙ ap (λ (r : List ℕ). replies ss ++ r) (append-nil s.reply.bytes)

-- the first statements were worked up to this place, and left this world and these bytes
pub record IsUnderWay (text : List ℕ) (at : ℕ) (w : World) (held held' : Option (List ℕ)) : Type 0 where
  pub statements : List Worked
  pub first : AreFirst text statements
  pub place : place_after 0 statements ≡ at
  pub world : world_after empty_world statements ≡ w
  pub gained : Appends held held' (replies statements)

-- before the first statement
pub is_under_way : (text : List ℕ) (w : World) (held : Option (List ℕ)) → w ≡ empty_world → IsUnderWay text 0 w held held
is_under_way text w held e = record { statements = []; first = tt; place = refl; world = sym e; gained = Appends-none held }

-- a step further
pub step_further : (text : List ℕ) (at next : ℕ) (w w' : World) (held : Option (List ℕ)) (old new : Traces) → IsUnderWay text at w held old.held → at < length text →
    Advances w w' text at next old new → IsUnderWay text next w' held new.held
step_further text at next w w' held old new so more step =
    let s : Worked = record { action = step.action; next = next; reply = step.replied.reply } in
    record {
      statements = so.statements ++ s ∷ [];
      first = AreWorked-more empty_world text 0 so.statements s so.first (rw so.place more) (rw (so.world, so.place) step.read) (rw so.world step.replied.answers);
      place = place_after-more 0 so.statements s;
      world = world_after-more empty_world so.statements s ∙ ap (λ (v : World). after v step.action) so.world ∙ sym step.world;
      gained = Appends-more held old.held new.held (replies so.statements) step.replied.reply.bytes _ so.gained step.replied.gained (replies-more so.statements s);
    }

-- at the end of the text
pub all_worked : (text : List ℕ) (at : ℕ) (w : World) (held held' : Option (List ℕ)) → IsUnderWay text at w held held' → at ≡ length text → IsAnswered text held held'
all_worked text at w held held' so e = record { statements = so.statements; all = record { first = so.first; ended = so.place ∙ e }; gained = so.gained }

-- a part of the next reply was written
cut_off : (text : List ℕ) (at : ℕ) (w : World) (held : Option (List ℕ)) (old new : Traces) → IsUnderWay text at w held old.held → at < length text →
    IsBegun w text at old new → IsCutOff text held new.held
cut_off text at w held old new so more begun = record {
  statements = so.statements;
  first = so.first;
  more = rw so.place more;
  action = begun.action;
  next = begun.next;
  read = rw (so.world, so.place) begun.read;
  reply = begun.begun.reply;
  answers = rw so.world begun.begun.answers;
  count = begun.begun.gained.0;
  within = begun.begun.gained.1;
  gained = Appends-more held old.held new.held (replies so.statements) (take begun.begun.gained.0 begun.begun.reply.bytes) _ so.gained begun.begun.gained.2 refl;
}

-- a statement that was not worked
pub stopped : (e : End) (text : List ℕ) (at : ℕ) (w w' : World) (held : Option (List ℕ)) (old new : Traces) → IsUnderWay text at w held old.held → at < length text →
    w' ≡ w → Stops e w text at old new → Ends e text w' held new.held
stopped (ends.Fault fault) text at w w' held old new so more same stop = (
  so.statements,
  same ∙ sym so.world,
  rw same stop.1,
  record {
    first = so.first;
    more = rw so.place more;
    fault = rw (so.world, so.place) stop.0;
    gained = rw stop.2 so.gained;
  },
)
stopped ends.Write text at w w' held old new so more same stop = cut_off text at w held old new so more stop
stopped ends.Memory text at w w' held old new so more same stop =
    elim stop [
      | inl still ↦ inl (record { statements = so.statements; first = so.first; gained = rw still so.gained })
      | inr begun ↦ inr (cut_off text at w held old new so more begun)
    ]
