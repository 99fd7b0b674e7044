-- Replies with a table.
use Rattle.std.proofs.Common.{◌≡◌, ℕ, List, refl, arith, Option, Result, Ok, Err, IfErr, OnErr, OnOk}
use Rattle.std.specs.Io.KnownBytes.{Appends}
use Rattle.pg_base.specs.Writing.{AppendsPrefix}
use Rattle.catalog.specs.Contents.{Contents}
use Rattle.sql_query.specs.Queries.{Query}
use Rattle.reply.specs.Effort.{exactly}
use Rattle.reply.specs.Replies.{HasBegun, HasReplied, Reply, traces}
use Rattle.reply.specs.work.Replies.{Leaves}
use Rattle.reply.specs.declared.stop.Stop.{Stop}
use Rattle.reply.specs.declared.stop.Stop.TheVariants.{NoPlan, Write, Memory}
use Rattle.plan_reply.specs.Tabled.{IsTableOf, IsTabledText}

module _ (c : Contents) (q : Query) (bytes : List ℕ) (text : IsTabledText c q bytes) (a b : Option (List ℕ)) where
  abbrev reply : Reply
  reply = record { bytes = bytes; fetched = exactly 0; looked = 0 }

  abbrev is_reply : IsTableOf c q reply
  is_reply = record { text = text; fetched = refl; looked = refl }

  replied : Appends a b bytes → HasReplied (IsTableOf c q) (traces a 0 0) (traces b 0 0)
  replied gained = record { reply = reply; answers = is_reply; gained = gained; fetched = record { above = omega arith; within = omega arith; exact = refl }; looked = omega arith }

  begun : AppendsPrefix a b bytes → HasBegun (IsTableOf c q) (traces a 0 0) (traces b 0 0)
  begun gained = record { reply = reply; answers = is_reply; gained = gained; fetched = omega arith; looked = omega arith }

  pub replied-on : (r : Result (Unit {0}) Stop) → OnOk r (Appends a b bytes) → OnOk r (HasReplied (IsTableOf c q) (traces a 0 0) (traces b 0 0))
  replied-on (Ok u) gained = replied gained
  replied-on (Err e) gained = tt

  -- a reply that is not written whole is of a query that has a plan
  pub stopped-on : (r : Result (Unit {0}) Stop) → OnErr r (AppendsPrefix a b bytes) → IfErr r (λ e. e ≡ Write) → IfErr r (λ e. Leaves e (IsTableOf c q) (traces a 0 0) (traces b 0 0))
  stopped-on (Ok u) gained wrote = tt
  stopped-on (Err Write) gained wrote = begun gained
  stopped-on (Err NoPlan) gained wrote = absurd (cc (wrote))
  stopped-on (Err Memory) gained wrote = absurd (cc (wrote))
