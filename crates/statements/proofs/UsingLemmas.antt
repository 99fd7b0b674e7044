-- USE PLAN: answered, broken off, or worked with nothing printed.
use Rattle.std.proofs.Common.{◌≡◌, ℕ, List, None, Err, inr, refl, sym, ap, subst, ◌∙◌}
use Rattle.sql_lex.specs.declared.tokens.Token.{Token}
use Rattle.plan_reply.specs.Told.{IsPlanReplyTo}
use Rattle.group_reply.specs.reply_stop_Broken.{Broken}
use Rattle.group_reply.specs.reply_stop_Broken_TheVariants as broken
use Rattle.group_reply.specs.reply_Putting.{HasWriteCause}
use Rattle.group_reply.specs.reply_Replies.{HasBegun, HasReplied, Reply, Traces}
use Rattle.sql_query.specs.Queries.{Query}
use Rattle.sql_query.specs.Worlds.{World}
use Rattle.store.specs.Actions.{follow}
use Rattle.statements.specs.declared.end.End.{End}
use Rattle.statements.specs.declared.end.End.TheVariants as ends
use Rattle.statements.specs.Accepted.{IsReadOver}
use Rattle.statements.specs.work.Ending.{end_of_broken}
use Rattle.statements.specs.work.Steps.{IsAnsweredOver, IsTalliedOver, StopsOver}
use Rattle.statements.proofs.AnsweringLemmas.{ended}

module _ (w : World) (text : List ℕ) (tokens : List Token) (q : Query) (block : List ℕ) (next : ℕ) (read : IsReadOver w text tokens (follow q block) next) where
  -- the reply was written whole
  pub followed : (old new : Traces) → HasReplied (IsPlanReplyTo w q block) old new → IsAnsweredOver w text tokens next old new
  followed old new replied = (follow q block, read, refl, replied)

  -- the reply was not written whole
  off-by : (b : Broken) (old new : Traces) → HasBegun (IsPlanReplyTo w q block) old new → StopsOver (end_of_broken b) w text tokens old new
  off-by broken.Write old new begun = (follow q block, next, read, begun)
  off-by broken.Memory old new begun = inr (follow q block, next, read, begun)

  pub broken-told : (b : Broken) (e : End) (old new : Traces) → e ≡ end_of_broken b → HasBegun (IsPlanReplyTo w q block) old new → StopsOver e w text tokens old new
  broken-told b e old new is begun = subst (λ (x : End). StopsOver x w text tokens old new) (sym is) (off-by b old new begun)

  -- the statement asks nothing that is measured
  pub tallied-plan : (r : Reply) → IsPlanReplyTo w q block r → IsTalliedOver w text tokens next None
  tallied-plan r is = record { action = follow q block; read = read; still = refl; tallied = record { reply = r; replies = is; measured = tt } }

-- what it told of out's faults
pub broken-cause : (b : Broken) (e : End) (before now : ℕ) → e ≡ end_of_broken b → HasWriteCause {T = Unit {0}} broken.Write before now (Err b) → HasWriteCause {T = ℕ} ends.Write before now (Err e)
broken-cause broken.Write e before now is cause = record { write = λ so. cause.write refl; quiet = λ not. absurd (not (ap ended is)) }
broken-cause broken.Memory e before now is cause = record {
  write = λ wrong. absurd (let bad : ended (end_of_broken broken.Memory) ≡ ended ends.Write = ap ended (sym is) ∙ wrong in cc (bad));
  quiet = λ not. cause.quiet (λ wrong. absurd (cc (wrong)));
}
