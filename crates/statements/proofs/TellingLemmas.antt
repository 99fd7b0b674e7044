-- A statement whose reply is made before any of it is written: written, cut off, or refused.
use Rattle.std.proofs.Common.{◌≡◌, ℕ, List, inl, refl, sym, subst, ◌∙◌, arith, Option, None, Result, Ok, Err, IfErr, IsErrAnd}
use Rattle.std.specs.Io.KnownBytes.{Appends}
use Rattle.pg_base.specs.Writing.{AppendsPrefix}
use Rattle.sql_lex.specs.declared.tokens.Token.{Token}
use Rattle.group_reply.specs.reply_Effort.{HasRisen, exactly}
use Rattle.group_reply.specs.reply_Putting.{HasWriteCause}
use Rattle.group_reply.specs.reply_Replies.{traces}
use Rattle.sql_query.specs.Worlds.{World}
use Rattle.statements.specs.declared.end.End.{End}
use Rattle.statements.specs.declared.end.End.TheVariants as ends
use Rattle.statements.specs.work.Askings.{IsMeasuredOf}
use Rattle.statements.specs.work.Replies.{told}
use Rattle.statements.specs.work.Steps.{IsAnsweredOver, IsTalliedOver, IsTelling, Refuses, StopsOver}

module _ (w : World) (text : List ℕ) (tokens : List Token) where
  -- what a `?` hands on
  pub refused-by : {A : Type 0} → (r : Result A End) (e : End) → Refuses e w text tokens 0 0 → IsErrAnd r (λ x. x ≡ e) → IfErr r (λ x. Refuses x w text tokens 0 0)
  refused-by (Ok n) e is told = tt
  refused-by (Err x) e is told = subst (λ (y : End). Refuses y w text tokens 0 0) (sym told) is

  -- a reply that was not made
  pub refused-stops : (e : End) (held : Option (List ℕ)) (f l : ℕ) → Refuses e w text tokens 0 0 → StopsOver e w text tokens (traces held f l) (traces held f l)
  refused-stops (ends.Fault fault) held f l (is, field, same) = (is, field, refl)
  refused-stops ends.Write held f l is = absurd is
  refused-stops ends.Memory held f l is = inl refl

  pub never-write : (e : End) → Refuses e w text tokens 0 0 → e ≡ ends.Write → ⊥
  never-write (ends.Fault f) is same = cc (same)
  never-write ends.Write is same = is
  never-write ends.Memory is same = cc (same)

  module _ (next : ℕ) (bytes : List ℕ) (is : IsTelling w text tokens next bytes) where
    -- a statement that prints a line asks no query
    pub tallied-telling : IsTalliedOver w text tokens next None
    tallied-telling = record {
      action = is.action;
      read = is.read;
      still = is.still;
      tallied = record { reply = told bytes; replies = is.reply; measured = subst (λ o. IsMeasuredOf o None) (sym is.quiet) tt };
    }

    module _ (held held' : Option (List ℕ)) (f l : ℕ) where
      none-fetched : HasRisen (exactly 0) f f
      none-fetched = record { above = omega arith; within = omega arith; exact = omega arith }

      -- the line was written
      pub telling-written : Appends held held' bytes → IsAnsweredOver w text tokens next (traces held f l) (traces held' f l)
      telling-written gained = (is.action, is.read, is.still, record { reply = told bytes; answers = is.reply; gained = gained; fetched = none-fetched; looked = omega arith })

      -- or out failed
      pub telling-begun : AppendsPrefix held held' bytes → StopsOver ends.Write w text tokens (traces held f l) (traces held' f l)
      telling-begun gained = (is.action, next, is.read, record { reply = told bytes; answers = is.reply; gained = gained; fetched = omega arith; looked = omega arith })

-- where nothing was written, out has no fault to tell of
pub no-cause-told : (r : Result ℕ End) (e : End) (n : ℕ) → (e ≡ ends.Write → ⊥) → IsErrAnd r (λ x. x ≡ e) → HasWriteCause ends.Write n n r
no-cause-told (Ok next) e n other is = record { write = λ wrong. absurd (cc (wrong)); quiet = λ not. refl }
no-cause-told (Err x) e n other is = record { write = λ wrong. absurd (let same : x ≡ ends.Write = cc (wrong) in other (sym is ∙ same)); quiet = λ not. refl }
