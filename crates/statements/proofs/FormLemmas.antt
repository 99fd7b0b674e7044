-- What is known of what is read where it is of the one form or the other.
use Rattle.std.proofs.Common.{◌≡◌, ℕ, List, Option, Result, OnOk, IfErr, IfOk, sym, subst}
use Rattle.catalog.specs.Contents.{Contents}
use Rattle.sql_lex.specs.declared.tokens.Token.{Token}
use Rattle.sql_query.specs.Worlds.{World}
use Rattle.group_reader.specs.declared.selected.Selected.{Selected}
use Rattle.group_reply.specs.reply_Replies.{HasReplied, Traces}
use Rattle.group_reply.specs.reply_work_Replies.{Leaves}
use Rattle.group_reply.specs.reply_measuring_Measured.{Measured}
use Rattle.group_reply.specs.reply_stop_Stop.{Stop}
use Rattle.group_reply.specs.reply_stop_Stop_TheVariants as stop
use Rattle.statements.specs.work.Askings.{IsTallied}
use Rattle.statements.specs.work.Questions.{HasNoneOf, IsBoundTo, asked_of}
use Rattle.statements.specs.Replies.{IsReply}

pub bound-as : (c : Contents) (s t : Selected) → s ≡ t → IsBoundTo c s → IsBoundTo c t
bound-as c s t is bound = subst (IsBoundTo c) is bound

-- what is read has no admissible plan, whichever of two equal readings is asked
pub none-as : {A : Type 0} (c : Contents) (s t : Selected) (r : Result A Stop) → s ≡ t → IfErr r (λ e. e ≡ stop.NoPlan → HasNoneOf c t) → IfErr r (λ e. e ≡ stop.NoPlan → HasNoneOf c s)
none-as c s t r is h = subst (λ (x : Selected). IfErr r (λ e. e ≡ stop.NoPlan → HasNoneOf c x)) (sym is) h

module _ (w : World) (text : List ℕ) (tokens : List Token) (s t : Selected) (is : s ≡ t) where
  -- its reply
  pub replied-as : (r : Result (Unit {0}) Stop) (old new : Traces) → OnOk r (HasReplied (IsReply w (asked_of text tokens t)) old new) → OnOk r (HasReplied (IsReply w (asked_of text tokens s)) old new)
  replied-as r old new h = subst (λ (x : Selected). OnOk r (HasReplied (IsReply w (asked_of text tokens x)) old new)) (sym is) h

  pub stopped-as : (r : Result (Unit {0}) Stop) (old new : Traces) → IfErr r (λ e. Leaves e (IsReply w (asked_of text tokens t)) old new) → IfErr r (λ e. Leaves e (IsReply w (asked_of text tokens s)) old new)
  stopped-as r old new h = subst (λ (x : Selected). IfErr r (λ e. Leaves e (IsReply w (asked_of text tokens x)) old new)) (sym is) h

  -- what its answer comes to
  pub tallied-as : (r : Result (Option Measured) Stop) → IfOk r (IsTallied w (asked_of text tokens t)) → IfOk r (IsTallied w (asked_of text tokens s))
  tallied-as r h = subst (λ (x : Selected). IfOk r (IsTallied w (asked_of text tokens x))) (sym is) h

  pub tally-as : (m : Option Measured) → IsTallied w (asked_of text tokens t) m → IsTallied w (asked_of text tokens s) m
  tally-as m h = subst (λ (x : Selected). IsTallied w (asked_of text tokens x) m) (sym is) h
