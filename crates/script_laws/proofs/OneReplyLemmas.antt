-- A statement has one reply up to the choice of a plan.
use Rattle.std.proofs.Common.{◌≡◌, ℕ, List, ◌++◌, sym, ap, ◌∙◌}
use Rattle.catalog.specs.Contents.{IsLawful}
use Rattle.statements.specs.plan_reply_Told.{IsPlanReplyTo, IsPlanned, planned, refused}
use Rattle.plan_tree.specs.Plans.{Plan}
use Rattle.explain.specs.Texts.{plan_text}
use Rattle.statements.specs.reply_Answers.{result_text, tuples_of}
use Rattle.statements.specs.reply_Effort.{answer_fetches, answer_looks}
use Rattle.sql_query.specs.Queries.{Query}
use Rattle.sql_query.specs.WellBound.{IsWellBound}
use Rattle.sql_query.specs.Worlds.{World}
use Rattle.statements.specs.Replies.{IsReply}
use Rattle.statements.specs.reply_Replies.{Reply}
use Rattle.store.specs.Actions.{Action, idle, make, build, size, describe, fill, gather, answer, explain, certify, advise, verify, follow, answer_groups, explain_groups}
use Rattle.world_laws.specs.LawfulWorlds.{IsLawfulWorld}
use Rattle.script_laws.specs.OneReply.{AreAlike}
use Rattle.script_laws.specs.Reached.{IsBoundIn}
use Rattle.script_laws.proofs.AdviceOneLemmas.{advice-one}
use Rattle.statements.specs.plan_reply_OneLemmas.{lines-one, never-both, plans-one}
use Rattle.script_laws.proofs.VerdictOneLemmas.{checked-one}

same-reply : (r s : Reply) → r.bytes ≡ s.bytes → r.fetched ≡ s.fetched → r.looked ≡ s.looked → r ≡ s
same-reply r s bytes fetched looked =
    ap (λ (b : List ℕ). record { bytes = b; fetched = r.fetched; looked = r.looked }) bytes
    ∙ (ap (λ f. record { bytes = s.bytes; fetched = f; looked = r.looked }) fetched
    ∙ ap (λ l. record { bytes = s.bytes; fetched = s.fetched; looked = l }) looked)

module _ (w : World) (q : Query) (block : List ℕ) (lawful : IsLawful w.contents) (bound : IsWellBound w.contents q) where
  planned-one : (r s : Reply) → IsPlanned w q block r → IsPlanned w q block s → r ≡ s
  planned-one r s h k =
      let same = plans-one w.contents q block lawful bound h.plan k.plan h.good k.good in
      same-reply r s
      (h.answer.printed ∙ (ap (λ (p : Plan). plan_text w.contents q p ++ result_text w q (tuples_of w q p)) same ∙ sym k.answer.printed))
      (h.fetched ∙ (ap (λ (p : Plan). answer_fetches w q p) same ∙ sym k.fetched))
      (h.looked ∙ (ap (λ (p : Plan). answer_looks w q p) same ∙ sym k.looked))

  plan-one : (r s : Reply) → IsPlanReplyTo w q block r → IsPlanReplyTo w q block s → r ≡ s
  plan-one r s (planned h) (planned k) = planned-one r s h k
  plan-one r s (planned h) (refused k f l) = absurd (never-both w.contents q block lawful bound s.bytes h.plan k h.good)
  plan-one r s (refused h f l) (planned k) = absurd (never-both w.contents q block lawful bound r.bytes k.plan h k.good)
  plan-one r s (refused h f l) (refused k g m) = same-reply r s (lines-one w.contents q block lawful bound r.bytes s.bytes h k) (f ∙ sym g) (l ∙ sym m)

pub one-reply : (w : World) (action : Action) (r s : Reply) → IsLawfulWorld w → IsBoundIn w.contents action → IsReply w action r → IsReply w action s → AreAlike w action r s
one-reply w idle r s h b x y = x ∙ sym y
one-reply w (make name names columns) r s h b x y = x ∙ sym y
one-reply w (build name i) r s h b x y = x ∙ sym y
one-reply w (size t rows pages) r s h b x y = x ∙ sym y
one-reply w (describe t column v) r s h b x y = x ∙ sym y
one-reply w (fill t v) r s h b x y = x ∙ sym y
one-reply w (gather t) r s h b x y = x ∙ sym y
one-reply w (answer q) r s h b x y = tt
one-reply w (explain q) r s h b x y = tt
one-reply w (certify q) r s h b x y = tt
one-reply w (advise most candidates queries) r s h b x y =
    same-reply r s (advice-one w.contents candidates queries most r.bytes s.bytes x.0 y.0) (x.1 ∙ sym y.1) (x.2 ∙ sym y.2)
one-reply w (verify q block) r s h b x y = (checked-one w.contents q block r.bytes s.bytes x.0 y.0, x.1 ∙ sym y.1, x.2 ∙ sym y.2)
one-reply w (follow q block) r s h b x y = plan-one w q block h.contents b r s x y
one-reply w (answer_groups g) r s h b x y = tt
one-reply w (explain_groups g) r s h b x y = tt
