-- What certificates and advice show.
use Rattle.std.proofs.Common.{◌≡◌, ◌≤◌, ◌⊎◌, inl, inr, ℕ, false, get_or, List, ◌∷◌, ◌++◌, Some, refl, sym, ap, subst, ◌∙◌, arith, Ordering, Less, Equal, Greater}
use Rattle.std.specs.Ordering.{is_gt, nat_cmp, ordering_then}
use Rattle.std.proofs.lemmas.Grind.{common_steps}
use Rattle.advisor.specs.Choices.{Priced}
use Rattle.catalog.specs.Contents.{Contents, NamedIndex}
use Rattle.statements.specs.certificate_laws_TableLemmas.{best-least}
use Rattle.statements.specs.certificate_reader_Reading.{IsBlockRead}
use Rattle.statements.specs.check_reply_Checked.{IsCheckedText, IsVerdictLine, wrong_line_text, faulty, judged, valid_line}
use Rattle.statements.specs.index_prices_Replies.{IsReplyTo}
use Rattle.plan_check.specs.Certificates.{Certificate, finish_at}
use Rattle.plan_check.specs.Tables.{IsPlanTable}
use Rattle.plan_check.specs.Verdicts.{IsVerdict}
use Rattle.plan_check.specs.declared.verdict.Verdict.{Verdict}
use Rattle.plan_check.specs.declared.verdict.Verdict.TheVariants as verdicts
use Rattle.plan_laws.proofs.FinishedLemmas.{finished_is_meaning}
use Rattle.plan_laws.proofs.FinishedOrderLemmas.{finished_is_ordered}
use Rattle.statements.specs.plan_reply_Tabled.{IsTabled, tabled_text}
use Rattle.statements.specs.plan_reply_Told.{IsPlanReplyTo, IsRefusedPlan, planned, refused}
use Rattle.plan_tree.specs.Least.{IsBestPlan}
use Rattle.plan_tree.specs.Plans.{Plan}
use Rattle.plan_tree.specs.Space.{IsFinished}
use Rattle.plan_tree.proofs.BoundLemmas.{lawful-rows}
use Rattle.reply_text.specs.Texts.{invalid_line}
use Rattle.sql_query.specs.Queries.{Query}
use Rattle.sql_query.specs.WellBound.{IsWellBound}
use Rattle.sql_query.specs.Worlds.{World}
use Rattle.statements.specs.Replies.{IsReply}
use Rattle.statements.specs.reply_Replies.{Reply}
use Rattle.statements.specs.Scripts.{AreFirst, Worked}
use Rattle.store.specs.Actions.{Action, advise, answer, certify, explain, follow, verify}
use Rattle.world_laws.specs.LawfulWorlds.{IsLawfulWorld}
use Rattle.script_laws.specs.Reached.{IsBoundIn, reached}
use Rattle.script_laws.specs.Right.{IsLeastAdvice, IsRightAnswer, IsRightBlock, IsRightExplanation, IsRightPlan, IsUsedPlan}
use Rattle.script_laws.proofs.ReachedLemmas.{bound, lawful, own}

-- a line that begins with `invalid` is not `valid`
not-valid : (text : List ℕ) → invalid_line text ≡ valid_line → ⊥
not-valid text e = let heads : 105 ≡ 118 = ap (λ (l : List ℕ). get_or l 0 0) e in omega (arith, heads)

-- what is read, and that it is a table
record IsTableRead (c : Contents) (q : Query) (block : List ℕ) : Type 0 where
  certificate : Certificate
  read : IsBlockRead c q block certificate
  table : IsPlanTable c q certificate

by-verdict : (c : Contents) (q : Query) (t : Certificate) (v : Verdict) (bytes : List ℕ) → IsVerdict c q t v → IsVerdictLine c q t v bytes → bytes ≡ valid_line → IsPlanTable c q t
by-verdict c q t verdicts.Valid bytes holds told is = holds
by-verdict c q t (verdicts.No r) bytes holds told is = absurd (not-valid told.0 (sym told.2 ∙ is))

table-read : (c : Contents) (q : Query) (block bytes : List ℕ) → IsCheckedText c q block bytes → bytes ≡ valid_line → IsTableRead c q block
table-read c q block bytes (faulty f) is = absurd (not-valid (wrong_line_text f.line) (sym f.told ∙ is))
table-read c q block bytes (judged j) is = record { certificate = j.certificate; read = j.read; table = by-verdict c q j.certificate j.verdict bytes j.holds j.told is }

module _ (w : World) (q : Query) (h : IsLawfulWorld w) (well : IsWellBound w.contents q) where
  table-right : (t : Certificate) (p : Plan) → IsPlanTable w.contents q t → finish_at q t t.best ≡ Some p → IsRightPlan w q p
  table-right t p table is =
      let own-best = table.best in
      let same : own-best.plan ≡ p = (let both : Some own-best.plan ≡ Some p = sym own-best.is ∙ is in cc) in
      let finished = subst (IsFinished w.contents q) same own-best.finished in
      record {
        finished = finished;
        least = best-least w.contents q t table (lawful-rows w.contents q h.contents) p is;
        meant = finished_is_meaning w q h.stored well p finished;
        ordered = finished_is_ordered w q p h.stored well finished;
      }

  best-right : (p : Plan) → IsBestPlan w.contents q p → IsRightPlan w q p
  best-right p best = record {
    finished = best.finished;
    least = λ other finished low. (best.admissible, best.least other finished low);
    meant = finished_is_meaning w q h.stored well p best.finished;
    ordered = finished_is_ordered w q p h.stored well best.finished;
  }

  block-right : (block : List ℕ) → IsTableRead w.contents q block → IsRightBlock w q block
  block-right block r = record {
    certificate = r.certificate;
    read = r.read;
    table = r.table;
    best = r.table.best.plan;
    is = r.table.best.is;
    right = table-right r.certificate r.table.best.plan r.table r.table.best.is;
  }

-- the first of two orders decides where it can
first-by : (o p : Ordering) → is_gt (ordering_then o p) ≡ false → is_gt o ≡ false
first-by Less p h = refl
first-by Equal p h = refl
first-by Greater p h = h

no-greater : (a b : ℕ) → is_gt (nat_cmp a b) ≡ false → a ≤ b
no-greater a b h = grind (arith, common_steps)

advice-least : (c : Contents) (candidates : List NamedIndex) (queries : List Query) (most : ℕ) (bytes : List ℕ) → IsReplyTo c candidates queries most bytes → IsLeastAdvice c candidates queries most bytes
advice-least c candidates queries most bytes r = record {
  advice = r.advice;
  printed = r.printed;
  priced = r.is.priced;
  least = λ set sum choice total.
      let other : Priced = record { set = set; sum = sum } in
      no-greater r.advice.sum sum (first-by (nat_cmp r.advice.sum sum) _ (r.is.first other (record { choice = choice; sum = total })));
}

used-by : (w : World) (q : Query) (block : List ℕ) (r : Reply) → IsPlanReplyTo w q block r → IsUsedPlan w q block r.bytes ⊎ IsRefusedPlan w.contents q block r.bytes
used-by w q block r (planned h) = inl (record {
  plan = h.plan;
  good = h.good;
  no_cheaper = λ best is. is.least h.plan h.good.good.finished h.good.good.admissible;
  meant = h.answer.meant;
  ordered = h.answer.ordered;
  printed = h.answer.printed;
})
used-by w q block r (refused h f l) = inr h

module _ (text : List ℕ) (before behind : List Worked) (s : Worked) where
  reply-as : (action : Action) → AreFirst text (before ++ s ∷ behind) → s.action ≡ action → IsReply (reached before) action s.reply
  reply-as action first is = subst (λ (a : Action). IsReply (reached before) a s.reply) is (own text before s behind first).replies

  bound-as : (action : Action) → AreFirst text (before ++ s ∷ behind) → s.action ≡ action → IsBoundIn (reached before).contents action
  bound-as action first is = subst (IsBoundIn (reached before).contents) is (bound text before s behind first)

  pub answer-right : (q : Query) → AreFirst text (before ++ s ∷ behind) → s.action ≡ answer q → IsRightAnswer (reached before) q s.reply.bytes
  answer-right q first is =
      let r = reply-as (answer q) first is in
      let well = bound-as (answer q) first is in
      let best = r.answer.best in
      record { plan = r.plan; admissible = best.admissible; right = best-right (reached before) q (lawful text before s behind first) well r.plan best; printed = r.answer.printed }

  pub explanation-right : (q : Query) → AreFirst text (before ++ s ∷ behind) → s.action ≡ explain q → IsRightExplanation (reached before) q s.reply.bytes
  explanation-right q first is =
      let r = reply-as (explain q) first is in
      let well = bound-as (explain q) first is in
      let best = r.explanation.best in
      record { plan = r.plan; admissible = best.admissible; right = best-right (reached before) q (lawful text before s behind first) well r.plan best; printed = r.explanation.printed }

  pub valid-right : (q : Query) (block : List ℕ) → AreFirst text (before ++ s ∷ behind) → s.action ≡ verify q block → s.reply.bytes ≡ valid_line → IsRightBlock (reached before) q block
  valid-right q block first is valid =
      let r = reply-as (verify q block) first is in
      let well = bound-as (verify q block) first is in
      block-right (reached before) q (lawful text before s behind first) well block (table-read (reached before).contents q block s.reply.bytes r.0 valid)

  pub printed-right : (q : Query) → AreFirst text (before ++ s ∷ behind) → s.action ≡ certify q →
      (p : Plan) × (t : Certificate) × IsTabled (reached before).contents q p t × IsRightPlan (reached before) q p × (s.reply.bytes ≡ tabled_text (reached before).contents q p t)
  printed-right q first is =
      let r = reply-as (certify q) first is in
      let well = bound-as (certify q) first is in
      let tabled = r.text.tabled in
      (r.text.plan, r.text.certificate, tabled, table-right (reached before) q (lawful text before s behind first) well r.text.certificate r.text.plan tabled.table tabled.unfolds, r.text.printed)

  pub advice-is : (most : ℕ) (candidates : List NamedIndex) (queries : List Query) → AreFirst text (before ++ s ∷ behind) → s.action ≡ advise most candidates queries →
      IsLeastAdvice (reached before).contents candidates queries most s.reply.bytes
  advice-is most candidates queries first is = advice-least (reached before).contents candidates queries most s.reply.bytes (reply-as (advise most candidates queries) first is).0

  pub used-right : (q : Query) (block : List ℕ) → AreFirst text (before ++ s ∷ behind) → s.action ≡ follow q block → IsUsedPlan (reached before) q block s.reply.bytes ⊎ IsRefusedPlan (reached before).contents q block s.reply.bytes
  used-right q block first is = used-by (reached before) q block s.reply (reply-as (follow q block) first is)
