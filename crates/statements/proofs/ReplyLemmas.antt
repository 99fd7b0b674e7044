-- The reply to a query, by what is asked of it.
use Rattle.std.proofs.Common.{◌≡◌, ℕ, Bool, true, false, inl, inr, Ok, Err, Result, OnOk, IfErr, ap, arith, sym, subst}
use Rattle.std.specs.declared.option.Option.{Option}
use Rattle.std.specs.Prelude.{List}
use Rattle.group_reply.specs.group_explain_Plans.{IsGroupedExplanationOf}
use Rattle.group_reply.specs.Replies.{IsGroupedAnswerTo}
use Rattle.sql_query.specs.Grouped.{GroupedQuery}
use Rattle.sql_query.specs.Queries.{Query}
use Rattle.sql_query.specs.Worlds.{World}
use Rattle.query_reader.specs.declared.wanted.Wanted.{Wanted}
use Rattle.query_reader.specs.declared.wanted.Wanted.TheVariants as wanted
use Rattle.group_reply.specs.reply_stop_Stop.{Stop}
use Rattle.group_reply.specs.reply_stop_Stop_TheVariants.{NoPlan, Write, Memory}
use Rattle.group_reply.specs.reply_Effort.{HasRisen, Rise, exactly}
use Rattle.group_reply.specs.reply_Replies.{HasBegun, HasReplied, IsAnswerTo, IsExplanationOf, Reply, Traces, traces}
use Rattle.group_reply.specs.reply_work_Replies.{Leaves}
use Rattle.plan_reply.specs.Tabled.{IsTableOf}
use Rattle.statements.specs.Accepted.{asked_as}
use Rattle.statements.specs.work.Questions.{groups_asked}
use Rattle.statements.specs.Replies.{IsReply}

-- a reply with nothing fetched and nothing looked at, whatever the counters stand at
module _ (Is : Reply → Type 0) (quiet : (r : Reply) → Is r → r.fetched ≡ exactly 0) (held held' : Option (List ℕ)) (f l : ℕ) where
  none-fetched : (rise : Rise) → rise ≡ exactly 0 → HasRisen rise f f
  none-fetched rise is = subst (λ (r : Rise). HasRisen r f f) (sym is) (record { above = omega arith; within = omega arith; exact = omega arith })

  moved : HasReplied Is (traces held 0 0) (traces held' 0 0) → HasReplied Is (traces held f l) (traces held' f l)
  moved is = record { reply = is.reply; answers = is.answers; gained = is.gained; fetched = none-fetched is.reply.fetched (quiet is.reply is.answers); looked = omega arith }

  begun-moved : HasBegun Is (traces held 0 0) (traces held' 0 0) → HasBegun Is (traces held f l) (traces held' f l)
  begun-moved is = record { reply = is.reply; answers = is.answers; gained = is.gained; fetched = omega arith; looked = omega arith }

  still-moved : traces held' 0 0 ≡ traces held 0 0 → traces held' f l ≡ traces held f l
  still-moved same = ap (λ (t : Traces). traces t.held f l) same

  leaves-moved : (e : Stop) → Leaves e Is (traces held 0 0) (traces held' 0 0) → Leaves e Is (traces held f l) (traces held' f l)
  leaves-moved NoPlan same = still-moved same
  leaves-moved Write is = begun-moved is
  leaves-moved Memory (inl same) = inl (still-moved same)
  leaves-moved Memory (inr is) = inr (begun-moved is)

  replied-moved : (r : Result (Unit {0}) Stop) → OnOk r (HasReplied Is (traces held 0 0) (traces held' 0 0)) → OnOk r (HasReplied Is (traces held f l) (traces held' f l))
  replied-moved (Ok u) h = moved h
  replied-moved (Err e) h = tt

  stopped-moved : (r : Result (Unit {0}) Stop) → IfErr r (λ e. Leaves e Is (traces held 0 0) (traces held' 0 0)) → IfErr r (λ e. Leaves e Is (traces held f l) (traces held' f l))
  stopped-moved (Ok u) h = tt
  stopped-moved (Err e) h = leaves-moved e h

module _ (w : World) (q : Query) (asking : Wanted) (r : Result (Unit {0}) Stop) where
  abbrev Replied : Traces → Traces → Wanted → Type 0
  Replied old new x = OnOk r (HasReplied (IsReply w (asked_as x q)) old new)

  abbrev Stopped : Traces → Traces → Wanted → Type 0
  Stopped old new x = IfErr r (λ e. Leaves e (IsReply w (asked_as x q)) old new)

  pub answered-replied : asking ≡ wanted.Rows → (old new : Traces) → OnOk r (HasReplied (IsAnswerTo w q) old new) → OnOk r (HasReplied (IsReply w (asked_as asking q)) old new)
  answered-replied is old new h = subst (Replied old new) (sym is) h

  pub answered-stopped : asking ≡ wanted.Rows → (old new : Traces) → IfErr r (λ e. Leaves e (IsAnswerTo w q) old new) → IfErr r (λ e. Leaves e (IsReply w (asked_as asking q)) old new)
  answered-stopped is old new h = subst (Stopped old new) (sym is) h

  module _ (held held' : Option (List ℕ)) (f l : ℕ) where
    pub explained-replied : asking ≡ wanted.Plan → OnOk r (HasReplied (IsExplanationOf w.contents q) (traces held 0 0) (traces held' 0 0)) → OnOk r (HasReplied (IsReply w (asked_as asking q)) (traces held f l) (traces held' f l))
    explained-replied is h = subst (Replied (traces held f l) (traces held' f l)) (sym is) (replied-moved (IsExplanationOf w.contents q) (λ x e. e.fetched) held held' f l r h)

    pub explained-stopped : asking ≡ wanted.Plan → IfErr r (λ e. Leaves e (IsExplanationOf w.contents q) (traces held 0 0) (traces held' 0 0)) → IfErr r (λ e. Leaves e (IsReply w (asked_as asking q)) (traces held f l) (traces held' f l))
    explained-stopped is h = subst (Stopped (traces held f l) (traces held' f l)) (sym is) (stopped-moved (IsExplanationOf w.contents q) (λ x e. e.fetched) held held' f l r h)

    pub tabled-replied : asking ≡ wanted.Table → OnOk r (HasReplied (IsTableOf w.contents q) (traces held 0 0) (traces held' 0 0)) → OnOk r (HasReplied (IsReply w (asked_as asking q)) (traces held f l) (traces held' f l))
    tabled-replied is h = subst (Replied (traces held f l) (traces held' f l)) (sym is) (replied-moved (IsTableOf w.contents q) (λ x e. e.fetched) held held' f l r h)

    pub tabled-stopped : asking ≡ wanted.Table → IfErr r (λ e. Leaves e (IsTableOf w.contents q) (traces held 0 0) (traces held' 0 0)) → IfErr r (λ e. Leaves e (IsReply w (asked_as asking q)) (traces held f l) (traces held' f l))
    tabled-stopped is h = subst (Stopped (traces held f l) (traces held' f l)) (sym is) (stopped-moved (IsTableOf w.contents q) (λ x e. e.fetched) held held' f l r h)

-- the reply to a grouped query
module _ (w : World) (g : GroupedQuery) (explains : Bool) (r : Result (Unit {0}) Stop) where
  abbrev GroupsReplied : Traces → Traces → Bool → Type 0
  GroupsReplied old new b = OnOk r (HasReplied (IsReply w (groups_asked b g)) old new)

  abbrev GroupsStopped : Traces → Traces → Bool → Type 0
  GroupsStopped old new b = IfErr r (λ e. Leaves e (IsReply w (groups_asked b g)) old new)

  pub groups-replied : explains ≡ false → (old new : Traces) → OnOk r (HasReplied (IsGroupedAnswerTo w g) old new) → OnOk r (HasReplied (IsReply w (groups_asked explains g)) old new)
  groups-replied is old new h = subst (GroupsReplied old new) (sym is) h

  pub groups-stopped : explains ≡ false → (old new : Traces) → IfErr r (λ e. Leaves e (IsGroupedAnswerTo w g) old new) → IfErr r (λ e. Leaves e (IsReply w (groups_asked explains g)) old new)
  groups-stopped is old new h = subst (GroupsStopped old new) (sym is) h

  module _ (held held' : Option (List ℕ)) (f l : ℕ) where
    pub plan-replied : explains ≡ true → OnOk r (HasReplied (IsGroupedExplanationOf w.contents g) (traces held 0 0) (traces held' 0 0)) → OnOk r (HasReplied (IsReply w (groups_asked explains g)) (traces held f l) (traces held' f l))
    plan-replied is h = subst (GroupsReplied (traces held f l) (traces held' f l)) (sym is) (replied-moved (IsGroupedExplanationOf w.contents g) (λ x e. e.fetched) held held' f l r h)

    pub plan-stopped : explains ≡ true → IfErr r (λ e. Leaves e (IsGroupedExplanationOf w.contents g) (traces held 0 0) (traces held' 0 0)) → IfErr r (λ e. Leaves e (IsReply w (groups_asked explains g)) (traces held f l) (traces held' f l))
    plan-stopped is h = subst (GroupsStopped (traces held f l) (traces held' f l)) (sym is) (stopped-moved (IsGroupedExplanationOf w.contents g) (λ x e. e.fetched) held held' f l r h)
