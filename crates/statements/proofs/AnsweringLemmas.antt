-- How a query ends: answered, refused, or stopped on its way out.
use Rattle.std.proofs.Common.{◌≡◌, ℕ, ◌<◌, ◌∙◌, Bool, true, false, List, length, inl, inr, Option, Some, None, Ok, Err, Result, IfErr, IsErrAnd, refl, sym, ap, subst, arith}
use Rattle.pg_base.specs.declared.faults.Fault.{Fault}
use Rattle.pg_base.specs.declared.faults.Refusal.{Refusal}
use Rattle.pg_base.specs.declared.faults.Refusal.TheVariants as refusal
use Rattle.sql_lex.specs.declared.tokens.Token.{Token}
use Rattle.sql_lex.specs.Ends.{end_of}
use Rattle.sql_grammar.specs.Faults.{terminals}
use Rattle.catalog.specs.Contents.{Contents}
use Rattle.query_reader.specs.work.Select.{AreNoOther, is_explained}
use Rattle.query_reader.specs.Wanted.{wanted_by}
use Rattle.query_reader.specs.declared.wanted.Wanted.{Wanted}
use Rattle.query_reader.specs.declared.wanted.Wanted.TheVariants as wanted
use Rattle.group_reply.specs.group_explain_Plans.{IsGroupedExplanationOf}
use Rattle.group_reader.specs.declared.selected.Selected.{Selected}
use Rattle.group_reader.specs.declared.selected.Selected.TheVariants.{Plain, Grouped}
use Rattle.group_reply.specs.Replies.{IsGroupedAnswerTo}
use Rattle.sql_query.specs.Grouped.{GroupedQuery}
use Rattle.sql_query.specs.Queries.{Query}
use Rattle.sql_query.specs.Worlds.{World}
use Rattle.group_reply.specs.reply_stop_Stop.{Stop}
use Rattle.group_reply.specs.reply_stop_Stop_TheVariants as stop
use Rattle.group_reply.specs.reply_Effort.{exactly}
use Rattle.group_reply.specs.reply_work_Measures.{IsMeasured}
use Rattle.group_reply.specs.reply_Replies.{HasReplied, Reply, Traces}
use Rattle.group_reply.specs.reply_work_Replies.{Leaves}
use Rattle.group_reply.specs.reply_measuring_Measured.{Measured}
use Rattle.group_reply.specs.explain_Texts.{explained_text}
use Rattle.plan_tree.specs.Plans.{Plan}
use Rattle.group_reply.specs.reply_Putting.{HasWriteCause}
use Rattle.statements.specs.declared.end.End.{End}
use Rattle.statements.specs.declared.end.End.TheVariants as ends
use Rattle.store.specs.Actions.{after}
use Rattle.statements.specs.work.Ending.{end_of_refusal, end_of_stop}
use Rattle.statements.specs.Accepted.{IsReadOver, asked_as}
use Rattle.statements.specs.work.Askings.{IsTallied}
use Rattle.statements.specs.Faults.{IsFaultOver, no_plan}
use Rattle.statements.specs.work.Questions.{HasNoneOf, asked_of, groups_asked}
use Rattle.statements.specs.Replies.{IsReply}
use Rattle.plan_reply.specs.Tabled.{IsTabledText}
use Rattle.statements.specs.work.Steps.{IsAnsweredOver, IsTalliedOver, Refuses, StopsOver}
use Rattle.statements.proofs.PlainLemmas.{plain-field}
use Rattle.statements.proofs.QueryLemmas.{Reads, query-fault, fault-plain}

-- a SELECT that is not read
pub query-refused : (w : World) (text : List ℕ) (tokens : List Token) (refused : Refusal) → 1 < length tokens → AreNoOther text tokens → Reads w text tokens (Err refused) →
    Refuses (end_of_refusal refused) w text tokens 0 0
query-refused w text tokens (refusal.Fault f) some kind reads =
    let one : 0 < length tokens = omega (arith, some) in
    (query-fault w text tokens one f reads kind, plain-field w.contents f (fault-plain w text tokens one f reads kind), refl)
query-refused w text tokens refusal.Memory some kind reads = inl refl

-- a SELECT leaves the world as it is
rows-still : (w : World) (x : Wanted) (q : Query) → w ≡ after w (asked_as x q)
rows-still w wanted.Rows q = refl
rows-still w wanted.Plan q = refl
rows-still w wanted.Table q = refl

groups-still : (w : World) (explained : Bool) (g : GroupedQuery) → w ≡ after w (groups_asked explained g)
groups-still w true g = refl
groups-still w false g = refl

still : (w : World) (text : List ℕ) (tokens : List Token) (s : Selected) → w ≡ after w (asked_of text tokens s)
still w text tokens (Plain q) = rows-still w (wanted_by (terminals text tokens)) q
still w text tokens (Grouped g) = groups-still w (is_explained (terminals text tokens)) g

-- the text of a plan alone
abbrev explanation : Contents → Query → Plan → Reply
explanation c q p = record { bytes = explained_text c q p; fetched = exactly 0; looked = 0 }

-- a query was measured: nothing is said of one that is explained, with its table or without
pub rows-tallied : (w : World) (q : Query) (x : Wanted) (m : Measured) → x ≡ wanted.Rows → IsMeasured w q m.rows m.cost → IsTallied w (asked_as x q) (Some m)
rows-tallied w q x m asks is = subst (λ (y : Wanted). IsTallied w (asked_as y q) (Some m)) (sym asks) (record { reply = is.reply; replies = is.answers; measured = is })

pub plan-tallied : (w : World) (q : Query) (x : Wanted) (m : Measured) → x ≡ wanted.Plan → IsMeasured w q m.rows m.cost → IsTallied w (asked_as x q) None
plan-tallied w q x m asks is =
    subst (λ (y : Wanted). IsTallied w (asked_as y q) None) (sym asks)
    (record { reply = explanation w.contents q is.priced.plan; replies = record { plan = is.priced.plan; explanation = record { best = is.priced.best; printed = refl }; fetched = refl; looked = refl }; measured = tt })

pub table-tallied : (w : World) (q : Query) (x : Wanted) (bytes : List ℕ) → x ≡ wanted.Table → IsTabledText w.contents q bytes → IsTallied w (asked_as x q) None
table-tallied w q x bytes asks text =
    subst (λ (y : Wanted). IsTallied w (asked_as y q) None) (sym asks) (record { reply = record { bytes = bytes; fetched = exactly 0; looked = 0 }; replies = record { text = text; fetched = refl; looked = refl }; measured = tt })

-- nothing is measured of a grouped query, which has a reply
pub groups-tallied : (w : World) (g : GroupedQuery) (explained : Bool) → (r : Reply) × IsGroupedAnswerTo w g r → (r : Reply) × IsGroupedExplanationOf w.contents g r → IsTallied w (groups_asked explained g) None
groups-tallied w g true answers explains = record { reply = explains.0; replies = explains.1; measured = tt }
groups-tallied w g false answers explains = record { reply = answers.0; replies = answers.1; measured = tt }

module _ (w : World) (text : List ℕ) (tokens : List Token) (s : Selected) (read : IsReadOver w text tokens (asked_of text tokens s) (end_of tokens)) (unplanned : HasNoneOf w.contents s → IsFaultOver w text tokens (no_plan text tokens)) where
  module _ (old new : Traces) where
    -- the reply was written whole
    pub answered-over : (next : ℕ) → next ≡ end_of tokens → HasReplied (IsReply w (asked_of text tokens s)) old new → IsAnsweredOver w text tokens next old new
    answered-over next at replied = subst (λ n. IsAnsweredOver w text tokens n old new) (sym at) (asked_of text tokens s, read, still w text tokens s, replied)

    -- the reply was not written whole
    printing-stops : (e : Stop) → Leaves e (IsReply w (asked_of text tokens s)) old new → (e ≡ stop.NoPlan → HasNoneOf w.contents s) → StopsOver (end_of_stop e (no_plan text tokens)) w text tokens old new
    printing-stops stop.NoPlan same none = (unplanned (none refl), plain-field w.contents (no_plan text tokens) refl, same)
    printing-stops stop.Write begun none = (asked_of text tokens s, end_of tokens, read, begun)
    printing-stops stop.Memory (inl same) none = inl same
    printing-stops stop.Memory (inr begun) none = inr (asked_of text tokens s, end_of tokens, read, begun)

    pub printing-told : (e : Stop) (f : Fault) (end : End) → end ≡ end_of_stop e f → f ≡ no_plan text tokens → Leaves e (IsReply w (asked_of text tokens s)) old new → (e ≡ stop.NoPlan → HasNoneOf w.contents s) →
        StopsOver end w text tokens old new
    printing-told e f end ends at leaves none =
        subst (λ (x : End). StopsOver x w text tokens old new) (sym ends)
        (subst (λ (g : Fault). StopsOver (end_of_stop e g) w text tokens old new) (sym at) (printing-stops e leaves none))

  -- the query was measured
  pub measured-over : (m : Option Measured) → IsTallied w (asked_of text tokens s) m → IsTalliedOver w text tokens (end_of tokens) m
  measured-over m tallied = record { action = asked_of text tokens s; read = read; still = still w text tokens s; tallied = tallied }

  -- the reply was not written whole
  measuring-stops : (e : Stop) → (e ≡ stop.NoPlan → HasNoneOf w.contents s) → (e ≡ stop.Write → ⊥) → Refuses (end_of_stop e (no_plan text tokens)) w text tokens 0 0
  measuring-stops stop.NoPlan none wrote = (unplanned (none refl), plain-field w.contents (no_plan text tokens) refl, refl)
  measuring-stops stop.Write none wrote = absurd (wrote refl)
  measuring-stops stop.Memory none wrote = inl refl

  pub measuring-told : (e : Stop) (f : Fault) (end : End) → end ≡ end_of_stop e f → f ≡ no_plan text tokens → (e ≡ stop.NoPlan → HasNoneOf w.contents s) → (e ≡ stop.Write → ⊥) → Refuses end w text tokens 0 0
  measuring-told e f end ends at none wrote =
      subst (λ (x : End). Refuses x w text tokens 0 0) (sym ends)
      (subst (λ (g : Fault). Refuses (end_of_stop e g) w text tokens 0 0) (sym at) (measuring-stops e none wrote))

-- what it told of out's faults
abbrev pub ended : End → Result ℕ End
ended e = Err e

pub cause-by : (e : Stop) (word : Fault) (end : End) (before now : ℕ) → end ≡ end_of_stop e word → HasWriteCause {T = Unit {0}} stop.Write before now (Err e) → HasWriteCause {T = ℕ} ends.Write before now (Err end)
cause-by stop.NoPlan word end before now is cause = record {
  write = λ wrong. absurd (let bad : ended (end_of_stop stop.NoPlan word) ≡ ended ends.Write = ap ended (sym is) ∙ wrong in cc (bad));
  quiet = λ not. cause.quiet (λ wrong. absurd (cc (wrong)));
}
cause-by stop.Write word end before now is cause = record { write = λ so. cause.write refl; quiet = λ not. absurd (not (ap ended is)) }
cause-by stop.Memory word end before now is cause = record {
  write = λ wrong. absurd (let bad : ended (end_of_stop stop.Memory word) ≡ ended ends.Write = ap ended (sym is) ∙ wrong in cc (bad));
  quiet = λ not. cause.quiet (λ wrong. absurd (cc (wrong)));
}

-- what a `?` hands on
pub stops-by : (r : Result ℕ End) (e : End) (w : World) (text : List ℕ) (tokens : List Token) (old new : Traces) → StopsOver e w text tokens old new → IsErrAnd r (λ x. x ≡ e) → IfErr r (λ x. StopsOver x w text tokens old new)
stops-by (Ok n) e w text tokens old new stops is = tt
stops-by (Err x) e w text tokens old new stops is = subst (λ x. StopsOver x w text tokens old new) (sym is) stops
