-- ADVISE: its reply, or why it is refused.
use Rattle.std.proofs.Common.{◌≡◌, ℕ, List, inl, inr, refl, sym, ap, subst, Ok}
use Rattle.pg_base.specs.declared.faults.Fault.{Fault}
use Rattle.pg_base.specs.declared.faults.Refusal.{Refusal}
use Rattle.pg_base.specs.declared.faults.Refusal.TheVariants as refusal
use Rattle.catalog.specs.Contents.{NamedIndex}
use Rattle.sql_lex.specs.declared.tokens.Token.{Token}
use Rattle.sql_lex.specs.Ends.{end_of}
use Rattle.sql_grammar.specs.Syntax.{advise as advise_tree}
use Rattle.index_prices.specs.Replies.{HasNoAdviceFor, IsReplyTo}
use Rattle.index_reader.specs.AdviseMeaning.{Asked}
use Rattle.index_reader.specs.work.AdviseStatements.{IsAdviseMeaning, IsAdviseRefusal}
use Rattle.sql_query.specs.Queries.{Query}
use Rattle.sql_query.specs.Worlds.{World}
use Rattle.store.specs.Actions.{advise}
use Rattle.statements.specs.declared.end.End.TheVariants as ends
use Rattle.statements.specs.Accepted.{HaveClasses}
use Rattle.statements.specs.work.Ending.{end_of_refusal}
use Rattle.statements.specs.Faults.{in_meaning, in_syntax, no_advice}
use Rattle.statements.specs.work.Steps.{IsTelling, Refuses}
use Rattle.statements.proofs.PlainLemmas.{plain-field}
use Rattle.statements.proofs.PlainAdviceLemmas.{advice-fault-plain}

module _ (w : World) (text : List ℕ) (tokens : List Token) where
  -- what the reader refuses
  pub reading-refused : (r : Refusal) → IsAdviseRefusal w.contents text tokens r → Refuses (end_of_refusal r) w text tokens 0 0
  reading-refused (refusal.Fault f) (inl first) = (in_syntax first, plain-field w.contents f (ap (λ (g : Fault). g.rec) first.place), refl)
  reading-refused (refusal.Fault f) (inr m) = (in_meaning (advise_tree m.statement) m.spelled (inl m.means), plain-field w.contents f (advice-fault-plain w.contents tokens m.statement f m.means), refl)
  reading-refused refusal.Memory h = inl refl

  module _ (a : Asked) (m : IsAdviseMeaning w.contents text tokens (Ok a)) (classes : HaveClasses w.contents a.queries) where
    -- an advice is its reply
    pub advised : (lines : List ℕ) → IsReplyTo w.contents a.candidates a.queries a.most lines → IsTelling w text tokens (end_of tokens) lines
    advised lines is = record {
      action = advise a.most a.candidates a.queries;
      read = record { statement = advise_tree m.statement; spelled = m.spelled; does = ((a, m.means, classes, refl), refl) };
      still = refl;
      quiet = refl;
      reply = (is, refl, refl);
    }

    -- that there is no advice is the fault of ADVISE
    pub unadvised : HasNoAdviceFor w.contents a.candidates a.queries a.most → Refuses (ends.Fault (no_advice tokens)) w text tokens 0 0
    unadvised none = (in_meaning (advise_tree m.statement) m.spelled (inr (a, m.means, (classes, none, refl))), plain-field w.contents (no_advice tokens) refl, refl)

    -- what was found, for what the reader gave
    pub found-advised : (candidates : List NamedIndex) (queries : List Query) (lines : List ℕ) → candidates ≡ a.candidates → queries ≡ a.queries → IsReplyTo w.contents candidates queries a.most lines → IsTelling w text tokens (end_of tokens) lines
    found-advised candidates queries lines cs qs is =
        advised lines (subst (λ (xs : List NamedIndex). IsReplyTo w.contents xs a.queries a.most lines) cs (subst (λ (xs : List Query). IsReplyTo w.contents candidates xs a.most lines) qs is))

    pub none-advised : (candidates : List NamedIndex) (queries : List Query) (f : Fault) → candidates ≡ a.candidates → queries ≡ a.queries → f ≡ no_advice tokens → HasNoAdviceFor w.contents candidates queries a.most → Refuses (ends.Fault f) w text tokens 0 0
    none-advised candidates queries f cs qs same none =
        subst (λ (g : Fault). Refuses (ends.Fault g) w text tokens 0 0) (sym same)
        (unadvised (subst (λ (xs : List NamedIndex). HasNoAdviceFor w.contents xs a.queries a.most) cs (subst (λ (xs : List Query). HasNoAdviceFor w.contents candidates xs a.most) qs none)))
