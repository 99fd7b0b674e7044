-- A step of the machine, from what its parts did.
use Rattle.std.proofs.Common.{◌≡◌, ℕ, ◌^◌, ◌<◌, ◌≤◌, inl, inr, Bool, true, false, List, [], ◌∷◌, length, refl, sym, ap, ap₂, ◌∙◌, arith, Option, None, Result, Ok, Err, IfOk}
use Rattle.std.proofs.lemmas.List.Elements.{All-cons, All-nil}
use Rattle.sql_lex.specs.declared.tokens.Token.{Token}
use Rattle.sql_lex.specs.Words.{AreWords}
use Rattle.sql_grammar.specs.Terminals.{Terminal, t_key, t_mark, t_name, t_number, t_quoted, t_operator, t_semicolon, t_end}
use Rattle.sql_grammar.specs.work.Terminals.{class_of}
use Rattle.sql_grammar.specs.work.Table.{is_ending}
use Rattle.sql_grammar.specs.Reading.{terminal_of}
use Rattle.sql_grammar.specs.work.Reading.{ends_once, is_end}
use Rattle.sql_grammar.specs.Syntax.{empty, semicolon, text_end}
use Rattle.sql_grammar.specs.Faults.{limit_of}
use Rattle.sql_grammar.proofs.StatementWords.{words-are-tokens}
use Rattle.group_reply.specs.reply_Effort.{HasRisen, exactly}
use Rattle.group_reply.specs.reply_Replies.{Traces, traces as traces_of}
use Rattle.catalog.specs.Contents.{Contents}
use Rattle.sql_query.specs.Worlds.{World, world}
use Rattle.store.specs.work.Kept.{Kept}
use Rattle.statements.specs.declared.end.End.{End}
use Rattle.statements.specs.declared.end.End.TheVariants as ends
use Rattle.store.specs.Actions.{idle}
use Rattle.sql_lex.specs.Ends.{end_of}
use Rattle.statements.specs.Accepted.{IsReadOver}
use Rattle.statements.proofs.PlaceLemmas.{EndsBehind, read-behind}
use Rattle.statements.specs.Faults.{after_words}
use Rattle.statements.specs.Replies.{silent}
use Rattle.pg_base.proofs.OptionLemmas.{appends-none}
use Rattle.statements.specs.Steps.{Advances, IsBegun, Stops}
use Rattle.statements.specs.work.Steps.{IsDefined, Refuses, IsAnsweredOver, IsBegunOver, StopsOver}

-- what is kept that was not changed
pub same-world : (c c' : Contents) (k k' : Kept) (w : World) → c' ≡ c → k' ≡ k → world c k.stored ≡ w → world c' k'.stored ≡ w
same-world c c' k k' w contents kept is = ap₂ (λ (x : Contents) (y : Kept). world x y.stored) contents kept ∙ is

-- an end alone is the empty statement
alone : (w : World) (text : List ℕ) (t : Token) (terminal : Terminal) → terminal_of text t ≡ terminal → is_ending (class_of terminal) ≡ true → IsReadOver w text (t ∷ []) idle (end_of (t ∷ []))
alone w text t (t_semicolon u) e is = record {
  statement = empty (semicolon u);
  spelled = record { words = ap (λ (x : Terminal). x ∷ []) (sym e); limits = All-cons (λ x. limit_of x ≡ None) (terminal_of text t) [] (ap limit_of e) (All-nil (λ x. limit_of x ≡ None)); levels = omega arith };
  does = (refl, refl);
}
alone w text t (t_end u) e is = record {
  statement = empty (text_end u);
  spelled = record { words = ap (λ (x : Terminal). x ∷ []) (sym e); limits = All-cons (λ x. limit_of x ≡ None) (terminal_of text t) [] (ap limit_of e) (All-nil (λ x. limit_of x ≡ None)); levels = omega arith };
  does = (refl, refl);
}
alone w text t (t_key k u) e is = cc
alone w text t (t_mark m u) e is = cc
alone w text t (t_name n) e is = cc
alone w text t (t_number n) e is = cc
alone w text t (t_quoted q) e is = cc
alone w text t (t_operator o) e is = cc

ends-alone : (text : List ℕ) (t : Token) (b : Bool) → is_end text t ≡ b → ends_once text (t ∷ []) ≡ true → is_end text t ≡ true
ends-alone text t true e once = e
ends-alone text t false e once = cc

-- one token is the empty statement
pub one-token-idle : (w : World) (text : List ℕ) (from : ℕ) (tokens : List Token) → length text ≤ 2 ^ 31 → AreWords text from tokens → length tokens ≡ 1 → IsReadOver w text tokens idle (end_of tokens)
one-token-idle w text from [] short words one = absurd words
one-token-idle w text from (t ∷ []) short words one =
    alone w text t (terminal_of text t) refl (ends-alone text t (is_end text t) refl (words-are-tokens text from (t ∷ []) words short).last)
one-token-idle w text from (t ∷ u ∷ ts) short words one = absurd (omega (arith, one))

pub idle-defined : (w : World) (text : List ℕ) (at : ℕ) (tokens : List Token) (looked : ℕ) → length text ≤ 2 ^ 31 → AreWords text at tokens → length tokens ≡ 1 → IsDefined w w text tokens (end_of tokens) looked looked
idle-defined w text at tokens looked short words one = (idle, record { read = one-token-idle w text at tokens short words one; looks = 0; reply = refl; within = omega arith }, refl)

-- nothing is fetched
none-fetched : (n : ℕ) → HasRisen (exactly 0) n n
none-fetched n = record { above = omega arith; within = omega arith; exact = omega arith }

-- a definition was carried out
pub done-quietly : (w w' : World) (text : List ℕ) (at next : ℕ) (tokens : List Token) (held : Option (List ℕ)) (fetched looked looked' : ℕ) → AreWords text at tokens → IsDefined w w' text tokens next looked looked' →
    Advances w w' text at next (traces_of held fetched looked) (traces_of held fetched looked')
done-quietly w w' text at next tokens held fetched looked looked' words (action, is, after) = record {
  action = action;
  read = (tokens, words, is.read);
  world = after;
  replied = record { reply = silent is.looks; answers = is.reply; gained = appends-none held; fetched = none-fetched fetched; looked = is.within };
}

-- a query was answered
pub done-query : (w : World) (text : List ℕ) (at next : ℕ) (tokens : List Token) (old new : Traces) → AreWords text at tokens → IsAnsweredOver w text tokens next old new → Advances w w text at next old new
done-query w text at next tokens old new words (action, read, same, replied) = record { action = action; read = (tokens, words, read); world = same; replied = replied }

begun : (w : World) (text : List ℕ) (at : ℕ) (tokens : List Token) (old new : Traces) → AreWords text at tokens → IsBegunOver w text tokens old new → IsBegun w text at old new
begun w text at tokens old new words (action, next, read, some) = record { action = action; next = next; read = (tokens, words, read); begun = some }

-- a query was not answered whole
pub stopped-query : (e : End) (w : World) (text : List ℕ) (at : ℕ) (tokens : List Token) (old new : Traces) → AreWords text at tokens → StopsOver e w text tokens old new → Stops e w text at old new
stopped-query (ends.Fault fault) w text at tokens old new words (is, field, same) = (after_words tokens words is, field, same)
stopped-query ends.Write w text at tokens old new words is = begun w text at tokens old new words is
stopped-query ends.Memory w text at tokens old new words (inl same) = inl same
stopped-query ends.Memory w text at tokens old new words (inr is) = inr (begun w text at tokens old new words is)

-- a definition was refused
pub stopped-definition : (e : End) (w : World) (text : List ℕ) (at : ℕ) (tokens : List Token) (held : Option (List ℕ)) (fetched looked looked' : ℕ) → AreWords text at tokens → Refuses e w text tokens looked looked' →
    Stops e w text at (traces_of held fetched looked) (traces_of held fetched looked')
stopped-definition (ends.Fault fault) w text at tokens held fetched looked looked' words (is, field, same) = (after_words tokens words is, field, ap (traces_of held fetched) same)
stopped-definition ends.Write w text at tokens held fetched looked looked' words is = absurd is
stopped-definition ends.Memory w text at tokens held fetched looked looked' words (inl same) = inl (ap (traces_of held fetched) same)
stopped-definition ends.Memory w text at tokens held fetched looked looked' words (inr (action, next, is)) = inr (record {
  action = action;
  next = next;
  read = (tokens, words, is.read);
  begun = record { reply = silent is.looks; answers = is.reply; gained = (0, omega arith, appends-none held); fetched = omega arith; looked = is.within };
})

-- where the statement after a definition begins
pub defined-behind : (w w' : World) (text : List ℕ) (at next : ℕ) (tokens : List Token) (looked looked' : ℕ) → AreWords text at tokens → IsDefined w w' text tokens next looked looked' → EndsBehind text at next
defined-behind w w' text at next tokens looked looked' words (action, is, after) = read-behind w text at tokens action next words is.read

-- where the statement after a query begins
pub answered-ahead : (w : World) (text : List ℕ) (at : ℕ) (tokens : List Token) (old new : Traces) (r : Result ℕ End) → AreWords text at tokens → IfOk r (λ next. IsAnsweredOver w text tokens next old new) → IfOk r (λ next. at < length text → at < next)
answered-ahead w text at tokens old new (Ok next) words (action, read, same, replied) = (read-behind w text at tokens action next words read).ahead
answered-ahead w text at tokens old new (Err e) words is = tt

pub answered-inside : (w : World) (text : List ℕ) (at : ℕ) (tokens : List Token) (old new : Traces) (r : Result ℕ End) → AreWords text at tokens → IfOk r (λ next. IsAnsweredOver w text tokens next old new) → IfOk r (λ next. next ≤ length text)
answered-inside w text at tokens old new (Ok next) words (action, read, same, replied) = (read-behind w text at tokens action next words read).inside
answered-inside w text at tokens old new (Err e) words is = tt
