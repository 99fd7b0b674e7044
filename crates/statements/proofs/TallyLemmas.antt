-- A statement that is worked with nothing printed.
use Rattle.std.proofs.Common.{◌≡◌, ◌<◌, ◌≤◌, ◌+◌, ◌==◌, ℕ, Bool, true, false, List, [], ◌++◌, length, codes, if◌then◌else◌, ap, ◌∙◌, arith, Option, None, Result, Ok, Err, IfOk}
use Rattle.std.specs.Fmt.{decimal}
use Rattle.std.proofs.lemmas.List.{length-append}
use Rattle.reply_text.specs.Texts.{count_line}
use Rattle.sql_lex.specs.declared.tokens.Token.{Token}
use Rattle.sql_lex.specs.Words.{AreWords}
use Rattle.store.specs.Actions.{Action, idle, make, build, size, describe, fill, gather, answer, explain, certify, advise, verify, follow, answer_groups, explain_groups}
use Rattle.group_reply.specs.explain_Texts.{explained_text}
use Rattle.group_reply.specs.reply_Answers.{tuples_of, tuples_text}
use Rattle.sql_query.specs.Meaning.{windowed}
use Rattle.group_reply.specs.reply_measuring_Measured.{Measured}
use Rattle.sql_query.specs.Worlds.{World}
use Rattle.statements.specs.declared.end.End.{End}
use Rattle.statements.specs.declared.end.End.TheVariants as ends
use Rattle.statements.specs.declared.replying.Tallied.{Tallied}
use Rattle.statements.specs.Askings.{asked_in}
use Rattle.statements.specs.work.Askings.{IsMeasuredOf}
use Rattle.statements.specs.Faults.{after_words}
use Rattle.statements.specs.Replies.{IsReply, silent}
use Rattle.statements.specs.work.Steps.{IsDefined, IsTalliedOver, Refuses, StopsTally, Tallies}
use Rattle.statements.proofs.PlaceLemmas.{read-behind}

-- an answer ends with a line
line-some : (b : Bool) (n : ℕ) → 0 < length (if b then codes "(1 row)\n" else codes "(" ++ (decimal n ++ codes " rows)\n"))
line-some true n = omega arith
line-some false n = omega arith

answer-some : (a b : List ℕ) (n : ℕ) → [] ≡ a ++ (b ++ count_line n) → ⊥
answer-some a b n none =
    let long : 0 ≡ length a + length (b ++ count_line n) = ap length none ∙ length-append a (b ++ count_line n) in
    let some : 0 < length (count_line n) = line-some (n == 1) n in
    omega (arith, long, length-append b (count_line n), some)

-- what prints nothing asks no query
unasked : (w : World) (action : Action) (looks : ℕ) → IsReply w action (silent looks) → IsMeasuredOf (asked_in w action) None
unasked w idle looks is = tt
unasked w (make name names columns) looks is = tt
unasked w (build name x) looks is = tt
unasked w (size t rows pages) looks is = tt
unasked w (describe t column s) looks is = tt
unasked w (fill t s) looks is = tt
unasked w (gather t) looks is = tt
unasked w (answer q) looks is =
    let shown = windowed q.window (tuples_of w q is.plan) in
    answer-some (explained_text w.contents q is.plan) (tuples_text w q shown) (length shown) is.answer.printed
unasked w (explain q) looks is = tt
unasked w (certify q) looks is = tt
unasked w (advise most candidates queries) looks is = tt
unasked w (verify q block) looks is = tt
unasked w (follow q block) looks is = tt
unasked w (answer_groups g) looks is = tt
unasked w (explain_groups g) looks is = tt

-- a definition was carried out
pub tallied-definition : (w w' : World) (text : List ℕ) (at next : ℕ) (tokens : List Token) (looked looked' : ℕ) → AreWords text at tokens → IsDefined w w' text tokens next looked looked' → Tallies w w' text at next None
tallied-definition w w' text at next tokens looked looked' words (action, is, after) = record {
  action = action;
  read = (tokens, words, is.read);
  world = after;
  tallied = record { reply = silent is.looks; replies = is.reply; measured = unasked w action is.looks is.reply };
}

-- a query was measured
pub tallied-query : (w : World) (text : List ℕ) (at next : ℕ) (tokens : List Token) (m : Option Measured) → AreWords text at tokens → IsTalliedOver w text tokens next m → Tallies w w text at next m
tallied-query w text at next tokens m words is = record { action = is.action; read = (tokens, words, is.read); world = is.still; tallied = is.tallied }

-- a statement was refused
pub tally-refused : (e : End) (w : World) (text : List ℕ) (at : ℕ) (tokens : List Token) (looked looked' : ℕ) → AreWords text at tokens → Refuses e w text tokens looked looked' → StopsTally e w text at
tally-refused (ends.Fault f) w text at tokens looked looked' words (is, field, same) = (after_words tokens words is, field)
tally-refused ends.Write w text at tokens looked looked' words is = is
tally-refused ends.Memory w text at tokens looked looked' words is = tt

-- where the next statement begins
pub tallied-ahead : (w : World) (text : List ℕ) (at : ℕ) (tokens : List Token) (r : Result Tallied End) → AreWords text at tokens → IfOk r (λ t. IsTalliedOver w text tokens t.next t.measured) → IfOk r (λ t. at < length text → at < t.next)
tallied-ahead w text at tokens (Ok t) words is = (read-behind w text at tokens is.action t.next words is.read).ahead
tallied-ahead w text at tokens (Err e) words is = tt

pub tallied-inside : (w : World) (text : List ℕ) (at : ℕ) (tokens : List Token) (r : Result Tallied End) → AreWords text at tokens → IfOk r (λ t. IsTalliedOver w text tokens t.next t.measured) → IfOk r (λ t. t.next ≤ length text)
tallied-inside w text at tokens (Ok t) words is = (read-behind w text at tokens is.action t.next words is.read).inside
tallied-inside w text at tokens (Err e) words is = tt
