use Rattle.std.proofs.Common.{ℕ, List, [], subst, sym}
use Rattle.std.specs.Io.KnownBytes.{Appends}
use Rattle.pg_base.specs.Writing.{AppendsPrefix}
use Rattle.sql_lex.specs.Ends.{end_of}
use Rattle.sql_query.specs.Worlds.{world}
use Rattle.group_reply.specs.reply_Replies.{traces}
use Rattle.statements.specs.work.Steps.{IsAnsweredOver}
use Rattle.statements.proofs.TellingLemmas.{never-write, no-cause-told, refused-stops, telling-begun, telling-written}
use Rattle.statements.proofs.AnsweringLemmas.{stops-by}
use Rattle.statements.proofs.advising.advise.Goals as goal

pub returns-in_err-lines-clause-stopped : goal.returns-in_err-lines-clause-stopped
returns-in_err-lines-clause-stopped g c = λ stored f l.
    let w = world c.args.catalog.now stored in
    let text = c.args.text.now in
    let tokens = c.args.tokens.now in
    let held = g.K.Sink.held c.args.out.now in
    stops-by c.from_residual.result c.in_err-lines.field-0.0 w text tokens (traces held f l) (traces held f l)
    (refused-stops w text tokens c.in_err-lines.field-0.0 held f l (c.in_err-lines.ensures.refused stored))
    c.from_residual.ensures.1

pub returns-in_err-lines-clause-cause : goal.returns-in_err-lines-clause-cause
returns-in_err-lines-clause-cause g c =
    no-cause-told c.from_residual.result c.in_err-lines.field-0.0 (g.K.Sink.faults c.args.out.now)
    (never-write (world c.args.catalog.now []) c.args.text.now c.args.tokens.now c.in_err-lines.field-0.0 (c.in_err-lines.ensures.refused []))
    c.from_residual.ensures.1

pub returns-in-Ok-clause-answered : goal.returns-in-Ok-clause-answered
returns-in-Ok-clause-answered g c = λ stored f l.
    let held = g.K.Sink.held c.args.out.now in
    let held' = g.K.Sink.held c.write_all.new.sink in
    let w = world c.args.catalog.now stored in
    let text = c.args.text.now in
    let tokens = c.args.tokens.now in
    subst (λ (n : ℕ). IsAnsweredOver w text tokens n (traces held f l) (traces held' f l)) (sym c.end.ensures)
    (telling-written w text tokens (end_of tokens) c.in_ok-lines.lines.items (c.in_ok-lines.ensures.advised stored) held held' f l
    (subst (λ (bytes : List ℕ). Appends held held' bytes) c.deref.ensures.value c.in-Ok.ensures.ok))

pub returns-clause-stopped : goal.returns-clause-stopped
returns-clause-stopped g c = λ stored f l.
    let held = g.K.Sink.held c.args.out.now in
    let held' = g.K.Sink.held c.write_all.new.sink in
    telling-begun (world c.args.catalog.now stored) c.args.text.now c.args.tokens.now (end_of c.args.tokens.now) c.in_ok-lines.lines.items (c.in_ok-lines.ensures.advised stored) held held' f l
    (subst (λ (bytes : List ℕ). AppendsPrefix held held' bytes) c.deref.ensures.value c.in-Err.ensures.err)
