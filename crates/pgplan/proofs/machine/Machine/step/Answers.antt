use Rattle.std.proofs.Common.{ap, subst}
use Rattle.std.proofs.lemmas.Result.{IfErr-weaker}
use Rattle.statements.specs.reply_Replies.{traces}
use Rattle.sql_query.specs.Worlds.{World}
use Rattle.statements.specs.work.Steps.{Refuses, StopsOver}
use Rattle.statements.proofs.SteppingLemmas.{answered-ahead, answered-inside, defined-behind, same-world, stopped-definition, stopped-query}
use Rattle.pgplan.proofs.machine.Machine.step.Goals as goal

pub returns-in-Ok-None-clause-stopped : goal.returns-in-Ok-None-clause-stopped
returns-in-Ok-None-clause-stopped g c =
    let still = c.in-Ok-None.ensures.still c.in-Ok-None.field-0-is in
    let here = same-world _ _ _ _ c.args.self.now still.0 still.1 c.self.view_is in
    let held = g.K.Sink.held c.args.out.now in
    let old = traces held c.args.fetches.now c.args.reads.now in
    let new = traces (g.K.Sink.held c.reply_to.new.out) c.reply_to.new.fetches c.reply_to.new.reads in
    let text = c.args.text.now in
    let tokens = c.in_ok-tokens.tokens in
    IfErr-weaker c.reply_to.result _ _
    (λ e h. stopped-query e c.args.self.now text c.args.at tokens old new c.in_ok-tokens.ensures.words
    (subst (λ t. StopsOver e c.args.self.now text tokens t new) (ap (traces held c.args.fetches.now) still.2)
    (subst (λ (w : World). StopsOver e w text tokens (traces held c.args.fetches.now c.carry_out.new.reads) new) here h)))
    c.reply_to.ensures.stopped

pub returns-in-Ok-None-clause-ahead : goal.returns-in-Ok-None-clause-ahead
returns-in-Ok-None-clause-ahead g c = answered-ahead _ c.args.text.now c.args.at c.in_ok-tokens.tokens _ _ c.reply_to.result c.in_ok-tokens.ensures.words c.reply_to.ensures.answered

pub returns-in-Ok-None-clause-inside : goal.returns-in-Ok-None-clause-inside
returns-in-Ok-None-clause-inside g c = answered-inside _ c.args.text.now c.args.at c.in_ok-tokens.tokens _ _ c.reply_to.result c.in_ok-tokens.ensures.words c.reply_to.ensures.answered

pub returns-in-Ok-Some-clause-ahead : goal.returns-in-Ok-Some-clause-ahead
returns-in-Ok-Some-clause-ahead g c =
    (defined-behind _ _ c.args.text.now c.args.at c.in-Ok-Some.next c.in_ok-tokens.tokens _ _ c.in_ok-tokens.ensures.words (rw c.in-Ok-Some.field-0-is at c.in-Ok-Some.ensures.carried)).ahead

pub returns-in-Ok-Some-clause-inside : goal.returns-in-Ok-Some-clause-inside
returns-in-Ok-Some-clause-inside g c =
    (defined-behind _ _ c.args.text.now c.args.at c.in-Ok-Some.next c.in_ok-tokens.tokens _ _ c.in_ok-tokens.ensures.words (rw c.in-Ok-Some.field-0-is at c.in-Ok-Some.ensures.carried)).inside

pub returns-clause-stopped : goal.returns-clause-stopped
returns-clause-stopped g c =
    stopped-definition c.in-Err.end c.args.self.now c.args.text.now c.args.at c.in_ok-tokens.tokens _ _ _ _ c.in_ok-tokens.ensures.words
    (subst (λ (w : World). Refuses c.in-Err.end w c.args.text.now c.in_ok-tokens.tokens c.args.reads.now c.carry_out.new.reads) c.self.view_is c.in-Err.ensures.refused)
