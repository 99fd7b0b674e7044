use Rattle.std.proofs.Common.{subst}
use Rattle.std.proofs.lemmas.Result.{IfErr-weaker}
use Rattle.sql_query.specs.Worlds.{World, world}
use Rattle.statements.specs.work.Steps.{IsDefined, Refuses}
use Rattle.statements.proofs.SteppingLemmas.{defined-behind, same-world}
use Rattle.statements.proofs.TallyLemmas.{tallied-ahead, tallied-definition, tallied-inside, tally-refused}
use Rattle.pgplan.proofs.machine.Machine.tally.Goals as goal

pub returns-in-Ok-None-clause-stopped : goal.returns-in-Ok-None-clause-stopped
returns-in-Ok-None-clause-stopped g c =
    let still = c.in-Ok-None.ensures.still c.in-Ok-None.field-0-is in
    let here = same-world _ _ _ _ c.args.self.now still.0 still.1 c.self.view_is in
    let text = c.args.text.now in
    let words = c.in_ok-words.words in
    IfErr-weaker c.tally_reply.result _ _
    (λ e h. tally-refused e c.args.self.now text c.args.at words 0 0 c.in_ok-words.ensures.words (subst (λ (w : World). Refuses e w text words 0 0) here h)) c.tally_reply.ensures.refused

pub returns-in-Ok-None-clause-ahead : goal.returns-in-Ok-None-clause-ahead
returns-in-Ok-None-clause-ahead g c = tallied-ahead _ c.args.text.now c.args.at c.in_ok-words.words c.tally_reply.result c.in_ok-words.ensures.words c.tally_reply.ensures.tallied

pub returns-in-Ok-None-clause-inside : goal.returns-in-Ok-None-clause-inside
returns-in-Ok-None-clause-inside g c = tallied-inside _ c.args.text.now c.args.at c.in_ok-words.words c.tally_reply.result c.in_ok-words.ensures.words c.tally_reply.ensures.tallied

pub returns-in-Ok-Some-clause-done : goal.returns-in-Ok-Some-clause-done
returns-in-Ok-Some-clause-done g c =
    let after = world c.carry_out.new.catalog c.carry_out.new.store.stored in
    let text = c.args.text.now in
    let words = c.in_ok-words.words in
    tallied-definition c.args.self.now after text c.args.at c.in-Ok-Some.next words c.args.reads.now c.carry_out.new.reads c.in_ok-words.ensures.words
    (subst (λ (w : World). IsDefined w after text words c.in-Ok-Some.next c.args.reads.now c.carry_out.new.reads) c.self.view_is (rw c.in-Ok-Some.field-0-is at c.in-Ok-Some.ensures.carried))

pub returns-in-Ok-Some-clause-ahead : goal.returns-in-Ok-Some-clause-ahead
returns-in-Ok-Some-clause-ahead g c =
    (defined-behind _ _ c.args.text.now c.args.at c.in-Ok-Some.next c.in_ok-words.words _ _ c.in_ok-words.ensures.words (rw c.in-Ok-Some.field-0-is at c.in-Ok-Some.ensures.carried)).ahead

pub returns-in-Ok-Some-clause-inside : goal.returns-in-Ok-Some-clause-inside
returns-in-Ok-Some-clause-inside g c =
    (defined-behind _ _ c.args.text.now c.args.at c.in-Ok-Some.next c.in_ok-words.words _ _ c.in_ok-words.ensures.words (rw c.in-Ok-Some.field-0-is at c.in-Ok-Some.ensures.carried)).inside

pub returns-clause-stopped : goal.returns-clause-stopped
returns-clause-stopped g c =
    tally-refused c.in-Err.end c.args.self.now c.args.text.now c.args.at c.in_ok-words.words c.args.reads.now c.carry_out.new.reads c.in_ok-words.ensures.words
    (subst (λ (w : World). Refuses c.in-Err.end w c.args.text.now c.in_ok-words.words c.args.reads.now c.carry_out.new.reads) c.self.view_is c.in-Err.ensures.refused)
