use Rattle.std.proofs.Common.{◌≡◌, ◌∙◌, ap, arith, length, sym}
use Rattle.sql_query.specs.Worlds.{world}
use Rattle.statements.proofs.SteppingLemmas.{idle-defined}
use Rattle.statements.proofs.carry.carry_out.Goals as goal

pub returns-then-items-eq1-clause-carried : goal.returns-then-items-eq1-clause-carried
returns-then-items-eq1-clause-carried g c =
    let one : length c.args.tokens.now ≡ 1 = sym (ap length c.items.ensures) ∙ c.if-items-eq1.true in
    rw c.end.ensures
    (idle-defined (world c.args.catalog.now c.args.store.now.stored) c.args.text.now c.requires.words.0 c.args.tokens.now c.args.reads.now (omega (arith, c.requires.short)) c.requires.words.1 one)
