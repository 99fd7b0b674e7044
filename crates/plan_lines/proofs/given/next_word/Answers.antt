use Rattle.std.proofs.Common.{refl}
use Rattle.plan_lines.proofs.GivenLemmas.{word-taken}
use Rattle.plan_lines.proofs.given.next_word.Goals as goal

pub returns-then-eat : goal.returns-then-eat
returns-then-eat c = record { next = λ xs ws e. word-taken xs c.args.before.now c.args.at.now c.eat.new.self c.word.result.now c.word.new.self ws c.requires.some (c.if-eat.ensures.is refl) c.word.ensures.only e }
