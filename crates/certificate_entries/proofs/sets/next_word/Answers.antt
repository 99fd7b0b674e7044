use Rattle.std.proofs.Common.{refl}
use Rattle.certificate_entries.proofs.SetLemmas.{comma-taken}
use Rattle.certificate_entries.proofs.sets.next_word.Goals as goal

pub returns-then-eat : goal.returns-then-eat
returns-then-eat c = record { next = λ xs tail ws h other e. comma-taken xs tail c.args.at.now c.eat.new.self c.word.result.now c.word.new.self ws h other (c.if-eat.ensures.is refl) c.word.ensures.only e }
