use Rattle.std.proofs.Common.{refl}
use Rattle.pg_base.specs.Sets.{has}
use Rattle.certificate_reader.proofs.KeyListLemmas.{empty-read}
use Rattle.certificate_reader.proofs.measures.read_listed.Goals as goal

pub returns-then-eat-clause-only : goal.returns-then-eat-clause-only
returns-then-eat-clause-only c =
    empty-read c.args.cat.now c.args.q.now (has c.args.set.0) c.requires.bound c.lawful.ensures c.in_ok-keys.keys c.args.at.now c.eat.new.self c.in_ok-keys.ensures.list (c.if-eat.ensures.is refl)
