use Rattle.ddl_reader.proofs.AnswerLemmas.{none-of}
use Rattle.ddl_reader.proofs.words.quoted.Goals as goal

pub unreachable-requires : goal.unreachable-requires
unreachable-requires c =
    let (q, rest, is) = c.requires in
    (none-of _ _ _ c.in_ok-found.field-0 c.in_default.not-Some c.in_ok-found.ensures).1 q.value q.token rest is
