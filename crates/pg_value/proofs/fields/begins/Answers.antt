use Rattle.pg_value.proofs.Words.{start_is}
use Rattle.pg_value.proofs.fields.begins.Goals as goal

pub returns-then-word-full : goal.returns-then-word-full
returns-then-word-full c = start_is c.args.least c.args.full.now c.args.word.now _ c.if-word-full.true.0 c.if-word-full.true.1 c.requires c.eq_ignore_ascii_case.ensures.test
