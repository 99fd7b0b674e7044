use Rattle.pg_value.proofs.FieldLemmas.{answer-memory, answer-typed}
use Rattle.pg_value.proofs.fields.read_value.Goals as goal

pub returns-clause-typed : goal.returns-clause-typed
returns-clause-typed c = answer-typed c.args.t c.args.text.now c.word_value.result (c.word_value.ensures c.args.text.now c.word.ensures)

pub returns-clause-memory : goal.returns-clause-memory
returns-clause-memory c = answer-memory c.args.t c.args.text.now c.word_value.result (c.word_value.ensures c.args.text.now c.word.ensures)
