use Rattle.pg_value.proofs.FieldLemmas.{timestamp-word, timestamptz-word}
use Rattle.pg_value.proofs.fields.word_value.Goals as goal

pub returns-in-Timestamp : goal.returns-in-Timestamp
returns-in-Timestamp c = λ text is. timestamp-word c.args.t text c.args.word.now c.read_timestamp.result c.counted_value-in-Timestamp.result c.in-Timestamp.is c.read_timestamp.ensures c.counted_value-in-Timestamp.ensures is

pub returns-in-TimestampTz : goal.returns-in-TimestampTz
returns-in-TimestampTz c = λ text is. timestamptz-word c.args.t text c.args.word.now c.read_timestamptz.result c.counted_value-in-TimestampTz.result c.in-TimestampTz.is c.read_timestamptz.ensures c.counted_value-in-TimestampTz.ensures is
