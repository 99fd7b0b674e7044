use Rattle.std.proofs.Common.{refl}
use Rattle.std.proofs.lemmas.Str.Ascii.{trim_ascii_is}
use Rattle.pg_value.specs.Fields.{word_of}
use Rattle.pg_value.proofs.fields.word.Goals as goal

pub returns : goal.returns
unfolding word_of
returns c = trim_ascii_is _ _ _ refl c.trim_ascii.ensures.value
