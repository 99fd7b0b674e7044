use Rattle.std.proofs.Common.{◌∙◌, ap, sym}
use Rattle.pg_value.specs.Fields.{field_value, word_of}
use Rattle.pg_value.proofs.FieldLemmas.{answer-typed}
use Rattle.pg_value.proofs.fields.owned_value.Goals as goal

pub returns-in-Uuid-clause-typed : goal.returns-in-Uuid-clause-typed
returns-in-Uuid-clause-typed c = answer-typed c.args.t c.args.text c.uuid_value.result (c.uuid_value.ensures ∙ sym (ap (λ t. field_value t c.args.text) c.in-Uuid.is))

pub returns-in_default : goal.returns-in_default
returns-in_default c =
    let value = c.word_value.ensures c.args.text (c.word.ensures ∙ ap word_of c.items.ensures) in
    record { value = value; typed = answer-typed c.args.t c.args.text c.word_value.result value }
