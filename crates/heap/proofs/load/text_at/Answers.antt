use Rattle.std.proofs.Common.{[], sym, ◌∙◌}
use Rattle.std.proofs.lemmas.Option.{slice_get-get_or}
use Rattle.csv.specs.Records.{fields_of}
use Rattle.heap.proofs.Rows.{field_there}
use Rattle.heap.proofs.load.text_at.Goals as goal

pub unreachable-requires : goal.unreachable-requires
unreachable-requires c =
    let there = slice_get-get_or (fields_of c.args.fields.now) c.args.col [] c.requires in
    let none = c.in_default.ensures.value ∙ field_there (fields_of c.args.fields.now) c.args.col in
    cc

pub returns : goal.returns
returns c = sym (c.in-Some.ensures.value ∙ field_there (fields_of c.args.fields.now) c.args.col)
