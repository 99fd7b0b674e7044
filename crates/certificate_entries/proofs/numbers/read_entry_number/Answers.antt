use Rattle.std.proofs.Common.{◌∙◌, ap, arith}
use Rattle.certificate_entries.specs.work.Parts.{as_entry}
use Rattle.certificate_entries.proofs.NumberLemmas.{entry-is}
use Rattle.certificate_entries.proofs.numbers.read_entry_number.Goals as goal

pub returns : goal.returns
returns c = record {
  only = record {
    only = λ n rest h s e.
        let r = c.number.ensures.only n rest (omega (arith, h)) e s in
        (c.as_entry.ensures ∙ ap as_entry r.0 ∙ entry-is n h, r.1);
  };
}
