use Rattle.std.proofs.Common.{◌∙◌, ap₂, sym, Bool, ℕ}
use Rattle.std.specs.Prelude.{Some}
use Rattle.certificate_entries.proofs.NumberLemmas.{sort-read}
use Rattle.pg_base.proofs.OptionLemmas.{none-some-too as none-some}
use Rattle.pg_base.proofs.OptionLemmas.{some-same}
use Rattle.certificate_entries.proofs.numbers.read_side.Goals as goal

pub returns-in_err-entry : goal.returns-in_err-entry
returns-in_err-entry c = record {
  only = record {
    only = λ s rest h stop e.
        let r = sort-read s c.eat-sort.result c.args.at.now c.eat-sort.new.self rest h c.eat-sort.ensures.took c.eat-sort.ensures.left c.eat-sort.ensures.is e in
        absurd (none-some c.read_entry_number.result s.entry c.in_err-entry.was (c.read_entry_number.ensures.only.only s.entry rest h stop r.1).0);
  };
}

pub returns : goal.returns
returns c = record {
  only = record {
    only = λ s rest h stop e.
        let r = sort-read s c.eat-sort.result c.args.at.now c.eat-sort.new.self rest h c.eat-sort.ensures.took c.eat-sort.ensures.left c.eat-sort.ensures.is e in
        let n = c.read_entry_number.ensures.only.only s.entry rest h stop r.1 in
        (ap₂ (λ (b : Bool) (m : ℕ). Some (record { sorted = b; entry = m })) r.0 (some-same c.in_ok-entry.entry s.entry (sym c.in_ok-entry.was ∙ n.0)), n.1);
  };
}
