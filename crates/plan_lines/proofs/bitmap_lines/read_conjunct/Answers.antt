use Rattle.std.proofs.Common.{◌∙◌, [], ℕ, ap, refl, sym}
use Rattle.std.specs.Prelude.{Some, slice_get}
use Rattle.std.proofs.lemmas.List.{append-nil}
use Rattle.std.proofs.lemmas.Option.{same_Some}
use Rattle.std.specs.Fmt.{decimal}
use Rattle.certificate_entries.specs.explain_Texts.{conjunct_by, number_text}
use Rattle.certificate_entries.proofs.ClauseLemmas.{conjunct-small}
use Rattle.pg_base.proofs.OptionLemmas.{none-some-too as none-some}
use Rattle.plan_lines.proofs.CompareLemmas.{some-of}
use Rattle.plan_lines.proofs.bitmap_lines.read_conjunct.Goals as goal

pub returns-in_err-number-clause-only : goal.returns-in_err-number-clause-only
returns-in_err-number-clause-only c = λ n is e.
    let m = some-of (conjunct_by (slice_get c.args.q.now.classes.clauses n)) is in
    let r = c.number.ensures.only m.0 [] (conjunct-small c.args.cat.now c.args.q.now c.requires.bound n m.0 m.1) (c.new.ensures ∙ (e ∙ (ap number_text m.1 ∙ sym (append-nil (decimal m.0))))) refl in
    absurd (none-some c.number.result m.0 c.in_err-number.was r.0)

pub returns-clause-only : goal.returns-clause-only
returns-clause-only c = λ n is e.
    let m = some-of (conjunct_by (slice_get c.args.q.now.classes.clauses n)) is in
    let r = c.number.ensures.only m.0 [] (conjunct-small c.args.cat.now c.args.q.now c.requires.bound n m.0 m.1) (c.new.ensures ∙ (e ∙ (ap number_text m.1 ∙ sym (append-nil (decimal m.0))))) refl in
    let same = same_Some m.0 c.in_ok-number.number (sym r.0 ∙ c.in_ok-number.was) in
    c.find_clause.ensures.only n (m.1 ∙ ap (λ (k : ℕ). Some k) same)
