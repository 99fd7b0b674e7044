use Rattle.std.proofs.Common.{◌∙◌, [], ℕ, List, ap, length, refl, sym, true≢false}
use Rattle.std.proofs.lemmas.List.{append-nil}
use Rattle.std.specs.Fmt.{decimal}
use Rattle.pg_base.proofs.OptionLemmas.{none-some-too as none-some}
use Rattle.plan_lines.proofs.numbers.number_of.Goals as goal

pub returns-in_err-number-clause-only : goal.returns-in_err-number-clause-only
returns-in_err-number-clause-only c = λ n lt e.
    absurd (none-some {A = ℕ} c.number.result n c.in_err-number.was (c.number.ensures.only n [] lt (c.new-at.ensures ∙ (e ∙ sym (append-nil (decimal n)))) refl).0)

pub returns-else-is_done-clause-only : goal.returns-else-is_done-clause-only
returns-else-is_done-clause-only c = λ n lt e.
    let r = c.number.ensures.only n [] lt (c.new-at.ensures ∙ (e ∙ sym (append-nil (decimal n)))) refl in
    absurd (true≢false (sym (c.is_done.ensures.1 (ap (λ (l : List ℕ). length l) r.1)) ∙ c.if-is_done.false))
