use Rattle.std.proofs.Common.{◌∙◌, ℕ}
use Rattle.std.specs.Fmt.{decimal}
use Rattle.pg_base.proofs.NameLemmas.{decimal-word}
use Rattle.plan_lines.proofs.CompareLemmas.{number-left}
use Rattle.pg_base.proofs.OptionLemmas.{none-some-too as none-some}
use Rattle.plan_lines.proofs.numbers.read_number.Goals as goal

pub returns-in_err-number-clause-only : goal.returns-in_err-number-clause-only
returns-in_err-number-clause-only c = λ n rest lt stop e.
    let w = c.word-word.ensures.only (decimal n) rest (c.new.ensures ∙ e) (decimal-word n) stop in
    absurd (none-some {A = ℕ} c.number_of.result n c.in_err-number.was (c.number_of.ensures.only n lt w.0))

pub returns-clause-only : goal.returns-clause-only
returns-clause-only c = λ n rest lt stop e.
    let w = c.word-word.ensures.only (decimal n) rest (c.new.ensures ∙ e) (decimal-word n) stop in
    number-left n c.in_ok-number.number c.args.text.now c.word-word.result.now c.in_ok-left.left.now rest c.number_of.result c.in_ok-number.was (c.number_of.ensures.only n lt w.0) w.0 c.in_ok-left.ensures.is e
