use Rattle.std.proofs.Common.{ℕ, Ok, Some, refl, sym, ap, ◌∙◌}
use Rattle.expr_reader.proofs.StepLemmas.{step}
use Rattle.query_reader.specs.Windows.{rows_written, skipped_of}
use Rattle.query_reader.proofs.WindowLemmas.{handed-on, no-skipped, skipped-there}
use Rattle.query_reader.proofs.window.skipped_rows.Goals as goal

pub returns-then-not-takes : goal.returns-then-not-takes
returns-then-not-takes c = λ o rest ends is. no-skipped o rest c.args.from.now c.takes.new.self (c.if-not-takes.ensures.other refl) (c.if-not-takes.ensures.left refl) is

pub returns-in_err-rows : goal.returns-in_err-rows
returns-in_err-rows c = λ o rest ends is.
    let (key, took) = c.if-not-takes.ensures.took refl in
    let t = skipped-there o rest c.args.from.now c.takes.new.self key ends is took in
    let told = c.in_err-rows.ensures t.number rest t.words in
    (handed-on (rows_written t.number) (λ (rows : ℕ). Ok (Some rows)) c.from_residual.result c.in_err-rows.field-0.0 told.0 c.from_residual.ensures.1 ∙ ap skipped_of (sym t.is), told.1)

pub returns : goal.returns
returns c = λ o rest ends is.
    let (key, took) = c.if-not-takes.ensures.took refl in
    let t = skipped-there o rest c.args.from.now c.takes.new.self key ends is took in
    let told = c.in_ok-rows.ensures t.number rest t.words in
    (sym (step (rows_written t.number) (λ (rows : ℕ). Ok (Some rows)) c.in_ok-rows.field-0 (sym told.0)) ∙ ap skipped_of (sym t.is), told.1)
