use Rattle.std.proofs.Common.{sym, ◌∙◌}
use Rattle.civil.proofs.FormLemmas.{apart, ended, refused, taken}
use Rattle.civil.proofs.forms.fits.Goals as goal

pub returns-then-form-text : goal.returns-then-form-text
returns-then-form-text c = sym (apart c.args.form.now c.args.text.now c.if-form-text.true)

pub returns-then-not-is_at : goal.returns-then-not-is_at
returns-then-not-is_at c =
    refused c.args.form.now c.args.text.now c.loop-n.n c.loop-n-test.true c.if-form-text.false c.loop-n.invariant (sym c.is_at.ensures ∙ c.if-not-is_at.true)

pub loop-n-preserved : goal.loop-n-preserved
loop-n-preserved c =
    taken c.args.form.now c.args.text.now c.loop-n.n c.loop-n-test.true c.if-form-text.false c.loop-n.invariant (sym c.is_at.ensures ∙ c.if-not-is_at.false)

pub returns : goal.returns
returns c = ended c.args.form.now c.args.text.now c.loop-n.n c.loop-n-test.false c.if-form-text.false c.loop-n.invariant
