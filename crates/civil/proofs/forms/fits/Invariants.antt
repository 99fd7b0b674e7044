use Rattle.std.proofs.Common.{◌≡◌, drop}
use Rattle.civil.specs.Forms.{has_form}
use Rattle.civil.proofs.forms.fits.Given as goal

abbrev pub invariant-loop-n : goal.invariant-loop-n
invariant-loop-n l = has_form (drop l.n l.form) (drop l.n l.text) ≡ has_form l.form l.text
