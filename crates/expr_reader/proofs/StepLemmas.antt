-- One step after another: the first fault is that of all.
use Rattle.std.proofs.Common.{◌≡◌, Result, Ok, Err, ap}
use Rattle.pg_base.specs.declared.faults.Fault.{Fault}
use Rattle.expr_reader.specs.Conditions.{next}

pub step : {A B : Type 0} (m : Result A Fault) (f : A → Result B Fault) (a : A) → m ≡ Ok a → next m f ≡ f a
step m f a is = ap (λ r. next r f) is

pub stop : {A B : Type 0} (m : Result A Fault) (f : A → Result B Fault) (g : Fault) → m ≡ Err g → next m f ≡ Err g
stop m f g is = ap (λ r. next r f) is
