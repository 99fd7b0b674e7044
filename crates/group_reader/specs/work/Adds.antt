-- What becomes of a list to which parts are added (own).
use Rattle.std.specs.Prelude.{◌≡◌, List, ◌++◌, Result, Ok, Err}
use Rattle.pg_base.specs.declared.faults.Fault.{Fault}
use Rattle.pg_base.specs.declared.faults.Refusal.{Refusal}
use Rattle.pg_base.specs.declared.faults.Refusal.TheVariants as refusal
use Rattle.group_reader.specs.declared.parts.Part.{Part}

-- the parts stand after those before; or the first fault is reported; or there was no memory
abbrev pub AddsParts : {T : Type 0} → Result (List Part) Fault → List Part → List Part → Result T Refusal → Type 0
AddsParts (Ok parts) old new (Ok _) = new ≡ old ++ parts
AddsParts (Err fault) old new (Err (refusal.Fault told)) = told ≡ fault
AddsParts _ old new (Err refusal.Memory) = Unit {0}
AddsParts _ old new _ = ⊥
