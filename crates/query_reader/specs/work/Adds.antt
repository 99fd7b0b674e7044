-- What becomes of a list to which columns are added (own).
use Rattle.std.specs.Prelude.{◌≡◌, List, ◌++◌, Result, Ok, Err}
use Rattle.pg_base.specs.declared.faults.Fault.{Fault}
use Rattle.pg_base.specs.declared.faults.Refusal.{Refusal}
use Rattle.pg_base.specs.declared.faults.Refusal.TheVariants as refusal
use Rattle.pg_expr.specs.declared.operand.ColRef.{ColRef}

-- of one item: its columns stand after those before, or there was no memory for them; or its fault is reported
abbrev pub Adds : {T : Type 0} → Result (List ColRef) Fault → List ColRef → List ColRef → Result T Refusal → Type 0
Adds (Ok columns) old new (Ok _) = new ≡ old ++ columns
Adds (Ok columns) old new (Err refusal.Memory) = Unit {0}
Adds (Err fault) old new (Err (refusal.Fault told)) = told ≡ fault
Adds _ old new _ = ⊥

-- of several items: their columns stand after those before, or the first fault is reported, or there was no memory
abbrev pub AddsAll : {T : Type 0} → Result (List ColRef) Fault → List ColRef → List ColRef → Result T Refusal → Type 0
AddsAll (Ok columns) old new (Ok _) = new ≡ old ++ columns
AddsAll (Err fault) old new (Err (refusal.Fault told)) = told ≡ fault
AddsAll _ old new (Err refusal.Memory) = Unit {0}
AddsAll _ old new _ = ⊥
