-- Working words beside those of `Statuses`.
use Rattle.std.specs.Prelude.{ℕ, List, Result, Ok, Err}
use Rattle.pg_base.specs.declared.reading.ReadFault.{ReadFault as ReadFaultType}
use Rattle.pg_base.specs.declared.reading.ReadFault.TheVariants as reading
use Rattle.catalog.specs.Contents.{Contents}
use Rattle.reply_text.specs.Lines.{fault_line}
use Rattle.statements.specs.declared.end.End.{End}
use Rattle.statements.specs.declared.end.End.TheVariants as ends
use Rattle.pgplan.specs.declared.status.Status.{Status}
use Rattle.pgplan.specs.declared.status.Status.TheVariants.{Done, Usage, ReadFault, Statement, WriteFault, Memory, TooLong}
use Rattle.pgplan.specs.Statuses.{line_of}

-- the number of a status, with which the process ends
abbrev pub number_of : Status → ℕ
number_of Done = 0
number_of Usage = 1
number_of ReadFault = 2
number_of Statement = 3
number_of WriteFault = 4
number_of Memory = 5
number_of TooLong = 6

-- the status of a run whose source is not read whole
abbrev pub status_of_reading : ReadFaultType → Status
status_of_reading reading.Memory = Memory
status_of_reading reading.Failed = ReadFault
status_of_reading reading.TooLong = TooLong

-- the status of a run whose statements end so
abbrev pub status_of_work : Result (Unit {0}) End → Status
status_of_work (Ok _) = Done
status_of_work (Err (ends.Fault f)) = Statement
status_of_work (Err ends.Write) = WriteFault
status_of_work (Err ends.Memory) = Memory

-- the line that it writes: a fault's own, and else that of its status
abbrev pub line_of_work : Contents → List ℕ → Result (Unit {0}) End → List ℕ
line_of_work c text (Ok _) = line_of (number_of Done)
line_of_work c text (Err (ends.Fault f)) = fault_line c text f
line_of_work c text (Err ends.Write) = line_of (number_of WriteFault)
line_of_work c text (Err ends.Memory) = line_of (number_of Memory)
