-- How the refusals of the calls below end a step. Own.
use Rattle.std.specs.Prelude.{◌≡◌, ◌≢◌, ◌+◌, ◌<◌, ℕ, List, length, Option, Some, None}
use Rattle.pg_base.specs.declared.faults.Fault.{Fault as FaultType}
use Rattle.pg_base.specs.declared.faults.Refusal.{Refusal}
use Rattle.pg_base.specs.declared.faults.Refusal.TheVariants as refusal
use Rattle.catalog.specs.declared.fault.CatalogFault.{CatalogFault}
use Rattle.catalog.specs.declared.fault.CatalogFault.TheVariants as refused
use Rattle.catalog.specs.Contents.{Contents}
use Rattle.catalog.specs.Tables.{IsRefusal}
use Rattle.group_reply.specs.reply_stop_Broken.{Broken}
use Rattle.group_reply.specs.reply_stop_Broken_TheVariants as broken
use Rattle.group_reply.specs.reply_stop_Stop.{Stop}
use Rattle.group_reply.specs.reply_stop_Stop_TheVariants as stop
use Rattle.statements.specs.declared.end.End.{End}
use Rattle.statements.specs.declared.end.End.TheVariants.{Fault, Write, Memory}

-- a statement that was refused: its fault, or running out of memory, ends the step
abbrev pub end_of_refusal : Refusal → End
end_of_refusal (refusal.Fault f) = Fault f
end_of_refusal refusal.Memory = Memory

-- a query that was not answered whole: that there is no plan is this fault
abbrev pub end_of_stop : Stop → FaultType → End
end_of_stop stop.NoPlan unplanned = Fault unplanned
end_of_stop stop.Write unplanned = Write
end_of_stop stop.Memory unplanned = Memory

-- a reply that was broken off
abbrev pub end_of_broken : Broken → End
end_of_broken broken.Write = Write
end_of_broken broken.Memory = Memory

-- a fault, and out of memory where there is none
abbrev pub end_by : Option FaultType → End
end_by (Some f) = Fault f
end_by None = Memory

-- the catalogue gives this cause for some table of so many words, its name and its columns' names together; or there was
-- no memory
abbrev pub IsCauseFor : CatalogFault → ℕ → Type 0
IsCauseFor e count = e ≢ refused.Memory → (c : Contents) × (name : List ℕ) × (names : List (List ℕ)) × (count ≡ length names + 1) × IsRefusal c name names e

-- a number or literal at one of so many places is wrong
abbrev pub IsNumberAmong : CatalogFault → ℕ → Type 0
IsNumberAmong (refused.BadNumber place) count = place < count
IsNumberAmong _ count = ⊥

-- the place of a repeated column is one of so many after the first
abbrev pub IsPlaceAmong : CatalogFault → ℕ → Type 0
IsPlaceAmong (refused.ColumnTwice place) count = place + 1 < count
IsPlaceAmong _ count = Unit {0}
