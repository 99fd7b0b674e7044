-- The makers of faults (PostgreSQL manual, appendix Error Codes; the fields are own).
use Rattle.std.specs.Prelude.{ℕ}
use Rattle.pg_base.specs.declared.numbers.TableNo.{TableNo}
use Rattle.pg_base.specs.declared.faults.Code.{Code}
use Rattle.pg_base.specs.declared.faults.Code.TheVariants.{S1}
use Rattle.pg_base.specs.declared.faults.Fault.{Fault}

-- the fault of this kind at words of the script, from one offset to another
abbrev pub words_fault : Code → ℕ → ℕ → Fault
words_fault code from to = record { code = code; at = from; from = from; to = to; rec = 0; table = record { 0 = 0 }; col = 0 }

-- a syntax fault at a place; it names no words
abbrev pub syntax_fault : ℕ → Fault
syntax_fault place = words_fault S1 place place

-- the fault of this kind of COPY data that begin at an offset, in a record and a column of a table
abbrev pub data_fault : Code → ℕ → ℕ → TableNo → ℕ → Fault
data_fault code start rec t col = record { code = code; at = start; from = start; to = start; rec = rec; table = t; col = col }
