-- Working words beside those of `Words`.
use Rattle.std.specs.Prelude.{◌≡◌, ℕ, List}
use Rattle.pg_base.specs.Faults.{syntax_fault}
use Rattle.pg_base.specs.declared.faults.Refusal.{Refusal}
use Rattle.pg_base.specs.declared.faults.Refusal.TheVariants as refusal
use Rattle.sql_lex.specs.Words.{IsWordFault}

-- why the words of a statement are refused: memory runs out, or a syntax fault at their first fault
abbrev pub IsWordRefusal : List ℕ → ℕ → Refusal → Type 0
IsWordRefusal text from (refusal.Fault f) = (f ≡ syntax_fault f.at) × IsWordFault text from f.at
IsWordRefusal text from refusal.Memory = Unit {0}
