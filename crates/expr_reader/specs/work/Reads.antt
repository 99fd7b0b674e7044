-- What reading a part of a statement gives (own).
use Rattle.std.specs.Prelude.{◌≡◌, List, Result, Ok, Err}
use Rattle.pg_base.specs.declared.faults.Fault.{Fault}
use Rattle.pg_base.specs.declared.faults.Refusal.{Refusal}
use Rattle.pg_base.specs.declared.faults.Refusal.TheVariants as refusal
use Rattle.sql_grammar.specs.Terminals.{Terminal}

-- what reading a part of a meaning with `rest` behind it gives: the part, seen as what it means, and `rest` is left; or its
-- fault; or memory ran out
abbrev pub Reads : {T A : Type 0} → (T → A) → Result A Fault → List Terminal → Result T Refusal → List Terminal → Type 0
Reads seen (Ok meant) rest (Ok read) left = (seen read ≡ meant) × (left ≡ rest)
Reads seen (Err fault) rest (Err (refusal.Fault told)) left = told ≡ fault
Reads seen _ rest (Err refusal.Memory) left = Unit {0}
Reads seen _ rest _ left = ⊥

-- what an answer is where memory did not run out: what is meant, or its fault
abbrev pub seen_as : {T A : Type 0} → (T → A) → Result T Fault → Result A Fault
seen_as seen (Ok read) = Ok (seen read)
seen_as seen (Err fault) = Err fault

-- what reading a part of a meaning to its end gives: the part, seen as what it means; or its fault; or memory ran out
abbrev pub IsReadAs : {T A : Type 0} → (T → A) → Result A Fault → Result T Refusal → Type 0
IsReadAs seen (Ok meant) (Ok read) = seen read ≡ meant
IsReadAs seen (Err fault) (Err (refusal.Fault told)) = told ≡ fault
IsReadAs seen _ (Err refusal.Memory) = Unit {0}
IsReadAs seen _ _ = ⊥
