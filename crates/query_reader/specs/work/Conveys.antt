-- What is answered where something is meant, or has its first fault (own).
use Rattle.std.specs.Prelude.{◌≡◌, List, Result, Ok, Err}
use Rattle.pg_base.specs.declared.faults.Fault.{Fault}
use Rattle.pg_base.specs.declared.faults.Refusal.{Refusal}
use Rattle.pg_base.specs.declared.faults.Refusal.TheVariants as refusal
use Rattle.sql_grammar.specs.Terminals.{Terminal}

-- the answer is as `Says` has it of what is meant; or it is the fault; or there was no memory
abbrev pub Conveys : {A T : Type 0} → (A → T → Type 0) → Result A Fault → Result T Refusal → Type 0
Conveys Says (Ok meant) (Ok told) = Says meant told
Conveys Says (Err fault) (Err (refusal.Fault told)) = told ≡ fault
Conveys Says _ (Err refusal.Memory) = Unit {0}
Conveys Says _ _ = ⊥

-- where the words of a part are read into something: what it is now is what they mean, and `rest` is left; or their fault is
-- reported; or there was no memory
abbrev pub ReadsInto : {T A : Type 0} → A → Result A Fault → List Terminal → Result T Refusal → List Terminal → Type 0
ReadsInto now (Ok meant) rest (Ok _) left = (now ≡ meant) × (left ≡ rest)
ReadsInto now (Err fault) rest (Err (refusal.Fault told)) left = told ≡ fault
ReadsInto now _ rest (Err refusal.Memory) left = Unit {0}
ReadsInto now _ rest _ left = ⊥
