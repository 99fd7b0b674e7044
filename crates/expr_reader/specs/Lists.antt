-- A list of parts bound from the left (own).
use Rattle.std.specs.Prelude.{List, [], ◌∷◌, Result, Ok, Err}
use Rattle.pg_base.specs.declared.faults.Fault.{Fault}
use Rattle.sql_grammar.specs.Syntax.{Mark}

-- the further parts, each behind its comma
abbrev pub further_parts : {A B : Type 0} → (A → B) → List (Mark × A) → List B
further_parts part [] = []
further_parts part ((_, x) ∷ xs) = part x ∷ further_parts part xs

-- one before others, or the first fault
abbrev pub before_all : {B : Type 0} → Result B Fault → Result (List B) Fault → Result (List B) Fault
before_all (Err f) rest = Err f
before_all (Ok b) (Err f) = Err f
before_all (Ok b) (Ok bs) = Ok (b ∷ bs)

-- each bound, from the left, or the first fault
abbrev pub bound_each : {A B : Type 0} → (A → Result B Fault) → List A → Result (List B) Fault
bound_each bind [] = Ok []
bound_each bind (x ∷ xs) = before_all (bind x) (bound_each bind xs)
