-- Readings one after the other: the first fault wins (own).
use Rattle.std.specs.Prelude.{◌≡◌, ◌⊎◌, List, [], ◌∷◌, ◌++◌, Result, Ok, Err}
use Rattle.pg_base.specs.declared.faults.Fault.{Fault}

-- the fault of the first reading, or what is said next of what it means
abbrev pub Then : (A B : Type 0) → (Result A Fault → Type 0) → (A → Result B Fault → Type 0) → Result B Fault → Type 0
Then A B First Next r = ((f : Fault) × First (Err f) × (r ≡ Err f)) ⊎ ((x : A) × First (Ok x) × Next x r)

-- parts from the left, each read behind what the earlier ones mean: what all of them mean, or the first fault
abbrev pub AreRead : (A B : Type 0) → (List B → A → Result B Fault → Type 0) → List B → List A → Result (List B) Fault → Type 0
AreRead A B Means earlier [] = λ r. r ≡ Ok earlier
AreRead A B Means earlier (x ∷ xs) = Then B (List B) (Means earlier x) (λ y. AreRead A B Means (earlier ++ y ∷ []) xs)
