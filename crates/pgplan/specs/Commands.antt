-- The words of the command line that are a command. Own.
use Rattle.std.specs.Prelude.{ℕ, ◌≡◌, ◌≤◌, ◌<◌, ◌^◌, List, [], ◌∷◌, codes, length, map}
use Rattle.std.specs.String.{string_bytes}
use Rattle.std.specs.declared.string.String.{String}
use Rattle.std.specs.Str.Parse.{IsNumeral, digits_value}

-- the words are `run` alone
abbrev pub IsRunCommand : List (List ℕ) → Type 0
IsRunCommand words = words ≡ codes "run" ∷ []

-- a word of one to 20 decimal digits that write a number below 2^64
pub record IsNumberWord (n : ℕ) (word : List ℕ) : Type 0 where
  pub digits : IsNumeral 10 word
  pub few : length word ≤ 20
  pub value : n ≡ digits_value 10 word
  pub small : n < 2 ^ 64

-- the words are `sample` and one that writes n
abbrev pub IsSampleCommand : ℕ → List (List ℕ) → Type 0
IsSampleCommand n words = (word : List ℕ) × (words ≡ codes "sample" ∷ word ∷ []) × IsNumberWord n word

-- the words are neither `run` alone nor `sample` with a number
abbrev pub AreNoCommand : List (List ℕ) → Type 0
AreNoCommand words = ¬ IsRunCommand words × ((n : ℕ) → ¬ IsSampleCommand n words)

-- the words, as strings, are `run` alone
abbrev pub AreRunWords : {Z : Type 0} → List (String Z) → Type 0
AreRunWords words = IsRunCommand (map string_bytes words)

-- the words, as strings, are `sample` and one that writes n
abbrev pub AreSampleWords : {Z : Type 0} → ℕ → List (String Z) → Type 0
AreSampleWords n words = IsSampleCommand n (map string_bytes words)
