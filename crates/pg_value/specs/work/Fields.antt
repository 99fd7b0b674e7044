-- Working words beside those of `Fields`.
use Rattle.std.specs.Prelude.{◌≡◌, ℕ, true, List, ◌∷◌, ◌++◌, ℤ, pos, neg_ℤ, Err}
use Rattle.std.specs.declared.result.Result.{Result}
use Rattle.std.specs.Char.{is_ascii_whitespace}
use Rattle.std.specs.List.{list_all}
use Rattle.std.specs.Str.Parse.{digits_value}
use Rattle.pg_value.specs.declared.fields.FieldFault.{FieldFault}
use Rattle.pg_value.specs.declared.fields.FieldFault.TheVariants.{Memory}
use Rattle.pg_value.specs.declared.value.Value.{Value}
use Rattle.pg_value.specs.Fields.{is_numeral}

-- a text is a word with white space (space, tab, LF, FF, CR) or nothing before and after it
pub record IsAmidBlanks (text word : List ℕ) : Type 0 where
  pub before : List ℕ
  pub after : List ℕ
  pub parts : text ≡ before ++ (word ++ after)
  pub blank_before : list_all is_ascii_whitespace before ≡ true
  pub blank_after : list_all is_ascii_whitespace after ≡ true

-- a word spells a whole number: decimal digits after a plus, a minus or no sign
pub data SpellsNumber : List ℕ → ℤ → Type 0 where
  plain : (ds : List ℕ) → is_numeral ds ≡ true → SpellsNumber ds (pos (digits_value 10 ds))
  plus : (ds : List ℕ) → is_numeral ds ≡ true → SpellsNumber (43 ∷ ds) (pos (digits_value 10 ds))
  minus : (ds : List ℕ) → is_numeral ds ≡ true → SpellsNumber (45 ∷ ds) (neg_ℤ (pos (digits_value 10 ds)))

-- an answer is the one wanted, or says that memory ran out
abbrev pub IsUnlessMemory : Result Value FieldFault → Result Value FieldFault → Type 0
IsUnlessMemory wanted (Err Memory) = Unit {0}
IsUnlessMemory wanted answer = wanted ≡ answer
