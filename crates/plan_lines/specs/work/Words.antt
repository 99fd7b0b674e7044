-- What it is to read words of a list one by one. Own.
use Rattle.std.specs.Prelude.{◌≡◌, ℕ, true, List, [], ◌∷◌, codes, All}
use Rattle.std.specs.List.{list_all}
use Rattle.pg_base.specs.Names.{is_in_name}
use Rattle.certificate_entries.specs.explain_Texts.{with_commas}

-- the first of some words was read, if there is one, and the others are left, each behind a comma and a space; nothing
-- follows them
abbrev pub IsWordRead : List (List ℕ) → List ℕ → List ℕ → Type 0
IsWordRead [] word left = (word ≡ []) × (left ≡ [])
IsWordRead (x ∷ xs) word left = (word ≡ x) × (left ≡ with_commas (codes ", ") xs)

-- the first of some words in a row, which are all that is left
abbrev pub ReadsListed : List ℕ → List ℕ → List ℕ → List ℕ → Type 0
ReadsListed before old new word =
    (xs : List (List ℕ)) → All (λ x. list_all is_in_name x ≡ true) xs → old ≡ with_commas before xs → IsWordRead xs word new
