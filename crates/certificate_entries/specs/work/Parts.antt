-- What it is to read a part of a line from the left. Own.
use Rattle.std.specs.Prelude.{◌≡◌, ◌<◌, ◌^◌, ℕ, Bool, true, not, cond, ◌==◌, nat_lt, List, [], ◌∷◌, ◌++◌, codes, get_or, Option, Some, None}
use Rattle.pg_base.specs.Sets.{has}
use Rattle.pg_base.specs.declared.rel_set.RelSet.{RelSet}
use Rattle.certificate_text.specs.work.Words.{stops}
use Rattle.sql_query.specs.Queries.{Query}
use Rattle.certificate_text.specs.plan_check_Certificates.{Side}
use Rattle.certificate_text.specs.HasText.{IsEntryNumber, IsSetOf}
use Rattle.certificate_text.specs.Texts.{with_bare_commas}

-- wherever what is left begins with the text of a thing that has one, and no byte of a name follows, the thing is read and
-- what follows is left
pub record Reads {A : Type 0} (Has : A → Type 0) (text : A → List ℕ) (old new : List ℕ) (result : Option A) : Type 0 where
  pub only : (x : A) (rest : List ℕ) → Has x → stops rest ≡ true → old ≡ text x ++ rest → (result ≡ Some x) × (new ≡ rest)

-- a number as an entry's
abbrev pub as_entry : Option ℕ → Option ℕ
as_entry None = None
as_entry (Some n) = cond (nat_lt n (2 ^ 32)) (Some n) None

-- a side that has a text
abbrev pub HasSideText : Side → Type 0
HasSideText s = IsEntryNumber s.entry

-- a set that has a text, where it is not empty
pub record IsSet (q : Query) (s : RelSet) : Type 0 where
  pub within : IsSetOf q (has s.0)
  pub wide : s.0 < 2 ^ 16

-- a text begins with no comma
abbrev pub has_no_comma : List ℕ → Bool
has_no_comma text = not (get_or text 0 0 == 44)

-- the first of some words was read, if there is one, and the others are left, each behind a comma
abbrev pub IsWordRead : List (List ℕ) → List ℕ → List ℕ → List ℕ → Type 0
IsWordRead [] tail word left = (word ≡ []) × (left ≡ tail)
IsWordRead (x ∷ xs) tail word left = (word ≡ x) × (left ≡ with_bare_commas (codes ",") xs ++ tail)
