-- What reading costs, rows and numbers of entries comes to: what is written next, before no byte of a name, is read, and what
-- follows is left. Own.
use Rattle.std.specs.Prelude.{◌≡◌, ℕ, true, List, ◌++◌, codes, Option, Some}
use Rattle.std.specs.Fmt.{decimal}
use Rattle.cost_rules.specs.Costs.{pair}
use Rattle.sql_query.specs.declared.window.Window.{Window}
use Rattle.certificate_text.specs.explain_Texts.{cost_text}
use Rattle.certificate_text.specs.work.Words.{stops}
use Rattle.certificate_text.specs.HasText.{HasStartup, IsEntryNumber, IsWritable}

-- a startup and a total
abbrev pub ReadsBoth : List ℕ → List ℕ → Option (ℕ × ℕ) → Type 0
ReadsBoth old new result =
    (a b : ℕ) (rest : List ℕ) → IsWritable a → IsWritable b → stops rest ≡ true →
    old ≡ decimal a ++ (codes ".." ++ (decimal b ++ rest)) →
    (result ≡ Some (a, b)) × (new ≡ rest)

-- a total alone
abbrev pub ReadsTotal : List ℕ → List ℕ → Option (ℕ × ℕ) → Type 0
ReadsTotal old new result =
    (b : ℕ) (rest : List ℕ) → IsWritable b → stops rest ≡ true → old ≡ decimal b ++ rest → (result ≡ Some (0, b)) × (new ≡ rest)

-- a cost as a query with such a window shows it
abbrev pub ReadsCost : Option Window → List ℕ → List ℕ → Option (ℕ × ℕ) → Type 0
ReadsCost window old new result =
    (a b : ℕ) (rest : List ℕ) → HasStartup window a → IsWritable b → stops rest ≡ true →
    old ≡ cost_text window (pair a b) ++ rest →
    (result ≡ Some (a, b)) × (new ≡ rest)

-- a startup, a total and rows that can be written
abbrev pub AreFigures : Option Window → ℕ → ℕ → ℕ → Type 0
AreFigures window startup total rows = HasStartup window startup × IsWritable total × IsWritable rows

-- a cost and rows
abbrev pub ReadsFigures : Option Window → List ℕ → List ℕ → Option (ℕ × ℕ × ℕ) → Type 0
ReadsFigures window old new result =
    (a b n : ℕ) (rest : List ℕ) → HasStartup window a → IsWritable b → IsWritable n → stops rest ≡ true →
    old ≡ codes " cost=" ++ (cost_text window (pair a b) ++ (codes " rows=" ++ (decimal n ++ rest))) →
    (result ≡ Some (a, b, n)) × (new ≡ rest)

-- the numbers of two entries
abbrev pub ReadsTwo : List ℕ → List ℕ → Option (ℕ × ℕ) → Type 0
ReadsTwo old new result =
    (a b : ℕ) (rest : List ℕ) → IsEntryNumber a → IsEntryNumber b → stops rest ≡ true →
    old ≡ decimal a ++ (codes " " ++ (decimal b ++ rest)) →
    (result ≡ Some (a, b)) × (new ≡ rest)
