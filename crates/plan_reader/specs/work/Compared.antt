-- What stands behind the lines of a plan in a text. Own.
use Rattle.std.specs.Prelude.{◌≡◌, ◌++◌, ℕ, List, All, length, Option, Some, option_map}
use Rattle.std.specs.Borrow.{Bor}
use Rattle.catalog.specs.Contents.{Contents}
use Rattle.sql_query.specs.Queries.{Query}
use Rattle.plan_tree.specs.Plans.{Plan}
use Rattle.plan_space.specs.Numbered.{CostAndRows, nodes}
use Rattle.plan_reader.specs.work.Beneath.{IsBehind}
use Rattle.plan_reader.specs.Written.{Fits, line_with, written_at}

-- where the numbers fit, and the text begins with these words, what follows them is given
abbrev pub GivesFitting : CostAndRows → List ℕ → List ℕ → Option (Bor (List ℕ)) → Type 0
GivesFitting n words text result =
    (rest : List ℕ) → Fits n → text ≡ words ++ rest → option_map (λ (l : Bor (List ℕ)). l.now) result ≡ Some rest

module _ (c : Contents) (q : Query) where
  -- the numbers fit, and the text is the line of a node with them, and this behind it
  abbrev pub IsBehindLine : ℕ → Plan → CostAndRows → List ℕ → Bor (List ℕ) → Type 0
  IsBehindLine d p n text left = Fits n × (text ≡ line_with c q d p n ++ left.now)

  -- a text begins with the lines of a plan with the first of some numbers; this is left of both
  abbrev pub LeavesBoth : ℕ → Plan → List ℕ → List CostAndRows → Bor (List ℕ) × Bor (List CostAndRows) → Type 0
  LeavesBoth d p text numbers s = IsBehind c q d p text numbers s.0.now s.1.now

  -- wherever it begins so, what is left of both is given
  abbrev pub GivesBoth : ℕ → Plan → List ℕ → List CostAndRows → Option (Bor (List ℕ) × Bor (List CostAndRows)) → Type 0
  GivesBoth d p text numbers result =
      (ns more : List CostAndRows) (rest : List ℕ) → length ns ≡ nodes p → All Fits ns → numbers ≡ ns ++ more →
      text ≡ written_at c q d p ns ++ rest →
      option_map {U = List ℕ × List CostAndRows} (λ s. (s.0.now, s.1.now)) result ≡ Some (rest, more)
