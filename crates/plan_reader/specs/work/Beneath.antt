-- What stands behind the words of a node's line, and beneath the line. Own.
use Rattle.std.specs.Prelude.{◌≡◌, ◌+◌, ℕ, List, ◌++◌, All, length, Option, Some}
use Rattle.catalog.specs.Contents.{Contents}
use Rattle.sql_query.specs.Queries.{Query}
use Rattle.plan_tree.specs.Plans.{Plan, nest}
use Rattle.plan_space.specs.Numbered.{CostAndRows, nodes}
use Rattle.plan_lines.specs.work.Parts.{IsShallow}
use Rattle.plan_lines.specs.declared.kinds.Kind.{Kind}
use Rattle.plan_lines.specs.HasText.{IsText}
use Rattle.plan_reader.specs.declared.lines.NodeLine.{NodeLine}
use Rattle.plan_reader.specs.Written.{Fits, StandsAt, written_at, written_beneath}

-- a line says that a node is of a kind, with this behind the words, and has these numbers
abbrev pub IsLineOf : NodeLine → Kind → List ℕ → CostAndRows → Type 0
IsLineOf l kind behind n = (l.kind ≡ kind) × (l.behind.now ≡ behind) × (l.numbers ≡ n)

module _ (c : Contents) (q : Query) where
  -- where the lines of a plan at a depth come next, it is read with its numbers, and what follows is left
  abbrev pub IsRead : ℕ → List ℕ → List ℕ → List CostAndRows → List CostAndRows → Option Plan → Type 0
  IsRead d old new before after o = (p : Plan) (ns : List CostAndRows) (rest : List ℕ) → IsText c q p → StandsAt d p → length ns ≡ nodes p → All Fits ns → IsShallow d rest →
      old ≡ written_at c q d p ns ++ rest → (o ≡ Some p) × (after ≡ before ++ ns) × (new ≡ rest)

  -- a text begins with the lines of a plan at a depth, with the first of some numbers; this is left of both
  pub record IsBehind (d : ℕ) (p : Plan) (text : List ℕ) (numbers : List CostAndRows) (left : List ℕ) (more : List CostAndRows) : Type 0 where
    pub used : List CostAndRows
    pub count : length used ≡ nodes p
    pub fits : All Fits used
    pub split : numbers ≡ used ++ more
    pub begins : text ≡ written_at c q d p used ++ left

  -- a text begins with the lines of two plans at a depth, one behind the other, with the first of some numbers; this is left of
  -- both
  abbrev pub AreRead : ℕ → List ℕ → List ℕ → List CostAndRows → List CostAndRows → Option (Plan × Plan) → Type 0
  AreRead d old new before after o = (outer inner : Plan) (ns : List CostAndRows) (rest : List ℕ) → IsText c q outer → IsText c q inner → StandsAt (d + 1) outer → StandsAt (d + 1) inner →
      length ns ≡ nodes outer + nodes inner → All Fits ns → IsShallow d rest → old ≡ written_beneath c q d (nest outer inner) ns ++ rest →
      (o ≡ Some (outer, inner)) × (after ≡ before ++ ns) × (new ≡ rest)
