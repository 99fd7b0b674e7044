-- Working words beside those of `Judging`.
use Rattle.std.specs.Prelude.{◌≡◌, ℕ, List}
use Rattle.catalog.specs.Contents.{Contents}
use Rattle.sql_query.specs.Queries.{Query}
use Rattle.plan_tree.specs.Plans.{Plan}
use Rattle.plan_space.specs.Numbered.{CostAndRows}
use Rattle.plan_space.specs.declared.judged.Judged.{Judged}
use Rattle.plan_space.specs.declared.judged.Judged.TheVariants.{Number}
use Rattle.plan_space.specs.Judging.{IsWrongPair, IsWrongNumber}

-- an answer that names the line and the wrong number of a pair
abbrev pub IsWrong : ℕ → CostAndRows → CostAndRows → Judged → Type 0
IsWrong line pair own (Number at is_cost printed is) = (at ≡ line) × IsWrongPair is_cost pair own printed is
IsWrong line pair own _ = ⊥

module _ (c : Contents) (q : Query) where
  -- an answer that names it
  abbrev pub NamesWrong : Plan → List CostAndRows → Judged → Type 0
  NamesWrong p ns (Number line is_cost printed own) = IsWrongNumber c q p ns line is_cost printed own
  NamesWrong p ns _ = ⊥
