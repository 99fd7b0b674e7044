-- Working words beside those of `Told`.
use Rattle.std.specs.Prelude.{ℕ, ◌≡◌, List}
use Rattle.catalog.specs.Contents.{Contents}
use Rattle.sql_query.specs.Queries.{Query}
use Rattle.plan_tree.specs.Plans.{Plan}
use Rattle.plan_tree.specs.work.Views.{plan}
use Rattle.plan_space.specs.declared.judged.Judged.{Judged}
use Rattle.plan_reply.specs.declared.told.Told.{Told}
use Rattle.plan_reply.specs.declared.told.Told.TheVariants as tellings
use Rattle.plan_reply.specs.Told.{reason_text, IsNotGood, IsRefusedPlan, IsGoodPlan}

-- a plan that is read is not good, and these bytes say why
abbrev pub IsReasonOf : Judged → List ℕ → Type 0
IsReasonOf judged bytes = IsNotGood judged × (bytes ≡ reason_text judged)

module _ (c : Contents) (q : Query) (block : List ℕ) where
  -- the judgement of the block: a line that says why its plan is not run, or the good plan whose text it is
  abbrev pub IsTold : Told → Type 0
  IsTold (tellings.Line bytes) = IsRefusedPlan c q block bytes.items
  IsTold (tellings.Plan p) = IsGoodPlan c q block (plan p)

-- two answers to a block are the same: one line, or one plan
abbrev pub IsSameTold : Told → Told → Type 0
IsSameTold (tellings.Line a) (tellings.Line b) = a.items ≡ b.items
IsSameTold (tellings.Plan p) (tellings.Plan o) = plan p ≡ plan o
IsSameTold _ _ = ⊥
