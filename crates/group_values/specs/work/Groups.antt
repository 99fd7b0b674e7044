-- Working words beside those of `Groups`.
use Rattle.std.specs.Prelude.{◌≡◌, List, All, length}
use Rattle.group_values.specs.Shapes.{GroupShape, Summary}
use Rattle.group_values.specs.Groups.{Seen, summaries}

-- each tuple has as many keys as there are GROUP BY columns, and these are the groups of the tuples
pub record IsSumOf (shape : GroupShape) (ss : List Seen) (gs : List Summary) : Type 0 where
  pub widths : All (λ (s : Seen). length s.keys ≡ shape.width) ss
  pub is : gs ≡ summaries shape ss
