-- What is known of the groups of some tuples, and what is asked of them in the end.
use Rattle.std.specs.Prelude.{Bool, cond, List, []}
use Rattle.group_values.specs.Groups.{Seen}
use Rattle.group_values.specs.work.Groups.{IsSumOf}
use Rattle.group_values.specs.Shapes.{GroupShape, Summary}
use Rattle.group_values.specs.declared.form.Form.{Form}

-- what is shown of groups, how their tuples come, whether their lines are sorted in the end, and what is known of each group,
-- in the order of the groups' first tuples
pub record Grouping : Type 0 where
  pub shape : GroupShape
  pub form : Form
  pub sort_after : Bool
  pub groups : List Summary

-- the groups of a grouping are those of these tuples
abbrev pub AreOf : List Seen → Grouping → Type 0
AreOf ss g = IsSumOf g.shape ss g.groups

-- a grouping with other groups in place of its own
abbrev pub with_groups : List Summary → Grouping → Grouping
with_groups gs g = record { shape = g.shape; form = g.form; sort_after = g.sort_after; groups = gs }

-- what is shown in the end: lines in the order of the groups' first tuples, or sorted
abbrev pub final_shape : Bool → GroupShape → GroupShape
final_shape sort_after shape = record { width = shape.width; calls = shape.calls; items = shape.items; order = cond sort_after shape.order [] }
