-- What is shown of groups. Own.
use Rattle.std.specs.Prelude.{ℕ, List}
use Rattle.group_values.specs.declared.shape.Call.{Call}
use Rattle.group_values.specs.declared.shape.Shown.{Shown}
use Rattle.group_values.specs.declared.shape.Sorter.{Sorter}
use Rattle.pg_value.specs.declared.value.Value.{Value}

-- how many GROUP BY columns there are, the calls, what a line shows, and the items by which lines are sorted, none where they
-- stay in the order of the groups' first tuples
pub record GroupShape : Type 0 where
  pub width : ℕ
  pub calls : List Call
  pub items : List Shown
  pub order : List Sorter

-- what is known of a group: the values of the GROUP BY columns, and what each call gives
pub record Summary : Type 0 where
  pub keys : List Value
  pub called : List Value
