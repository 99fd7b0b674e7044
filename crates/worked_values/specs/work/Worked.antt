-- Groups of the worked tuples. Own.
use Rattle.std.specs.Prelude.{◌≡◌, length}
use Rattle.group_values.specs.declared.form.Form.TheVariants.{Hashed}
use Rattle.group_values.specs.work.Grouping.{Grouping}

-- one column is grouped, and there are three calls
pub record IsWorked (g : Grouping) : Type 0 where
  pub width : g.shape.width ≡ 1
  pub calls : length g.shape.calls ≡ 3
  pub form : g.form ≡ Hashed
