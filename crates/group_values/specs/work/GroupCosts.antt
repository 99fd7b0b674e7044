-- What plans that group cost by the numbers of a task.
use Rattle.std.specs.Prelude.{ℕ, ◌≤◌, Bool, true, All, length, nat_lt}
use Rattle.cost_rules.specs.work.Costs.{IsEstimate}
use Rattle.group_values.specs.declared.form.Form.{Form}
use Rattle.group_values.specs.declared.form.Form.TheVariants.{Sorted, Hashed}
use Rattle.group_values.specs.declared.task.GroupTask.{GroupTask}
use Rattle.group_values.specs.GroupCosts.{estimated_groups, grouped_cost, row_tests, whole_cost}

-- rows are an estimate, and each group key has a value
pub record IsTask (t : GroupTask) : Type 0 where
  pub rows : IsEstimate t.rows
  pub distinct : All (λ n. 1 ≤ n) t.distinct.items

-- how many groups there are taken to be
abbrev pub groups_of : GroupTask → ℕ
groups_of t = estimated_groups t.rows t.distinct.items

-- hashed groups need a key
abbrev pub is_offered : Form → GroupTask → Bool
is_offered Sorted t = true
is_offered Hashed t = nat_lt 0 (length t.distinct.items)

-- whether the groups of a form are sorted in the end
abbrev pub sorts_after : Form → GroupTask → Bool
sorts_after Sorted t = t.sort_sorted
sorts_after Hashed t = t.sort_hashed

-- what the node that groups costs over an input of this total
abbrev pub group_cost : Form → GroupTask → ℕ → ℕ
group_cost f t input = grouped_cost input t.rows (row_tests f (length t.distinct.items) t.calls) (groups_of t)

-- what a form of grouping costs over an input of this total, with a sort of the groups on top, where there is one
abbrev pub group_total : Form → GroupTask → ℕ → ℕ
group_total f t input = whole_cost (sorts_after f t) (group_cost f t input) (groups_of t)
