-- The least plan that groups.
use Rattle.std.specs.Prelude.{◌≡◌, ℕ, ◌<◌, ◌≤◌, ◌&&◌, true, cond, nat_lt, Option, None, Some}
use Rattle.cost_rules.specs.declared.parameters.TheConstants.{MOST_COST}
use Rattle.group_values.specs.declared.form.Form.{Form}
use Rattle.group_values.specs.declared.form.Form.TheVariants.{Sorted, Hashed}
use Rattle.group_values.specs.declared.task.GroupPlan.{GroupPlan}
use Rattle.group_values.specs.declared.task.GroupTask.{GroupTask}
use Rattle.group_values.specs.work.GroupCosts.{group_total, groups_of, is_offered, sorts_after}

-- the input of a form, of one in no order and one in the order of the group keys
abbrev pub input_of : {X : Type 0} → Form → Option X → Option X → Option X
input_of Sorted plain sorted = sorted
input_of Hashed plain sorted = plain

-- no less than the least total of some inputs, which is none where each costs 10^18 or more
abbrev pub IsNoLess : Option ℕ → ℕ → Type 0
IsNoLess None n = MOST_COST ≤ n
IsNoLess (Some least) n = least ≤ n

-- a plan that groups one of two inputs, with its cost and its groups
pub record IsPlanOver (t : GroupTask) (plain sorted : Option ℕ) (p : GroupPlan) : Type 0 where
  pub input : ℕ
  pub over : input_of p.form plain sorted ≡ Some input
  pub offered : is_offered p.form t ≡ true
  pub cost : p.cost ≡ group_total p.form t input
  pub admissible : p.cost < MOST_COST
  pub sort_after : p.sort_after ≡ sorts_after p.form t
  pub rows : p.rows ≡ groups_of t

-- there is a plan, and it costs no more than this
abbrev pub HasAtMost : Option GroupPlan → ℕ → Type 0
HasAtMost None n = ⊥
HasAtMost (Some p) n = p.cost ≤ n

-- the plan of a form over an input of this total, whether it may be taken or not
abbrev pub plan_of : Form → GroupTask → ℕ → GroupPlan
plan_of f t input = record { form = f; sort_after = sorts_after f t; cost = group_total f t input; rows = groups_of t }

-- the plan of a form over an input, where it may be taken
abbrev pub candidate : Form → GroupTask → Option ℕ → Option GroupPlan
candidate f t None = None
candidate f t (Some input) = cond (is_offered f t && nat_lt (group_total f t input) MOST_COST) (Some (plan_of f t input)) None

-- the one of two plans that costs less, the former where they cost the same
abbrev pub lesser : Option GroupPlan → Option GroupPlan → Option GroupPlan
lesser None b = b
lesser (Some p) None = Some p
lesser (Some p) (Some q) = cond (nat_lt q.cost p.cost) (Some q) (Some p)
