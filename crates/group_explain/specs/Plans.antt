-- The plan by which a grouped query is answered, and its EXPLAIN. Own.
use Rattle.std.specs.Prelude.{◌≡◌, ℕ, List}
use Rattle.catalog.specs.Contents.{Contents}
use Rattle.sql_query.specs.Grouped.{GroupedQuery}
use Rattle.plan_tree.specs.Plans.{Plan}
use Rattle.group_values.specs.declared.form.Form.{Form}
use Rattle.group_explain.specs.GroupPlans.{IsGroupPlan, IsLeastOf}
use Rattle.reply.specs.Effort.{exactly}
use Rattle.reply.specs.Replies.{Reply}
use Rattle.group_explain.specs.Texts.{group_plan_text, group_query}

-- the text of a plan that groups, with its own cost, which no plan that groups undercuts
pub record IsGroupExplanation (c : Contents) (g : GroupedQuery) (form : Form) (plan : Plan) (bytes : List ℕ) : Type 0 where
  pub least : IsLeastOf c (group_query g) form plan
  pub printed : bytes ≡ group_plan_text c g form plan

-- EXPLAIN of a grouped SELECT: the text of a least plan that groups, with nothing fetched and nothing looked at
pub record IsGroupedExplanationOf (c : Contents) (g : GroupedQuery) (r : Reply) : Type 0 where
  pub form : Form
  pub plan : Plan
  pub explanation : IsGroupExplanation c g form plan r.bytes
  pub fetched : r.fetched ≡ exactly 0
  pub looked : r.looked ≡ 0

-- no plan that groups the tuples of the query costs less than 10^18
abbrev pub HasNoGroupPlan : Contents → GroupedQuery → Type 0
HasNoGroupPlan c g = (form : Form) (p : Plan) → ¬ IsGroupPlan c (group_query g) form p
