-- The matching index of least part for an arm of an OR clause, where the rows of a parameterisation are given
-- (PostgreSQL, src/backend/optimizer/path/indxpath.c, generate_bitmap_or_paths; the least part is own).
use Rattle.std.specs.Prelude.{◌≡◌, ◌≤◌, ℕ, List, cond, nat_le, Option, Some, None, All, map}
use Rattle.std.specs.List.{AllZip}
use Rattle.pg_base.specs.declared.numbers.IndexNo.{IndexNo}
use Rattle.pg_base.specs.declared.numbers.RelNo.{RelNo}
use Rattle.pg_base.specs.declared.rel_set.RelSet.{RelSet}
use Rattle.pg_base.specs.Sets.{has}
use Rattle.pg_expr.specs.Cond.{Cond}
use Rattle.pg_expr.specs.work.View as view
use Rattle.catalog.specs.Contents.{Contents, index_at}
use Rattle.sql_query.specs.Queries.{Query}
use Rattle.cost_rules.specs.work.Costs.{capped}
use Rattle.index_match.specs.Arms.{arm_bounds, arm_parts}
use Rattle.index_match.specs.Numbered.{has_number}
use Rattle.path_cost.specs.Costs.{arm_part}
use Rattle.plan_tree.specs.Bitmaps.{MatchesArm}
use Rattle.plan_tree.specs.Costs.{parts_of_arms, together}
use Rattle.pg_expr.specs.declared.expr.Expr.{Expr}

-- the lesser one by the number, the first where they tie
abbrev pub lesser : Option (IndexNo × ℕ) → IndexNo → ℕ → Option (IndexNo × ℕ)
lesser None i n = Some (i, n)
lesser (Some b) i n = cond (nat_le b.1 n) (Some b) (Some (i, n))

-- each of some arms is matched by some index
abbrev pub AreArmsMatched : Contents → Query → RelNo → List Expr → Type 0
AreArmsMatched c q r es = All (λ (e : Expr). (i : IndexNo) × MatchesArm c q r.0 (view.cond e) i) es

module _ (c : Contents) (q : Query) (r : RelNo) (p : RelSet) where
  -- the part of an index that serves an arm, where the rows of the parameterisation are given
  abbrev pub part_for : Cond → IndexNo → ℕ
  part_for arm i = arm_part c q.range q.classes i r.0 (has p.0) (arm_parts arm) (has_number (arm_bounds (index_at c i) r.0 arm))

  -- an index matches an arm, and its part, once cut, is not above that of any other that does
  pub record IsLeastMatch (arm : Cond) (i : IndexNo) : Type 0 where
    pub matches : MatchesArm c q r.0 arm i
    pub least : (j : IndexNo) → MatchesArm c q r.0 arm j → capped (part_for arm i) ≤ capped (part_for arm j)

  -- each arm has a matching index of least part, and these are their parts together, once cut
  pub record AreServed (arms : List Cond) (is : List IndexNo) (n : ℕ) : Type 0 where
    pub least : AllZip IsLeastMatch arms is
    pub part : n ≡ capped (together (parts_of_arms c q r p arms is))

  -- each of some expressions as an arm has a matching index of least part, and these are their parts together, once cut
  abbrev pub AreArmsServed : List Expr → List IndexNo → ℕ → Type 0
  AreArmsServed es is n = AreServed (map view.cond es) is n
