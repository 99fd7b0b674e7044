-- The entries by which candidates are reported. Own.
use Rattle.std.specs.Prelude.{◌≡◌, ◌/◌, ◌%◌, ℕ, cond, nat_eq, List, [], ◌∷◌, length, take, drop, Some}
use Rattle.pg_base.specs.Sets.{has}
use Rattle.pg_base.specs.declared.numbers.IndexNo.{IndexNo}
use Rattle.pg_base.specs.declared.rel_set.RelSet.{RelSet}
use Rattle.catalog.specs.Contents.{Contents}
use Rattle.index_match.specs.Arms.{arms_of}
use Rattle.sql_query.specs.Queries.{Query, width}
use Rattle.pathkeys.specs.Keys.{Keys}
use Rattle.plan_tree.specs.Bitmaps.{Element, by_clause, by_index, condition_at}
use Rattle.plan_tree.specs.Keys.{keys_of}
use Rattle.plan_tree.specs.Plans.{BitTree, Plan, leaf, param_of, set_of, some_arm}
use Rattle.plan_tree.specs.Space.{IsBuilt, IsSameSet}
use Rattle.plan_check.specs.Certificates.{Certificate, Entry, Node, plan_by, plans_of}
use Rattle.plan_check.specs.work.Views.{node as seen}
use Rattle.plan_check.specs.Plains.{StandsForPlan}
use Rattle.plan_check.specs.declared.verdict.Plain.{Plain}
use Rattle.check_reply.specs.declared.shape.Shape.{Shape}

-- what an entry says beside its numbers is what a plan is, and over the entries of a certificate it stands for that plan
pub record Tells (c : Contents) (q : Query) (t : Certificate) (set param : RelSet) (node : Node) (keys : Keys) (p : Plan) : Type 0 where
  pub unfolds : plan_by (width q) (plans_of q t) set param node ≡ Some p
  pub set_is : IsSameSet (set_of p) (has set.0)
  pub param_is : IsSameSet (param_of p) (has param.0)
  pub keys_are : keys ≡ keys_of c q p

-- what an entry says beside its numbers is what each plan of the space is that a candidate stands for
abbrev pub IsShapeOf : Contents → Query → Certificate → Plain → Shape → Type 0
IsShapeOf c q t node s = (p : Plan) → StandsForPlan c q t node p → IsBuilt c q p → Tells c q t s.set s.param (seen s.node) s.keys p

-- an entry of these parts
abbrev pub entry_with : RelSet → RelSet → Node → Keys → ℕ → ℕ → ℕ → Entry
entry_with set param node keys startup total rows = record { set = set; param = param; node = node; startup = startup; cost = total; rows = rows; keys = keys }

-- how many indexes the arms of an element take
abbrev pub arms_taken : Query → Element → ℕ
arms_taken q (by_index i) = 0
arms_taken q (by_clause n) = length (arms_of (condition_at q n))

-- the tree of an element with these indexes for its arms
abbrev pub tree_by : Element → List IndexNo → BitTree
tree_by (by_index i) is = leaf i
tree_by (by_clause n) is = some_arm n is

-- the trees of the elements that the binary digits of a number mark, the lowest digit the first element, with the indexes
-- of all their arms in order
abbrev pub trees_by : Query → ℕ → List Element → List IndexNo → List BitTree
trees_by q n [] is = []
trees_by q n (e ∷ es) is =
    cond (nat_eq (n % 2) 1) (tree_by e (take (arms_taken q e) is) ∷ trees_by q (n / 2) es (drop (arms_taken q e) is)) (trees_by q (n / 2) es is)
