-- Which plans have a text, and what the line of a node needs. Own.
use Rattle.std.specs.Prelude.{◌<◌, ◌⊎◌, [], length, All}
use Rattle.catalog.specs.Contents.{Contents, IsIndex}
use Rattle.sql_query.specs.Queries.{Query}
use Rattle.pathkeys.specs.Keys.{Keys}
use Rattle.plan_tree.specs.Plans.{Plan, seq, index, index_only, bitmap, sort, nest, merge, BitTree, leaf, all_hold, some_arm, BitTrees, no_trees, tree_and, set_of, param_of}
use Rattle.plan_tree.specs.work.Costable.{IsCostable}
use Rattle.plan_tree.specs.Least.{IsAdmissible}
use Rattle.plan_tree.specs.Space.{IsFinished, IsPlanOf}

-- a plan of the space for its set and parameterisation, or a finished one, which may have a sort on top
abbrev pub IsShown : Contents → Query → Plan → Type 0
IsShown c q p = IsPlanOf c q (set_of p) (param_of p) p ⊎ IsFinished c q p

-- the indexes of a bitmap tree are of the catalogue
abbrev mutual
  pub HasIndexes : Contents → BitTree → Type 0
  HasIndexes c (leaf i) = IsIndex c i
  HasIndexes c (all_hold bs) = HaveIndexes c bs
  HasIndexes c (some_arm n is) = All (IsIndex c) is

  pub HaveIndexes : Contents → BitTrees → Type 0
  HaveIndexes c no_trees = Unit {0}
  HaveIndexes c (tree_and b bs) = HasIndexes c b × HaveIndexes c bs

-- the key list of a node
abbrev pub keys_in : Plan → Keys
keys_in (sort keys input) = keys
keys_in (merge keys outer inner) = keys
keys_in _ = []

-- a node of a plan that has a cost below the limit, and whose keys are classes of the query
pub record HasLine (c : Contents) (q : Query) (p : Plan) : Type 0 where
  pub costable : IsCostable c q p
  pub admissible : IsAdmissible c q p
  pub classes : All (λ n. n < length q.classes.classes) (keys_in p)

-- each node of a plan is such a one
abbrev pub HasLines : Contents → Query → Plan → Type 0
HasLines c q (seq r) = HasLine c q (seq r)
HasLines c q (index r i backward p) = HasLine c q (index r i backward p)
HasLines c q (index_only r i backward p) = HasLine c q (index_only r i backward p)
HasLines c q (bitmap r p bits) = HasLine c q (bitmap r p bits)
HasLines c q (sort keys input) = HasLine c q (sort keys input) × HasLines c q input
HasLines c q (nest outer inner) = HasLine c q (nest outer inner) × HasLines c q outer × HasLines c q inner
HasLines c q (merge keys outer inner) = HasLine c q (merge keys outer inner) × HasLines c q outer × HasLines c q inner
