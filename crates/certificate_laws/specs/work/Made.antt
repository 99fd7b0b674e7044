-- Paths that are made of plans that stand before them in a list. Own.
use Rattle.std.specs.Prelude.{◌≡◌, ◌<◌, ℕ, List, Contains, Some, get_or, length, map, take}
use Rattle.pathkeys.specs.Keys.{Keys}
use Rattle.plan_tree.specs.Plans.{Plan, seq, index, index_only, bitmap, sort, nest, merge}
use Rattle.plan_tree.specs.work.Paths.{Path}
use Rattle.plan_check.specs.Certificates.{relation_in}

-- the plan of a path, without the numbers by which it is compared
abbrev pub tree_of : Path → Plan
tree_of x = x.tree

-- the plan itself, or what it sorts by the list, is one of some
abbrev pub IsSideAmong : List Plan → Keys → Plan → Type 0
IsSideAmong plans keys (sort ks input) = (ks ≡ keys) × Contains plans input
IsSideAmong plans keys t = Contains plans t

-- a scan of the only relation of a path's set, of n relations, that is given the rows of its parameterisation; or a join
-- whose sides are plans of some
abbrev pub IsMadeAmong : ℕ → List Plan → Path → Plan → Type 0
IsMadeAmong n plans x (seq r) = relation_in n x.set ≡ Some r
IsMadeAmong n plans x (index r i backward p) = (relation_in n x.set ≡ Some r) × (p ≡ x.param)
IsMadeAmong n plans x (index_only r i backward p) = (relation_in n x.set ≡ Some r) × (p ≡ x.param)
IsMadeAmong n plans x (bitmap r p bits) = (relation_in n x.set ≡ Some r) × (p ≡ x.param)
IsMadeAmong n plans x (sort keys input) = ⊥
IsMadeAmong n plans x (nest outer inner) = Contains plans outer × Contains plans inner
IsMadeAmong n plans x (merge keys outer inner) = IsSideAmong plans keys outer × IsSideAmong plans keys inner

-- each path of a list is made so among those before it
abbrev pub AreMadeInTurn : ℕ → List Path → Type 0
AreMadeInTurn n paths = (k : ℕ) (d : Path) → k < length paths → IsMadeAmong n (map tree_of (take k paths)) (get_or paths k d) (get_or paths k d).tree
