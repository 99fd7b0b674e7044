-- The plans of paths that are lent, as a table's entries stand for them. Own.
use Rattle.std.specs.Prelude.{◌≡◌, ℕ, List, map, take, Option, Some}
use Rattle.std.specs.Borrow.{Bor}
use Rattle.sql_query.specs.Queries.{Query, width}
use Rattle.plan_tree.specs.work.Paths.{Path}
use Rattle.plan_tree.specs.Plans.{Plan, sort}
use Rattle.plan_tree.specs.work.Views.{plan}
use Rattle.plan_tree.specs.declared.path.Path.{Path as Costed}
use Rattle.plan_check.specs.Certificates.{Certificate, finish_at}
use Rattle.certificate_laws.specs.work.Made.{IsMadeAmong}

-- the plans of paths that are lent
abbrev pub trees : List (Bor Costed) → List Plan
trees xs = map (λ (x : Bor Costed). plan x.now.plan) xs

-- each of some plans is there
abbrev pub present : List Plan → List (Option Plan)
present ts = map (λ t. Some t) ts

-- a plan without the sort on its top
abbrev pub without_sort : Plan → Plan
without_sort (sort keys input) = input
without_sort t = t

-- the plans of the first so many of paths that are lent
abbrev pub trees_before : ℕ → List (Bor Costed) → List Plan
trees_before n xs = take n (trees xs)

-- the plans of the first n of paths that are lent, each of them there
abbrev pub present_before : ℕ → List (Bor Costed) → List (Option Plan)
present_before n xs = present (take n (trees xs))

-- a path is made from them
abbrev pub IsMadeBefore : Query → ℕ → List (Bor Costed) → Path → Type 0
IsMadeBefore q n xs p = IsMadeAmong (width q) (take n (trees xs)) p p.tree

-- the best entry of a table stands for this plan
abbrev pub HasBestEntryFor : Query → Certificate → Plan → Type 0
HasBestEntryFor q t p = finish_at q t t.best ≡ Some p
