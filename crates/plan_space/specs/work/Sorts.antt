-- The lists of sorts. Own.
use Rattle.std.specs.Prelude.{Option, Some, None}
use Rattle.pathkeys.specs.Keys.{Keys}
use Rattle.plan_tree.specs.Plans.{Plan, sort}

-- the list by which a plan sorts, where it is a sort
abbrev pub sort_list : Plan → Option Keys
sort_list (sort keys input) = Some keys
sort_list _ = None
