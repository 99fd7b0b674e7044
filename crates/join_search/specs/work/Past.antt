-- Parts of a set whose joins are not wanted. Own.
use Rattle.std.specs.Prelude.{◌⊎◌, List}
use Rattle.pg_base.specs.declared.rel_set.RelSet.{RelSet}
use Rattle.catalog.specs.Contents.{Contents}
use Rattle.sql_query.specs.Queries.{Query}
use Rattle.plan_tree.specs.work.Paths.{Path}
use Rattle.join_search.specs.work.Tables.{Fronts}
use Rattle.join_search.specs.work.Splits.{HasBareRest, IsDivided}
use Rattle.join_search.specs.work.Offers.{AreJoinsServed}
use Rattle.join_search.specs.declared.useful.Asked.{Asked}

-- where a part of a set is one side, the other one has no paths, or no join of them is below the limit
abbrev pub HasNoJoins : Contents → Query → Asked → Fronts → RelSet → RelSet → Type 0
HasNoJoins c q asked fronts set part = HasBareRest fronts set part ⊎ ((front : List Path) (b : RelSet) → IsDivided set part b → AreJoinsServed c q asked fronts front part b)
