-- A finished plan's run is in the order of ORDER BY.
use Rattle.sql_query.specs.Meaning.{IsOrdered}
use Rattle.sql_query.specs.Queries.{Query, all_of_query}
use Rattle.sql_query.specs.Tuples.{Tuple, no_rows}
use Rattle.sql_query.specs.WellBound.{IsWellBound}
use Rattle.sql_query.specs.Worlds.{World, IsWorld}
use Rattle.plan_tree.specs.Plans.{Plan}
use Rattle.plan_tree.specs.Run.{run}
use Rattle.plan_tree.specs.Space.{IsFinished}
use Rattle.plan_laws.proofs.GivingLemmas.{finished_means}
use Rattle.plan_laws.proofs.JoinLemmas.{each_meant}
use Rattle.plan_laws.proofs.ItemLemmas.{items_follow}
use Rattle.plan_laws.proofs.OrderedLemmas.{each_pair_up}
use Rattle.plan_laws.proofs.PrefixLemmas.{finished_up}
use Rattle.plan_laws.proofs.SortedLemmas.{up_by_keys}

pub finished_is_ordered : (w : World) (q : Query) (p : Plan) → IsWorld w → IsWellBound w.contents q → IsFinished w.contents q p → IsOrdered w q (run w q p (no_rows q))
finished_is_ordered w q p world bound is =
    let o : Tuple = no_rows q in
    each_pair_up w q (items_follow w q world bound) (run w q p o)
    (each_meant w q world bound (all_of_query q) (run w q p o) (finished_means w q world bound p is o))
    (finished_up w q p is (run w q p o) (up_by_keys w q world bound p is.built o))
