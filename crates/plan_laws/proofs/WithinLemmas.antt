-- The relations that a plan reads are those of the query.
use Rattle.std.proofs.lemmas.Bool.{lt-ltb}
use Rattle.plan_tree.specs.catalog_Contents.{Contents}
use Rattle.plan_tree.specs.eq_classes_Holding.{IsWithin}
use Rattle.plan_tree.specs.sql_query_Queries.{Query, all_of_query, width}
use Rattle.plan_tree.specs.Plans.{Plan, set_of}
use Rattle.plan_tree.specs.Space.{IsBuilt}
use Rattle.plan_tree.proofs.PathLemmas.{built-below}
use Rattle.plan_tree.proofs.GivenLemmas.{read-below}

pub built-within : (c : Contents) (q : Query) (t : Plan) → IsBuilt c q t → IsWithin (set_of t) (all_of_query q)
built-within c q t built k e = lt-ltb k (width q) (read-below (width q) t k (built-below c q t built) e)
