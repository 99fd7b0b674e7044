-- What a plan of one scan comes to where it gets the numbers of the rows that it is given. Own.
use Rattle.std.specs.Prelude.{ℕ, List}
use Rattle.pg_base.specs.Sets.{has}
use Rattle.pg_base.specs.declared.numbers.Tid.{Tid}
use Rattle.heap.specs.work.Tuples.{padded}
use Rattle.sql_query.specs.Queries.{Query, width}
use Rattle.sql_query.specs.Tuples.{Tuple}
use Rattle.sql_query.specs.Worlds.{World}
use Rattle.plan_tree.specs.Counts as counts
use Rattle.plan_tree.specs.Plans.{Plan}
use Rattle.plan_tree.specs.Run.{run}
use Rattle.scan_probes.specs.work.Scenes.{AreRowsOf}
use Rattle.scan_exec.specs.Coming.{Coming, coming}
use Rattle.scan_exec.specs.work.Plans.{param_set}

-- the rows that the plan is given, as a tuple with a place for each relation of the query
abbrev pub handed_tuple : Query → Plan → List Tid → Tuple
handed_tuple q p rows = padded (width q) (has (param_set p).0) rows

module _ (w : World) (q : Query) (p : Plan) (rows : List Tid) where
  -- the numbers are those of rows of the relations that the plan is given rows of
  abbrev pub AreHanded : Type 0
  AreHanded = AreRowsOf w q (param_set p) rows

  -- the rows that it comes to
  abbrev pub handed_coming : List Coming
  handed_coming = coming w q p (handed_tuple q p rows)

  -- the tuples that it gives
  abbrev pub handed_run : List Tuple
  handed_run = run w q p (handed_tuple q p rows)

  -- the rows that it fetches
  abbrev pub handed_fetches : ℕ
  handed_fetches = counts.fetches w q p (handed_tuple q p rows)

  -- the looks that it may take
  abbrev pub handed_looks : ℕ
  handed_looks = counts.looks w q p (handed_tuple q p rows)
