-- The queries that statements ask, and what is measured of them. Own.
use Rattle.std.specs.Prelude.{List, [], ◌∷◌, Option, Some, None}
use Rattle.std.specs.List.{cons_option}
use Rattle.store.specs.Actions.{Action, after, answer}
use Rattle.sql_query.specs.Queries.{Query}
use Rattle.sql_query.specs.Worlds.{World}
use Rattle.statements.specs.Scripts.{Worked}

-- a query, and the world in which it is asked
pub record Asking : Type 0 where
  pub world : World
  pub query : Query

-- what a statement asks: SELECT its query, where it does not group; EXPLAIN and all others nothing
abbrev pub asked_in : World → Action → Option Asking
asked_in w (answer q) = Some (record { world = w; query = q })
asked_in w _ = None

-- the queries that statements ask one after another, each in the world that the ones before it leave
abbrev pub askings : World → List Worked → List Asking
askings w [] = []
askings w (s ∷ ss) = cons_option (asked_in w s.action) (askings (after w s.action) ss)
