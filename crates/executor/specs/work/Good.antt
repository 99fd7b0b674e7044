-- A plan of all relations of a query over its store, that is drawn from. Own.
use Rattle.std.specs.Prelude.{◌≡◌}
use Rattle.sql_query.specs.Queries.{all_of_query}
use Rattle.executor.specs.work.EState.{IsOverStore, world_of}
use Rattle.executor.specs.work.Node.{IsSource, source_set}
use Rattle.executor.specs.declared.estate.EState.{EState}
use Rattle.executor.specs.declared.node.Node.{Node}
use Rattle.executor.specs.declared.scanning.Scanning.{Scanning}
use Rattle.executor.specs.declared.source.Source.{Source}
use Rattle.executor.specs.declared.probe.Probe.{Probe}

pub record IsReady {C F L : Type 0} (at : EState C F L) (s : Source (Node (Scanning C F L) (Probe C F L))) : Type 0 where
  pub over : IsOverStore at
  pub good : IsSource (world_of at) at.q.now s
  pub whole : source_set s ≡ all_of_query at.q.now
