use Rattle.std.proofs.Common.{map, take}
use Rattle.plan_tree.specs.work.Views.{path}
use Rattle.scan_paths.specs.work.Scans.{AreIndexesServed, TakesScans}
use Rattle.scan_paths.proofs.relation_scans.offer_by_each.Given as goal

-- the scans by the indexes so far were offered
abbrev pub invariant-loop-x : goal.invariant-loop-x
invariant-loop-x l = record {
  takes : TakesScans l.cat l.q l.at.rel l.at.param (map path l.fn.front) (map path l.front);
  served : AreIndexesServed l.cat l.q l.at.rel l.at.param (map path l.front) (take l.x-index l.indexes);
}
