use Rattle.std.proofs.Common.{drop}
use Rattle.plan_tree.specs.work.Views.{bits_all}
use Rattle.scan_exec.specs.work.Held.{AreHeldTrees}
use Rattle.scan_exec.specs.work.Scene.{tuple_of, world_of}
use Rattle.scan_exec.proofs.SetLemmas.{IsMeeting}
use Rattle.scan_exec.proofs.bitmap.+hold.Given as goal

abbrev pub invariant-hold_all-loop-n : goal.invariant-hold_all-loop-n
invariant-hold_all-loop-n g l =
    let rest = bits_all (drop l.n l.trees) in
    record {
      meeting : IsMeeting (world_of l.at) l.at.q.now l.at.rel l.at.param (tuple_of l.at) (bits_all l.trees) rest l.held l.fn.reads l.reads;
      left : AreHeldTrees l.at.cat.now l.at.q.now l.at.rel l.at.param rest;
    }
