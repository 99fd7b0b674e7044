use Rattle.std.proofs.Common.{refl}
use Rattle.plan_tree.specs.work.Views.{bits_all}
use Rattle.scan_exec.specs.work.Scene.{tuple_of, world_of}
use Rattle.scan_exec.proofs.SetLemmas.{met_first, met_next, trees_behind, trees_met}
use Rattle.scan_exec.proofs.bitmap.+hold.Goals as goal

pub hold_all-loop-n-init : goal.hold_all-loop-n-init
hold_all-loop-n-init g t c =
    let s = c.args.at.now in
    record {
      meeting = met_first (world_of s) s.q.now s.rel s.param (tuple_of s) c.args.trees.now 0 c.requires.some c.index-trees-0.result c.index-trees-0.is c.in_ok-held.held c.args.reads.now c.hold.new.reads refl c.in_ok-held.ensures.held c.hold.ensures.most;
      left = trees_behind (world_of s) s.q.now s.rel s.param (tuple_of s) c.args.trees.now 0 c.requires.some c.index-trees-0.result c.index-trees-0.is c.requires.trees;
    }

pub hold_all-loop-n-preserved : goal.hold_all-loop-n-preserved
hold_all-loop-n-preserved g t c =
    let s = c.args.at.now in
    record {
      meeting = met_next (world_of s) s.q.now s.rel s.param (tuple_of s) c.args.trees.now c.loop-n.n c.loop-n-test.true c.index-trees-n.result c.index-trees-n.is (bits_all c.args.trees.now) c.loop-n.held c.and.new.self c.in_ok-other.other c.args.reads.now c.loop-n.reads c.hold-in-loop-n.new.reads
          c.loop-n.invariant.meeting c.in_ok-other.ensures.held c.and.ensures c.hold-in-loop-n.ensures.most;
      left = trees_behind (world_of s) s.q.now s.rel s.param (tuple_of s) c.args.trees.now c.loop-n.n c.loop-n-test.true c.index-trees-n.result c.index-trees-n.is c.loop-n.invariant.left;
    }

pub hold_all-returns-clause-held : goal.hold_all-returns-clause-held
hold_all-returns-clause-held g t c =
    let s = c.args.at.now in
    trees_met (world_of s) s.q.now s.rel s.param (tuple_of s) c.args.trees.now c.loop-n.n c.loop-n-test.false c.loop-n.held c.args.reads.now c.loop-n.reads c.loop-n.invariant.meeting
