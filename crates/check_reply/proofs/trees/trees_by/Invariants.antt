use Rattle.std.proofs.Common.{drop, map}
use Rattle.plan_tree.specs.work.Views.{bits, element}
use Rattle.check_reply.proofs.TreeLemmas.{IsMadeSo}
use Rattle.check_reply.proofs.trees.trees_by.Given as goal

abbrev pub invariant-loop-n : goal.invariant-loop-n
invariant-loop-n l = IsMadeSo l.q l.mask (map element l.elements) l.indexes (map bits l.trees.items) l.left (map element (drop l.n l.elements)) l.rest
