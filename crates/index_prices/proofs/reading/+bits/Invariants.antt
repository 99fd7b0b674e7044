use Rattle.std.proofs.Common.{◌≡◌, drop}
use Rattle.plan_laws.specs.work.Fewer.{some_reads}
use Rattle.plan_tree.specs.work.Views.{bits_all}
use Rattle.index_prices.proofs.reading.+bits.Given as goal

abbrev pub invariant-some_reads-loop-tree : goal.invariant-some_reads-loop-tree
invariant-some_reads-loop-tree l = some_reads (bits_all (drop l.tree-index l.trees)) l.i ≡ some_reads (bits_all l.trees) l.i
