use Rattle.std.proofs.Common.{drop}
use Rattle.eq_classes.specs.Clauses.{Set}
use Rattle.plan_tree.specs.Bitmaps.{HaveArms}
use Rattle.plan_tree.specs.work.Views.{bits_all}
use Rattle.plan_space.proofs.trees.have_arms.Given as goal

-- where the trees left are such, all are
abbrev pub invariant-loop-tree : goal.invariant-loop-tree
invariant-loop-tree l = (p : Set) → HaveArms l.cat l.q l.r.0 p (bits_all (drop l.tree-index l.trees)) → HaveArms l.cat l.q l.r.0 p (bits_all l.trees)
