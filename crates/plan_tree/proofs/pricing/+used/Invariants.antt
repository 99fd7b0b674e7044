use Rattle.std.proofs.Common.{◌≡◌, ◌||◌, ◌&&◌, ℕ, nat_lt, length, drop}
use Rattle.pg_base.specs.Sets.{has}
use Rattle.pg_expr.specs.work.AtomSets.{contains}
use Rattle.plan_tree.specs.Bitmaps.{some_uses}
use Rattle.plan_tree.specs.work.Costable.{AreCostableTrees}
use Rattle.plan_tree.specs.work.Views.{bits_all}
use Rattle.plan_tree.proofs.pricing.+used.Given as goal

-- the clauses that the trees left use, with those so far, are those of all
abbrev pub invariant-use_trees-loop-tree : goal.invariant-use_trees-loop-tree
invariant-use_trees-loop-tree l =
    let rest = bits_all (drop l.tree-index l.trees) in
    record {
      used : (k : ℕ) → contains l.used k || (nat_lt k (length l.q.classes.clauses) && some_uses l.cat l.q l.r.0 (has l.p.0) rest k) ≡
          contains l.fn.used k || (nat_lt k (length l.q.classes.clauses) && some_uses l.cat l.q l.r.0 (has l.p.0) (bits_all l.trees) k);
      left : AreCostableTrees l.cat l.q l.r.0 rest;
    }
