use Rattle.std.proofs.Common.{◌≡◌, ◌≤◌, ◌+◌, drop, sum}
use Rattle.cost_rules.specs.declared.parameters.TheConstants.{MOST_COST}
use Rattle.cost_rules.specs.work.Costs.{capped}
use Rattle.plan_tree.specs.work.Costable.{AreCostableTrees}
use Rattle.plan_tree.specs.Costs.{parts_of_all}
use Rattle.plan_tree.specs.work.Views.{bits_all}
use Rattle.plan_tree.proofs.pricing.+parts.Given as goal

-- the parts that are left, with the sum so far, give that of all
abbrev pub invariant-trees_part-loop-tree : goal.invariant-trees_part-loop-tree
invariant-trees_part-loop-tree l =
    let rest = bits_all (drop l.tree-index l.trees) in
    record {
      most : l.sum ≤ MOST_COST;
      total : capped (l.sum + sum (parts_of_all l.cat l.q l.r l.p rest)) ≡ capped (sum (parts_of_all l.cat l.q l.r l.p (bits_all l.trees)));
      left : AreCostableTrees l.cat l.q l.r.0 rest;
    }
