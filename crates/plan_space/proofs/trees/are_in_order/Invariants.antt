use Rattle.std.proofs.Common.{ℕ, ◌≤◌, ◌↔◌, drop, map, length}
use Rattle.catalog.specs.Contents.{Contents}
use Rattle.eq_classes.specs.Clauses.{Set}
use Rattle.sql_query.specs.Queries.{Query}
use Rattle.plan_tree.specs.Bitmaps.{elements_of}
use Rattle.plan_space.specs.work.Ordered.{AreInOrder}
use Rattle.plan_tree.specs.work.Views.{bits_all, element}
use Rattle.plan_space.proofs.trees.are_in_order.Given as goal

-- the trees are in order where those from the place on are so among the elements left
abbrev pub invariant-loop-e : goal.invariant-loop-e
invariant-loop-e l = record {
  within : l.at ≤ length l.trees;
  order : (c : Contents) (q : Query) (r : ℕ) (p : Set) → AreInOrder (elements_of c q r p (bits_all l.trees)) (map element l.found) ↔ AreInOrder (elements_of c q r p (bits_all (drop l.at l.trees))) (map element (drop l.e-index l.found));
}
