use Rattle.std.proofs.Common.{◌≡◌, Some, drop, length, map, take}
use Rattle.catalog.proofs.sizes.put_each.Given as goal

abbrev pub invariant-columns : goal.invariant-columns
invariant-columns l = record {
  left : l.left.items ≡ take (length l.left.items) l.fn.columns.items;
  long : length l.stats.items ≡ length l.fn.columns.items;
  put : drop (length l.left.items) l.stats.items ≡ map Some (drop (length l.left.items) l.fn.columns.items);
}

abbrev pub decreases-columns : goal.decreases-columns
decreases-columns l = length l.left.items
