use Rattle.std.proofs.Common.{◌≤◌, ◌<◌, ◌+◌, ℕ, length}
use Rattle.catalog.specs.Contents.{indexes_of}
use Rattle.plan_laws.specs.work.Fewer.{or_clauses}
use Rattle.plan_tree.specs.Bitmaps.{MOST_ELEMENTS, table_of_relation}
use Rattle.index_prices.proofs.room.has_room.Given as goal

abbrev pub invariant-loop-rel : goal.invariant-loop-rel
invariant-loop-rel l = (r : ℕ) → r < l.rel-index → length (indexes_of l.cat (table_of_relation l.q r)) + length (or_clauses l.q) ≤ MOST_ELEMENTS
