use Rattle.std.proofs.Common.{List, drop, map, ◌++◌}
use Rattle.pg_base.specs.Sets.{has}
use Rattle.plan_tree.specs.Bitmaps.{Element, IsElement, by_index}
use Rattle.plan_tree.specs.work.Gathering.{Gathered}
use Rattle.plan_tree.proofs.elements.Elements.add_indexes.Given as goal

abbrev pub invariant-loop-i : goal.invariant-loop-i
invariant-loop-i l = (all rest : List Element) → Gathered (IsElement l.fn.cat l.fn.q l.fn.r.0 (has l.fn.p.0)) all (map by_index l.i-items ++ rest) l.fn.self →
    Gathered (IsElement l.fn.cat l.fn.q l.fn.r.0 (has l.fn.p.0)) all (map by_index (drop l.i-index l.i-items) ++ rest) l.self
