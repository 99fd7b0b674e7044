use Rattle.std.proofs.Common.{List, drop, ◌||◌}
use Rattle.pg_base.specs.Sets.{has}
use Rattle.eq_classes.specs.Parts.{is_base, is_param}
use Rattle.plan_tree.specs.Bitmaps.{Element, IsElement}
use Rattle.plan_tree.specs.work.Gathering.{Gathered}
use Rattle.plan_tree.proofs.GatherLemmas.{clauses-left}
use Rattle.plan_tree.proofs.elements.Elements.add_clauses.Given as goal

abbrev pub invariant-loop-n : goal.invariant-loop-n
invariant-loop-n l = (all : List Element) → Gathered (IsElement l.fn.cat l.fn.q l.fn.r.0 (has l.fn.p.0)) all (clauses-left (λ k. is_base l.fn.r.0 k || is_param l.fn.r.0 (has l.fn.p.0) k) 0 l.fn.q.classes.clauses) l.fn.self →
    Gathered (IsElement l.fn.cat l.fn.q l.fn.r.0 (has l.fn.p.0)) all (clauses-left (λ k. is_base l.fn.r.0 k || is_param l.fn.r.0 (has l.fn.p.0) k) l.n (drop l.n l.fn.q.classes.clauses)) l.self
