use Rattle.std.proofs.Common.{map, drop}
use Rattle.std.specs.List.{AllZip}
use Rattle.pg_expr.specs.work.View.{cond}
use Rattle.plan_tree.specs.Bitmaps.{MatchesArm}
use Rattle.plan_space.proofs.trees.all_match.Given as goal

-- where the arms left are matched, all are
abbrev pub invariant-loop-n : goal.invariant-loop-n
invariant-loop-n l =
    let matches = MatchesArm l.cat l.q l.r.0 in
    AllZip matches (map cond (drop l.n l.arms)) (drop l.n l.indexes) → AllZip matches (map cond l.arms) l.indexes
