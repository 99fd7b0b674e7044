use Rattle.std.proofs.Common.{◌∙◌, ap, map, refl}
use Rattle.std.proofs.lemmas.List.Elements.{All-from_recursion}
use Rattle.pg_base.specs.declared.numbers.IndexNo.{IndexNo}
use Rattle.pg_expr.specs.Cond.{Cond}
use Rattle.pg_expr.specs.work.View.{cond}
use Rattle.index_match.specs.Arms.{arms_of}
use Rattle.eq_classes.proofs.ConditionLemmas.{listed_conds}
use Rattle.plan_tree.specs.Bitmaps.{MatchesArm, condition_at}
use Rattle.plan_tree.specs.Plans.{some_arm}
use Rattle.plan_tree.proofs.ElementLemmas.{matched-or}
use Rattle.plan_tree.proofs.FrontLemmas.{all-sources}
use Rattle.scan_cover.proofs.TreeLemmas.{kept-clause}
use Rattle.scan_cover.proofs.elements.keep_clause.Goals as goal

pub arms_part-requires-clause-over : goal.arms_part-requires-clause-over
arms_part-requires-clause-over c = c.in-Some.ensures.over c.args.cat.now c.requires.query

pub arms_part-requires-clause-few : goal.arms_part-requires-clause-few
arms_part-requires-clause-few c = c.in-Some.ensures.few c.args.cat.now c.requires.query

pub arms_part-requires-clause-some : goal.arms_part-requires-clause-some
arms_part-requires-clause-some c =
    let arms = c.in-Some.arms.now in
    let P = λ (arm : Cond). (i : IndexNo) × MatchesArm c.args.cat.now c.args.q.now c.args.r.0 arm i in
    let is = matched-or c.args.cat.now c.args.q.now c.args.r.0 (condition_at c.args.q.now c.args.n) arms c.in-Some.ensures.arms in
    all-sources cond P arms (All-from_recursion P (map cond arms) (is.1 c.requires.matched))

pub returns-clause-kept : goal.returns-clause-kept
returns-clause-kept c =
    let arms = map cond c.in-Some.arms.now in
    let h = c.arms_part.ensures in
    (some_arm c.args.n h.0, kept-clause c.args.cat.now c.args.q.now c.args.r c.args.p _ c.args.n arms h.0 refl (ap arms_of c.in-Some.ensures.arms ∙ listed_conds arms) h.1 c.only.ensures c.requires.clause)
