use Rattle.std.proofs.Common.{◌∙◌, ap, map}
use Rattle.std.proofs.lemmas.List.Elements.{All-from_recursion}
use Rattle.pg_base.specs.declared.numbers.IndexNo.{IndexNo}
use Rattle.pg_expr.specs.Cond.{Cond}
use Rattle.pg_expr.specs.work.View.{cond}
use Rattle.index_match.specs.Arms.{arms_of}
use Rattle.eq_classes.proofs.ConditionLemmas.{listed_conds}
use Rattle.plan_tree.specs.Bitmaps.{MatchesArm, condition_at}
use Rattle.plan_tree.specs.Plans.{some_arm}
use Rattle.plan_tree.specs.work.Views.{element}
use Rattle.plan_tree.proofs.ElementLemmas.{matched-or}
use Rattle.plan_tree.proofs.FrontLemmas.{all-sources}
use Rattle.scan_cover.proofs.KeptLemmas.{put-clause}
use Rattle.scan_cover.proofs.masks.put_clause.Goals as goal

pub put_least-requires-clause-over : goal.put_least-requires-clause-over
put_least-requires-clause-over c = c.in-Some.ensures.over c.args.cat.now c.requires.query

pub put_least-requires-clause-few : goal.put_least-requires-clause-few
put_least-requires-clause-few c = c.in-Some.ensures.few c.args.cat.now c.requires.query

pub put_least-requires-clause-some : goal.put_least-requires-clause-some
put_least-requires-clause-some c =
    let arms = c.in-Some.arms.now in
    let P = λ (arm : Cond). (i : IndexNo) × MatchesArm c.args.cat.now c.args.q.now c.args.at.rel.0 arm i in
    let is = matched-or c.args.cat.now c.args.q.now c.args.at.rel.0 (condition_at c.args.q.now c.args.n) arms c.in-Some.ensures.arms in
    all-sources cond P arms (All-from_recursion P (map cond arms) (is.1 c.requires.matched))

pub returns : goal.returns
returns c =
    let arms = map cond c.in-Some.arms.now in
    let kept = c.requires.kept in
    let put = c.put_least.ensures in
    (some_arm c.args.n put.0, put-clause c.args.cat.now c.args.q.now c.args.at.rel c.args.at.param c.args.k.now c.args.n kept.0 arms put.0 (ap element c.requires.element) kept.1 (ap arms_of c.in-Some.ensures.arms ∙ listed_conds arms) put.1, put.2)
