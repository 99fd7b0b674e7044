use Rattle.plan_tree.specs.Bitmaps.{condition_at}
use Rattle.plan_tree.proofs.ElementLemmas.{matched-or}
use Rattle.plan_tree.proofs.elements.is_matched_or.Goals as goal

pub are_matched-requires-clause-few : goal.are_matched-requires-clause-few
are_matched-requires-clause-few c = c.in-Some.ensures.few c.args.cat.now c.requires.query

pub returns-in-Some : goal.returns-in-Some
returns-in-Some c =
    let is = matched-or c.args.cat.now c.args.q.now c.args.r.0 (condition_at c.args.q.now c.args.n) c.in-Some.arms.now c.in-Some.ensures.arms in
    (λ h. is.0 (c.are_matched.ensures.0 h), λ h. c.are_matched.ensures.1 (is.1 h))
