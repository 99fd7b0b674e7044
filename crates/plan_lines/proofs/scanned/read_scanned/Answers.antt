use Rattle.std.proofs.Common.{◌<◌, ◌∙◌, length, subst}
use Rattle.catalog.specs.Range.{Range}
use Rattle.plan_lines.proofs.ScannedLemmas.{found-scan}
use Rattle.plan_lines.proofs.scanned.read_scanned.Goals as goal

pub returns-in-Some-clause-only : goal.returns-in-Some-clause-only
returns-in-Some-clause-only c = λ r p has e.
    found-scan c.args.cat.now c.args.q.now c.lawful.ensures c.requires.bound c.args.text.now (record { 0 = c.loop-n.n }) r c.in-Some.param p (subst (λ (l : Range). c.loop-n.n < length l) (c.items-n-end.ensures ∙ c.range_of.ensures) c.loop-n-test.true)
    c.in-Some.ensures.is has e
