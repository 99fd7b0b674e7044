use Rattle.std.proofs.Common.{◌∙◌, ap, arith, length}
use Rattle.plan_check.specs.work.Views.{certificate}
use Rattle.scan_cover.specs.work.Scanning.{IsRelationServed}
use Rattle.scan_cover.proofs.WalkLemmas.{plain-served}
use Rattle.pg_base.proofs.NumberLemmas.{each-below as below-next}
use Rattle.scan_cover.proofs.relations.open_plain_scan.Goals as goal

pub loop-r-preserved : goal.loop-r-preserved
loop-r-preserved c = below-next (λ r. IsRelationServed c.args.j.now.cat.now c.args.j.now.q.now (certificate c.args.j.now.t.now) (record { 0 = r })) c.loop-r.r c.loop-r.invariant c.in_default.ensures

pub returns : goal.returns
returns c =
    let same = ap length (c.items-r-end.ensures ∙ c.range_of.ensures) in
    plain-served c.args.j.now.cat.now c.args.j.now.q.now (certificate c.args.j.now.t.now) c.loop-r.r (omega (arith, same, c.loop-r-test.false)) c.loop-r.invariant
