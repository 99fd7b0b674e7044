use Rattle.std.proofs.Common.{◌%◌, ◌∙◌, ◌++◌, ◌∷◌, [], List, ap, arith, cond, get_or, length, map, nat_eq, refl}
use Rattle.cost_rules.specs.work.Costs.{capped}
use Rattle.plan_tree.specs.Costs.{together}
use Rattle.scan_cover.specs.declared.kept.Kept.{Kept}
use Rattle.scan_cover.proofs.KeptLemmas.{parts-more}
use Rattle.scan_cover.proofs.MarkLemmas.{split-all, split-next, split-none}
use Rattle.scan_cover.proofs.marks.parts_of.Goals as goal

pub loop-n-init : goal.loop-n-init
loop-n-init c = ([], split-none c.args.mask c.args.kept.now, refl, refl)

pub add-sum-requires : goal.add-sum-requires
add-sum-requires c =
    let h = c.loop-n.invariant in
    let seen = h.1.few in
    let many = h.3 in
    record { few = omega (arith, seen, many, c.requires.few, c.loop-n-test.true) }

pub loop-n-preserved : goal.loop-n-preserved
loop-n-preserved c =
    let h = c.loop-n.invariant in
    let left = c.loop-n.left in
    let x = get_or c.args.kept.now c.loop-n.n c.index-kept-n.result in
    let is = nat_eq (left % 2) 1 in
    let more = parts-more is x h.0 c.loop-n.sum.0 c.add-sum.result.0 c.loop-n.sum.1 c.add-sum.result.1 h.2 h.3 c.add-sum.ensures.sum c.add-sum.ensures.count in
    (h.0 ++ cond is (x ∷ []) [], split-next c.args.mask c.args.kept.now left c.loop-n.n h.0 c.index-kept-n.result c.loop-n-test.true h.1, more.0, more.1)

pub returns-clause-part : goal.returns-clause-part
returns-clause-part c =
    let h = c.loop-n.invariant in
    h.2 ∙ ap (λ (ks : List Kept). capped (together (map (λ (k : Kept). k.part) ks))) (split-all c.args.mask c.args.kept.now c.loop-n.left c.loop-n.n h.0 c.loop-n-test.false h.1)

pub returns-clause-count : goal.returns-clause-count
returns-clause-count c =
    let h = c.loop-n.invariant in
    h.3 ∙ ap length (split-all c.args.mask c.args.kept.now c.loop-n.left c.loop-n.n h.0 c.loop-n-test.false h.1)
