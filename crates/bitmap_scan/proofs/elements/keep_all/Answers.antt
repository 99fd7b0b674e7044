use Rattle.std.proofs.Common.{◌≡◌, ◌++◌, ◌∷◌, [], ◌+◌, List, sym, subst, take}
use Rattle.bitmap_scan.specs.declared.element_tree.ElementTree.{ElementTree}
use Rattle.bitmap_scan.proofs.KeptLemmas.{AreKept, one-kept}
use Rattle.bitmap_scan.proofs.elements.keep_all.Goals as goal

pub loop-e-preserved : goal.loop-e-preserved
loop-e-preserved c =
    let n = c.loop-e.e-index in
    let elements = c.args.elements.now in
    let kept = c.loop-e.kept.items in
    let made = c.in_ok-keep.field-0 in
    let pushed : c.push.new.self.items ≡ kept ++ made ∷ [] = c.in_ok-push.ensures.items in
    subst (λ (ks : List ElementTree). AreKept c.args.cat.now c.args.q.now c.args.at.rel c.args.at.param (take (n + 1) elements) ks) (sym pushed)
    (one-kept c.args.cat.now c.args.q.now c.args.at.rel c.args.at.param elements kept n _ made c.loop-e-test.true c.loop-e.invariant c.in_ok-keep.ensures.least c.in_ok-keep.ensures.kept)
