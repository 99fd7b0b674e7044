use Rattle.std.proofs.Common.{◌+◌, List, refl, sym, subst, take}
use Rattle.std.proofs.lemmas.List.Elements.{All-get_or}
use Rattle.plan_tree.specs.Bitmaps.{IsIndexOn}
use Rattle.scan_paths.specs.work.Reached.{AreReachedBy}
use Rattle.scan_paths.specs.declared.reached.Reached.{Reached}
use Rattle.scan_paths.proofs.ReachLemmas.{one-reached}
use Rattle.scan_paths.proofs.reached.each_reached.Goals as goal

pub loop-i-preserved : goal.loop-i-preserved
loop-i-preserved c =
    let n = c.loop-i.i-index in
    let is = c.args.indexes.now in
    let found = c.loop-i.found.items in
    subst (λ (xs : List Reached). AreReachedBy c.args.cat.now c.args.q.now c.args.r (take (n + 1) is) xs) (sym c.in_ok-push.ensures.items)
    (one-reached c.args.cat.now c.args.q.now c.args.r is found n _ _ c.loop-i-test.true c.loop-i.invariant refl (record { on = All-get_or (IsIndexOn c.args.cat.now c.args.q.now c.args.r.0) is n _ c.loop-i-test.true c.requires.indexes; others = c.reach-others.ensures }))
