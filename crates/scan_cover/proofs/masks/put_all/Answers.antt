use Rattle.std.proofs.Common.{◌%◌, ◌++◌, ◌∷◌, [], List, cond, get_or, nat_eq, subst, sym}
use Rattle.std.specs.List.{AllZip}
use Rattle.pg_base.specs.declared.numbers.IndexNo.{IndexNo}
use Rattle.plan_tree.specs.Plans.{BitTree}
use Rattle.bitmap_scan.specs.work.ElementTrees.{IsMade}
use Rattle.scan_cover.specs.work.Arms.{IsFilled}
use Rattle.scan_cover.specs.work.Trees.{IsKept, element_in}
use Rattle.scan_cover.specs.declared.kept.Kept.{Kept}
use Rattle.scan_cover.specs.work.Limits.{arms_of_all}
use Rattle.scan_cover.proofs.ArmLemmas.{filled-both, filled-none}
use Rattle.scan_cover.proofs.KeptLemmas.{arms-joined, kept-at}
use Rattle.scan_cover.proofs.MarkLemmas.{split-all, split-next, split-none, zip-joined}
use Rattle.scan_cover.proofs.masks.put_all.Goals as goal

pub loop-n-init : goal.loop-n-init
loop-n-init c = ([], [], split-none c.args.mask c.args.kept.now, tt, filled-none c.args.into.now)

pub put_marked-requires-clause-made : goal.put_marked-requires-clause-made
put_marked-requires-clause-made c =
    subst (λ (k : Kept). IsMade c.args.cat.now c.args.q.now c.args.at.rel c.args.at.param (element_in k)) (sym c.index-kept-n.is) (c.requires.made c.loop-n.n c.index-kept-n.result c.loop-n-test.true)

pub put_marked-requires-clause-kept : goal.put_marked-requires-clause-kept
put_marked-requires-clause-kept c =
    subst (λ (k : Kept). (b : BitTree) × IsKept c.args.cat.now c.args.q.now c.args.at.rel c.args.at.param k b) (sym c.index-kept-n.is)
    (kept-at c.args.cat.now c.args.q.now c.args.at.rel c.args.at.param c.args.kept.now c.loop-n.n c.index-kept-n.result c.loop-n-test.true c.requires.kept)

pub loop-n-preserved : goal.loop-n-preserved
loop-n-preserved c =
    let h = c.loop-n.invariant in
    let put = c.put_marked.ensures in
    let left = c.loop-n.left in
    let is = nat_eq (left % 2) 1 in
    let x = get_or c.args.kept.now c.loop-n.n c.index-kept-n.result in
    let more = cond is (x ∷ []) [] in
    let R = IsKept c.args.cat.now c.args.q.now c.args.at.rel c.args.at.param in
    let zip = subst (λ (k : Kept). AllZip R (cond is (k ∷ []) []) put.0) c.index-kept-n.is put.1 in (
      h.0 ++ more,
      h.1 ++ put.0,
      split-next c.args.mask c.args.kept.now left c.loop-n.n h.0 c.index-kept-n.result c.loop-n-test.true h.2,
      zip-joined R h.0 more h.1 put.0 h.3 zip,
      subst (λ (is : List IndexNo). (found : List IndexNo) → IsFilled c.args.into.now found → IsFilled c.put_marked.new.into (found ++ is)) (arms-joined h.1 put.0)
          (filled-both c.args.into.now c.loop-n.into c.put_marked.new.into (arms_of_all h.1) (arms_of_all put.0) h.4 put.2),
    )

pub returns : goal.returns
returns c =
    let h = c.loop-n.invariant in
    (h.1, subst (λ (ks : List Kept). AllZip (IsKept c.args.cat.now c.args.q.now c.args.at.rel c.args.at.param) ks h.1) (split-all c.args.mask c.args.kept.now c.loop-n.left c.loop-n.n h.0 c.loop-n-test.false h.2) h.3, h.4)
