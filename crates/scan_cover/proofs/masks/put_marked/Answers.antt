use Rattle.std.proofs.Common.{Bool, [], ◌∷◌, cond, subst, sym}
use Rattle.std.specs.List.{AllZip}
use Rattle.scan_cover.specs.work.Trees.{IsKept}
use Rattle.scan_cover.proofs.KeptLemmas.{put-one}
use Rattle.scan_cover.proofs.masks.put_marked.Goals as goal

pub returns-then-is : goal.returns-then-is
returns-then-is c =
    let R = IsKept c.args.cat.now c.args.q.now c.args.at.rel c.args.at.param in
    let put = c.put_element.ensures in (
      put.0 ∷ [],
      subst (λ (b : Bool). AllZip R (cond b (c.args.k.now ∷ []) []) (put.0 ∷ [])) (sym c.if-is.true) (put.1, tt),
      put-one c.args.cat.now c.args.q.now c.args.at.rel c.args.at.param put.0 c.args.into.now c.put_element.new.into put.2,
    )
