use Rattle.std.proofs.Common.{[], refl}
use Rattle.scan_cover.proofs.FillLemmas.{filled-all}
use Rattle.scan_cover.specs.work.Limits.{arms_of_all}
use Rattle.scan_cover.proofs.KeptLemmas.{arms-few, first-made}
use Rattle.scan_cover.proofs.ServedLemmas.{stands-for}
use Rattle.scan_cover.proofs.masks.node_of.Goals as goal

pub put_all-requires-clause-made : goal.put_all-requires-clause-made
put_all-requires-clause-made c = first-made c.args.cat.now c.args.q.now c.args.at.rel c.args.at.param c.args.kept.now c.requires.first

pub returns-clause-stands : goal.returns-clause-stands
returns-clause-stands c =
    let put = c.put_all.ensures in
    let few = arms-few c.args.cat.now c.args.q.now c.args.at.rel c.args.at.param c.args.kept.now c.args.mask put.0 put.1 c.requires.atoms c.requires.first in
    let filled = put.2 [] c.empty-arms.ensures in (
      put.0,
      put.1,
      λ t.
          stands-for c.args.cat.now c.args.q.now c.args.at.rel c.args.at.param t c.args.kept.now c.args.mask c.args.mask c.put_all.new.into.indexes put.0 c.requires.first c.requires.few refl put.1
          (filled-all c.put_all.new.into (arms_of_all put.0) filled few),
    )
