use Rattle.std.proofs.Common.{◌∙◌, refl, sym}
use Rattle.pg_base.specs.Sets.{has}
use Rattle.index_match.proofs.PartLemmas.{conditions_local}
use Rattle.scan_cover.proofs.TreeLemmas.{kept-leaf}
use Rattle.scan_cover.proofs.elements.keep_index.Goals as goal

pub returns-clause-kept : goal.returns-clause-kept
returns-clause-kept c =
    kept-leaf c.args.cat.now c.args.q.now c.args.r c.args.p _ c.args.i refl c.index_part_of.ensures.part c.conditions_found.ensures
    (λ n e. (conditions_local c.args.cat.now c.args.q.now.classes c.args.i c.args.r.0 (has c.args.p.0) n (sym (c.conditions_found.ensures n) ∙ e)).0)
