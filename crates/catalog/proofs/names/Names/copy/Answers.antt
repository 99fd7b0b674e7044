use Rattle.std.proofs.Common.{◌∙◌, ap, subst}
use Rattle.std.proofs.lemmas.Option.{get_or_from_slice_get, slice_get_within}
use Rattle.pg_base.specs.Names.{AreDistinct}
use Rattle.catalog.specs.work.Keys.{key_names}
use Rattle.catalog.proofs.CopyLemmas.{different-names}
use Rattle.catalog.proofs.NameLaws.{copied-more}
use Rattle.catalog.proofs.names.Names.copy.Goals as goal

pub loop-n-preserved : goal.loop-n-preserved
loop-n-preserved c =
    let names = c.args.self.now in
    let n = c.loop-n.n in
    let name = c.get.result.now in
    let distinct = subst AreDistinct c.self.view_is (different-names c.self.inside.set.keys c.len-n-end.ensures.unique) in
    ap key_names c.in_ok-insert.ensures.keys
    ∙ copied-more names n name c.loop-n.set.keys c.in_ok-from_slice.field-0 (slice_get_within names n name c.get.ensures) (get_or_from_slice_get names n name name c.get.ensures) distinct c.in_ok-from_slice.ensures.items c.loop-n.invariant
