use Rattle.std.proofs.Common.{◌∙◌, sym, ap}
use Rattle.std.proofs.lemmas.List.{get_or_default}
use Rattle.catalog.specs.work.Keys.{key_names}
use Rattle.catalog.proofs.NameLaws.{copied-more}
use Rattle.catalog.proofs.names.Names.copy_of.Goals as goal

pub loop-name-preserved : goal.loop-name-preserved
loop-name-preserved c =
    let same = c.in_ok-from_slice.ensures.items ∙ c.items.ensures in
    let at = get_or_default c.args.names.now c.loop-name.name-index _ _ c.loop-name-test.true ∙ sym c.name-item.is in
    ap key_names c.in_ok-insert.ensures.keys
    ∙ copied-more c.args.names.now c.loop-name.name-index c.name-item.result c.loop-name.set.keys c.in_ok-from_slice.field-0 c.loop-name-test.true at c.requires same c.loop-name.invariant
