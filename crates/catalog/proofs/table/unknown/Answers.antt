use Rattle.std.proofs.Common.{◌∙◌, ap, arith, length, map}
use Rattle.std.specs.Option.{option_map}
use Rattle.catalog.specs.work.Entries.{statistics}
use Rattle.catalog.specs.Indexes.{no_column}
use Rattle.catalog.proofs.NamedLemmas.{unknown-more}
use Rattle.catalog.proofs.table.unknown.Goals as goal

pub loop-preserved : goal.loop-preserved
loop-preserved c =
    let len = ap length c.items-items.ensures.items in
    ap (map (option_map statistics)) c.in_ok-push.ensures.items
    ∙ unknown-more c.loop.stats.items c.args.columns.now c.loop.index no_column (omega (arith, len, c.loop-test.true)) c.loop.invariant
