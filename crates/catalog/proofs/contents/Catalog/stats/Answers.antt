use Rattle.std.proofs.Common.{◌∙◌, ap, arith}
use Rattle.std.specs.Option.{option_map}
use Rattle.catalog.specs.Contents.{TableDef, table_at}
use Rattle.catalog.specs.work.Entries.{statistics}
use Rattle.catalog.proofs.NamedLemmas.{stats-at, stats-within}
use Rattle.catalog.proofs.contents.Catalog.stats.Goals as goal

pub index-requires : goal.index-requires
index-requires c =
    let lt = stats-within (table_at c.args.self.now c.args.t) c.entry.result.1.now.stats.items c.args.c.0 (ap (λ (d : TableDef). d.stats) c.entry.ensures.entry) c.entry.ensures.lawful c.requires.column in
    omega (arith, lt, c.entry.result.1.now.stats.ok)

pub returns : goal.returns
returns c =
    let d = table_at c.args.self.now c.args.t in
    let same = ap (λ (x : TableDef). x.stats) c.entry.ensures.entry in
    let lt = stats-within d c.entry.result.1.now.stats.items c.args.c.0 same c.entry.ensures.lawful c.requires.column in
    ap (option_map statistics) c.as_ref.ensures.value ∙ stats-at d c.entry.result.1.now.stats.items c.args.c.0 c.index.result.now same lt c.index.ensures
