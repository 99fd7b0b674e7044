use Rattle.std.proofs.Common.{◌∙◌, ap, position, sym, arith}
use Rattle.std.specs.Str.{bytes_eq}
use Rattle.catalog.specs.Contents.{TableDef, table_at}
use Rattle.catalog.proofs.EntryLemmas.{found_at, not_found}
use Rattle.catalog.proofs.contents.Catalog.column.Goals as goal

pub returns-in-Some-clause-meaning : goal.returns-in-Some-clause-meaning
returns-in-Some-clause-meaning c =
    let d = table_at c.args.self.now c.args.t in
    let names = ap (λ (x : TableDef). x.names) c.entry.ensures.entry in
    let f = found_at c.args.name.now d.names c.in-Some.place (sym (c.in-Some.ensures.place ∙ ap (position (bytes_eq c.args.name.now)) names)) in
    let width = c.entry.ensures.lawful.width in
    (omega (arith, width, f.0), f.1)

pub returns-in-None-clause-meaning : goal.returns-in-None-clause-meaning
returns-in-None-clause-meaning c =
    let names = ap (λ (x : TableDef). x.names) c.entry.ensures.entry in
    not_found c.args.name.now (table_at c.args.self.now c.args.t).names (sym (c.in-None.ensures.place ∙ ap (position (bytes_eq c.args.name.now)) names))
