use Rattle.std.proofs.Common.{◌∙◌, List, Option, Some, ap, arith, false, refl, set, subst, sym}
use Rattle.std.specs.Option.{option_map}
use Rattle.std.proofs.lemmas.List.{map-set}
use Rattle.opfamily.specs.pg_value_value_SqlType_TheVariants.{Bool as BoolType}
use Rattle.catalog.specs.Contents.{Contents, IsColumn, IsKnown, TableDef, no_table, table_at, with_stats}
use Rattle.catalog.specs.work.Entries.{contents_of, statistics}
use Rattle.catalog.specs.Indexes.{type_at}
use Rattle.catalog.specs.Statistics.{AreValuesOf, Statistics}
use Rattle.catalog.proofs.EntryLemmas.{def-of_value}
use Rattle.catalog.proofs.NamedLemmas.{stats-within}
use Rattle.catalog.proofs.ReplacementLemmas.{known-set}
use Rattle.catalog.proofs.StatisticsLemmas.{allowed-lawful}
use Rattle.catalog.proofs.WriteLemmas.{is_table, kept, written}
use Rattle.catalog.proofs.contents.Catalog.set_column.Goals as goal

pub index_mut-requires-2 : goal.index_mut-requires-2
index_mut-requires-2 c =
    let es = c.self.inside.tables.entries in
    let is = c.self.inside.indexes.entries in
    let lt = is_table es is c.args.self.now c.args.t c.self.view_is c.requires.table in
    let within = subst (λ (l : Contents). IsColumn l c.args.t c.args.c) (sym c.self.view_is) c.requires.column in
    let old = c.index_mut.result.now in
    let same = ap (λ (d : TableDef). d.stats) (sym (def-of_value es c.args.t.0 old c.index_mut.ensures.value)) in
    let long = stats-within (table_at (contents_of es is) c.args.t) old.stats.items c.args.c.0 same (c.self.invariant.0.tables c.args.t.0 no_table lt) within in
    omega (arith, long, old.stats.ok)

pub invariant_of-self : goal.invariant_of-self
invariant_of-self c =
    let es = c.self.inside.tables.entries in
    let is = c.self.inside.indexes.entries in
    let lt = is_table es is c.args.self.now c.args.t c.self.view_is c.requires.table in
    let d = table_at (contents_of es is) c.args.t in
    let was = c.self.invariant.0.tables c.args.t.0 no_table lt in
    let s = statistics c.args.s in
    let values = subst (λ (l : Contents). AreValuesOf (type_at (table_at l c.args.t).columns c.args.c) s) (sym c.self.view_is) c.requires.values in
    let known = known-set IsKnown d.columns d.stats c.args.c.0 (record { typed = BoolType; not_null = false }) (Some s) was.stats (allowed-lawful _ s values c.in_default.ensures) in
    kept es is c.args.t c.index_mut.result.now _ c.index_mut.ensures.value (λ (x : TableDef). record x { stats = set x.stats c.args.c.0 (Some s) })
    (λ n. ap (λ (l : List (Option Statistics)). record { name = n; names = c.index_mut.result.now.names; columns = c.index_mut.result.now.columns; loaded = c.index_mut.result.now.loaded; sizes = c.index_mut.result.now.sizes; stats = l }) (map-set (option_map statistics) c.index_mut.result.now.stats.items c.args.c.0 (Some c.args.s)))
    lt refl refl
    (record { name = was.name; names = was.names; distinct = was.distinct; width = was.width; some = was.some; few = was.few; sizes = was.sizes; stats = known }) refl c.self.invariant

pub returns-clause-kept : goal.returns-clause-kept
returns-clause-kept c =
    let s = statistics c.args.s in
    written c.self.inside.tables.entries c.self.inside.indexes.entries c.args.t c.index_mut.result.now _ c.index_mut.ensures.value (λ (x : TableDef). record x { stats = set x.stats c.args.c.0 (Some s) })
    (λ n. ap (λ (l : List (Option Statistics)). record { name = n; names = c.index_mut.result.now.names; columns = c.index_mut.result.now.columns; loaded = c.index_mut.result.now.loaded; sizes = c.index_mut.result.now.sizes; stats = l }) (map-set (option_map statistics) c.index_mut.result.now.stats.items c.args.c.0 (Some c.args.s)))
    ∙ ap (λ (l : Contents). with_stats l c.args.t c.args.c s) c.self.view_is
