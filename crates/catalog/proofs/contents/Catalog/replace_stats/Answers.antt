use Rattle.std.proofs.Common.{◌∙◌, Some, ap, arith, length, map, refl, subst, sym}
use Rattle.std.specs.Option.{option_map}
use Rattle.std.proofs.lemmas.List.{length-map}
use Rattle.catalog.specs.Analysed.{with_analysis}
use Rattle.catalog.specs.work.Analysed.{FitColumns}
use Rattle.catalog.specs.Contents.{Contents, TableDef, no_table, table_at}
use Rattle.catalog.specs.work.Entries.{contents_of}
use Rattle.catalog.specs.work.Known.{statistics}
use Rattle.catalog.proofs.AnalysedLemmas.{known-each, one-each}
use Rattle.catalog.proofs.ChangedLemmas.{changed}
use Rattle.catalog.proofs.EntryLemmas.{def-of_value}
use Rattle.pg_base.proofs.ListLemmas.{zip-length as as_many}
use Rattle.catalog.proofs.WriteLemmas.{is_table, kept, written}
use Rattle.catalog.specs.Contents.{IsKnown}
use Rattle.catalog.proofs.contents.Catalog.replace_stats.Goals as goal

pub keep-requires : goal.keep-requires
keep-requires c =
    let es = c.self.inside.tables.entries in
    let is = c.self.inside.indexes.entries in
    let lt = is_table es is c.args.self.now c.args.t c.self.view_is c.requires.table in
    let old = c.index_mut-table.result.now in
    let same = def-of_value es c.args.t.0 old c.index_mut-table.ensures.value in
    let d = table_at (contents_of es is) c.args.t in
    let fit = subst (λ (l : Contents). FitColumns (table_at l c.args.t).columns c.args.s.columns) (sym c.self.view_is) c.requires.values in
    let one = one-each d.columns c.args.s.columns fit in
    let two = as_many IsKnown d.columns d.stats ((c.self.invariant.0.tables c.args.t.0 no_table lt).stats) in
    let three = ap (λ (x : TableDef). length x.stats) same in
    let four = length-map old.stats.items (option_map statistics) in
    record { long = omega (arith, one, two, three, four) }

pub invariant_of-self : goal.invariant_of-self
invariant_of-self c =
    let es = c.self.inside.tables.entries in
    let is = c.self.inside.indexes.entries in
    let lt = is_table es is c.args.self.now c.args.t c.self.view_is c.requires.table in
    let d = table_at (contents_of es is) c.args.t in
    let was = c.self.invariant.0.tables c.args.t.0 no_table lt in
    let fit = subst (λ (l : Contents). FitColumns (table_at l c.args.t).columns c.args.s.columns) (sym c.self.view_is) c.requires.values in
    let allowed = c.in_ok-judge_table.ensures.allowed in
    let others = c.keep.ensures.others in
    kept es is c.args.t c.index_mut-table.result.now c.keep.new.table c.index_mut-table.ensures.value
    (λ (x : TableDef). record x { sizes = Some (record { rows = c.args.s.rows; pages = c.args.s.pages }); stats = map Some c.args.s.columns })
    (λ n. changed n c.index_mut-table.result.now c.keep.new.table (record { rows = c.args.s.rows; pages = c.args.s.pages }) c.args.s.columns c.keep.ensures.sizes c.keep.ensures.stats others.0 others.1 others.2)
    lt refl refl
    (record { name = was.name; names = was.names; distinct = was.distinct; width = was.width; some = was.some; few = was.few; sizes = record { rows = allowed.rows; pages = allowed.pages }; stats = known-each d.columns c.args.s.columns fit allowed.columns }) others.3 c.self.invariant

pub returns-clause-kept : goal.returns-clause-kept
returns-clause-kept c =
    let others = c.keep.ensures.others in
    written c.self.inside.tables.entries c.self.inside.indexes.entries c.args.t c.index_mut-table.result.now c.keep.new.table c.index_mut-table.ensures.value
    (λ (x : TableDef). record x { sizes = Some (record { rows = c.args.s.rows; pages = c.args.s.pages }); stats = map Some c.args.s.columns })
    (λ n. changed n c.index_mut-table.result.now c.keep.new.table (record { rows = c.args.s.rows; pages = c.args.s.pages }) c.args.s.columns c.keep.ensures.sizes c.keep.ensures.stats others.0 others.1 others.2)
    ∙ ap (λ (l : Contents). with_analysis l c.args.t c.args.s) c.self.view_is
