use Rattle.std.proofs.Common.{◌∙◌, ap, arith, refl, subst, sym}
use Rattle.pg_base.specs.declared.numbers.TableNo.{TableNo}
use Rattle.catalog.specs.Contents.{Contents}
use Rattle.catalog.specs.work.Contents.{IsLastIndex, indexes_before}
use Rattle.catalog.proofs.WriteLemmas.{index-taken, last-within, taken-kept}
use Rattle.catalog.proofs.contents.Catalog.take_back_index.Goals as goal

pub index_mut-requires : goal.index_mut-requires
index_mut-requires c =
    let p = c.take_last-table.ensures in
    let lt = last-within c.self.inside.tables.entries c.self.inside.indexes.entries c.take_last-table.new.indexes.entries p.0 p.1 p.2 c.self.invariant.0 in
    let same = ap (λ (t : TableNo). t.0) p.3 in
    omega (arith, lt, same)

pub invariant_of-self : goal.invariant_of-self
invariant_of-self c =
    let p = c.take_last-table.ensures in
    taken-kept c.self.inside.tables.entries c.self.inside.indexes.entries c.take_last-table.new.indexes.entries p.0 p.1 p.2 c.take_last-table.result p.3 c.index_mut.result.now (record c.index_mut.result.now { indexes = c.pop.new.self })
    c.index_mut.ensures.value (λ n. refl) c.pop.ensures.rest c.self.invariant

pub returns : goal.returns
returns c =
    let p = c.take_last-table.ensures in
    let last = subst (λ (l : Contents). IsLastIndex l c.args.i) (sym c.self.view_is) c.requires in
    index-taken c.self.inside.tables.entries c.self.inside.indexes.entries c.take_last-table.new.indexes.entries p.0 p.1 p.2 c.take_last-table.result p.3 c.index_mut.result.now (record c.index_mut.result.now { indexes = c.pop.new.self })
    c.index_mut.ensures.value (λ n. refl) c.args.i.0 last
    ∙ ap (λ (l : Contents). indexes_before l c.args.i) c.self.view_is
