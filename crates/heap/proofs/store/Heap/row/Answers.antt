use Rattle.std.proofs.Common.{◌*◌, Some, length, take, drop, sym, ap, subst, ◌∙◌, arith}
use Rattle.heap.specs.Stored.{Stored, Values, IsLawfulData}
use Rattle.heap.proofs.Rows.{zip_length}
use Rattle.heap.proofs.StoredLemmas.{lawful-at, row-at}
use Rattle.heap.proofs.store.Heap.row.Goals as goal

pub part-requires : goal.part-requires
part-requires g c =
    let self = c.self.inside in
    let at = row-at self.columns self.count self.values.items c.self.invariant.1 c.args.self.now c.self.view_is c.args.t.0 c.width-width.result c.requires c.width-width.ensures.width in
    omega (arith, at.inside, ap (λ (l : Values). length l) c.deref.ensures.value)

pub returns-clause-row : goal.returns-clause-row
returns-clause-row g c =
    let self = c.self.inside in
    let at = row-at self.columns self.count self.values.items c.self.invariant.1 c.args.self.now c.self.view_is c.args.t.0 c.width-width.result c.requires c.width-width.ensures.width in
    at.is
    ∙ ap (λ (l : Values). Some (take c.width-width.result (drop (c.args.t.0 * c.width-width.result) l))) (sym c.deref.ensures.value)
    ∙ ap (λ (l : Values). Some l) (sym c.part.ensures)

pub returns-clause-lawful : goal.returns-clause-lawful
returns-clause-lawful g c =
    let lawful : IsLawfulData c.args.self.now = subst (λ (s : Stored). IsLawfulData s) c.self.view_is c.self.invariant.0 in
    lawful-at c.args.self.now c.args.t.0 c.part.result.now lawful c.requires (returns-clause-row g c)

pub returns-clause-width : goal.returns-clause-width
returns-clause-width g c = zip_length c.args.self.now.columns c.part.result.now (returns-clause-lawful g c)
