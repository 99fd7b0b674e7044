use Rattle.std.proofs.Common.{slice_set, sym, ap, ◌∙◌}
use Rattle.std.proofs.lemmas.List.{set-get_or}
use Rattle.std.proofs.lemmas.Option.{get_or_from_slice_get}
use Rattle.std.proofs.lemmas.Result.{on_err_weaker}
use Rattle.heap.specs.Stored.{Stored}
use Rattle.worked_data.proofs.heaps.fill.Goals as goal

pub returns-clause-refused : goal.returns-clause-refused
returns-clause-refused g c =
    let heaps = c.args.heaps.now in
    let t = c.args.table.0 in
    let lent = c.get_mut.result.now in
    on_err_weaker c.load.result (λ same. ap (λ (h : Stored). slice_set heaps t h) (same ∙ sym (get_or_from_slice_get heaps t lent lent c.get_mut.ensures.value)) ∙ set-get_or heaps t lent) c.load.ensures.refused
