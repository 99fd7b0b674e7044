use Rattle.std.proofs.Common.{◌∙◌, ap}
use Rattle.std.specs.Prelude.{Some}
use Rattle.join_search.specs.work.Tables.{found_at}
use Rattle.join_search.proofs.TableLemmas.{put-set}
use Rattle.join_search.proofs.table.put_in.Goals as goal

pub returns-in-Some-clause-here : goal.returns-in-Some-clause-here
returns-in-Some-clause-here c =
    put-set c.args.p (Some c.args.f) c.deref.result.now c.args.places.now.items c.in-Some.n c.index_mut-place.result.now c.args.f c.deref.ensures.value c.in-Some.ensures.within c.index_mut-place.ensures.value (c.in-Some.ensures.put c.args.f)

pub returns-in-Some-clause-others : goal.returns-in-Some-clause-others
returns-in-Some-clause-others c =
    λ o other. put-set o (found_at o c.args.places.now.items) c.deref.result.now c.args.places.now.items c.in-Some.n c.index_mut-place.result.now c.args.f c.deref.ensures.value c.in-Some.ensures.within c.index_mut-place.ensures.value
    (c.in-Some.ensures.others c.args.f o other ∙ ap (found_at o) c.deref.ensures.value)
