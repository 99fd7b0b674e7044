use Rattle.std.proofs.Common.{◌∙◌, ap, sym}
use Rattle.std.proofs.lemmas.Result.{IfErr-weaker, on_ok_weaker}
use Rattle.join_search.specs.work.Tables.{found_at}
use Rattle.join_search.proofs.TableLemmas.{list-here, list-set, put-elsewhere}
use Rattle.join_search.proofs.table.Table.put.Goals as goal

pub returns-in-Ok-clause-here : goal.returns-in-Ok-clause-here
returns-in-Ok-clause-here c =
    on_ok_weaker c.put_in.result (λ h. ap (found_at c.args.p) (list-set c.grow.new.sets.items c.args.s.0 c.put_in.new.places c.in-Ok.ensures.room) ∙ h) c.put_in.ensures.here

pub returns-in-Ok-clause-others : goal.returns-in-Ok-clause-others
returns-in-Ok-clause-others c =
    let sets = c.grow.new.sets.items in
    let own = list-here sets c.args.s.0 c.index_mut.result.now c.in-Ok.ensures.room c.index_mut.ensures.value in
    λ t o other. put-elsewhere sets c.args.self.now.sets.items c.args.s c.args.p t o c.put_in.new.places c.in-Ok.ensures.room c.grow.ensures.same
    (λ r h. c.put_in.ensures.others r h ∙ ap (found_at r) (sym own)) other

pub returns-in-Ok-clause-err : goal.returns-in-Ok-clause-err
returns-in-Ok-clause-err c =
    let sets = c.grow.new.sets.items in
    let own = list-here sets c.args.s.0 c.index_mut.result.now c.in-Ok.ensures.room c.index_mut.ensures.value in
    IfErr-weaker c.put_in.result _ _
    (λ back h. (h.0, ap (found_at c.args.p) (list-set sets c.args.s.0 c.put_in.new.places c.in-Ok.ensures.room ∙ h.1 ∙ sym own ∙ c.grow.ensures.same c.args.s.0))) c.put_in.ensures.err
