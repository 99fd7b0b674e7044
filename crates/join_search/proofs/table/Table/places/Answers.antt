use Rattle.std.proofs.Common.{◌∙◌, ap, sym}
use Rattle.join_search.specs.work.Tables.{list_at}
use Rattle.join_search.proofs.TableLemmas.{list-here, list-none}
use Rattle.join_search.proofs.table.Table.places.Goals as goal

pub returns-in-Some : goal.returns-in-Some
returns-in-Some c =
    c.as_slice.ensures.value ∙ sym (list-here c.deref.result.now c.args.s.0 c.in-Some.places.now c.in-Some.ensures.lookup.3.0 c.in-Some.ensures.lookup.1) ∙ ap (λ vs. list_at vs c.args.s.0) c.deref.ensures.value

pub returns-in-None : goal.returns-in-None
returns-in-None c = sym (list-none c.deref.result.now c.args.s.0 c.in-None.ensures.lookup.3) ∙ ap (λ vs. list_at vs c.args.s.0) c.deref.ensures.value
