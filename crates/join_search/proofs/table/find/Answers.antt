use Rattle.std.proofs.Common.{◌≡◌, ◌∙◌, false, sym, subst, take_all}
use Rattle.std.specs.Prelude.{All}
use Rattle.join_search.specs.work.Tables.{is_at}
use Rattle.join_search.proofs.TableLemmas.{first-found, none-found}
use Rattle.join_search.proofs.table.find.Goals as goal

pub returns-then-stands_at : goal.returns-then-stands_at
returns-then-stands_at c =
    sym (first-found c.args.p c.args.places.now c.loop-f.f-index c.f-item.result c.loop-f-test.true c.f-item.is c.loop-f.invariant (sym c.stands_at.ensures ∙ c.if-stands_at.true))

pub returns : goal.returns
returns c =
    sym (none-found c.args.p c.args.places.now (subst (All (λ x. is_at c.args.p x ≡ false)) (take_all c.loop-f.f-index c.args.places.now c.loop-f-test.false) c.loop-f.invariant))
