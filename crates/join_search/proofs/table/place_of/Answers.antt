use Rattle.std.proofs.Common.{◌≡◌, ◌∙◌, false, sym, subst, take_all}
use Rattle.std.specs.Prelude.{All}
use Rattle.join_search.specs.work.Tables.{is_at}
use Rattle.join_search.proofs.TableLemmas.{none-found, put-here, put-others}
use Rattle.join_search.proofs.table.place_of.Goals as goal

pub returns-then-stands_at-clause-put : goal.returns-then-stands_at-clause-put
returns-then-stands_at-clause-put c =
    λ f. put-here c.args.p f c.args.places.now c.loop-n.n c.index-places-n.result c.loop-n-test.true c.index-places-n.is c.loop-n.invariant (sym c.stands_at.ensures ∙ c.if-stands_at.true)

pub returns-then-stands_at-clause-others : goal.returns-then-stands_at-clause-others
returns-then-stands_at-clause-others c =
    λ f o other. put-others c.args.p o f c.args.places.now c.loop-n.n c.index-places-n.result other c.loop-n-test.true c.index-places-n.is (sym c.stands_at.ensures ∙ c.if-stands_at.true)

pub returns-clause-none : goal.returns-clause-none
returns-clause-none c =
    none-found c.args.p c.args.places.now (subst (All (λ x. is_at c.args.p x ≡ false)) (take_all c.loop-n.n c.args.places.now c.loop-n-test.false) c.loop-n.invariant)
