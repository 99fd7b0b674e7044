use Rattle.std.proofs.Common.{map, subst}
use Rattle.std.proofs.lemmas.Result.{IfOk-weaker}
use Rattle.pg_base.specs.Sets.{has}
use Rattle.pathkeys.specs.Keys.{Keys}
use Rattle.plan_tree.specs.work.Views.{path}
use Rattle.join_search.specs.work.Sufficing.{IsPartOfUse}
use Rattle.join_search.proofs.OfferLemmas.{beaten-more, beaten-sufficient, past-more}
use Rattle.join_search.proofs.offers.is_passed_over.Goals as goal

pub returns-then-not-is_below-clause-served : goal.returns-then-not-is_below-clause-served
returns-then-not-is_below-clause-served c =
    let j = c.args.j.now in
    λ is t n of e most same. past-more j.cat.now j.q.now j.asked j.whole (map path c.args.front.now) t c.args.least n c.requires.over.whole e most (c.is_below.ensures.no c.if-not-is_below.true)

pub returns-clause-served : goal.returns-clause-served
returns-clause-served c =
    let j = c.args.j.now in
    let front = map path c.args.front.now in
    let part = c.in_ok-part.part in
    IfOk-weaker c.is_beaten.result _ _
    (λ b sound is t n of e most same built below. beaten-sufficient j.cat.now j.q.now j.asked j.set front t n part c.requires.front of e
    (subst (λ (ks : Keys). IsPartOfUse j.q.now j.asked (has j.set.0) ks part) same (c.in_ok-part.ensures (has j.set.0) c.requires.over.split.outside))
    (beaten-more front c.args.least n part most (sound is))) c.is_beaten.ensures.sound

pub returns-clause-below : goal.returns-clause-below
returns-clause-below c = IfOk-weaker c.is_beaten.result _ _ (λ b sound never. c.is_below.ensures.yes c.if-not-is_below.false) c.is_beaten.ensures.sound
