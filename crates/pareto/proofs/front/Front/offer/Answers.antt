use Rattle.std.proofs.Common.{◌≡◌, ◌∙◌, refl, subst, false, not}
use Rattle.std.specs.List.{All}
use Rattle.pareto.proofs.Covering.{covered-kept, covered-on_ok, kept-on_ok, not-covered, offered-on_ok, on_ok-of, unrelated-result}
use Rattle.pareto.proofs.front.Front.offer.Goals as goal

pub returns-clause-covered : goal.returns-clause-covered
returns-clause-covered g c =
    covered-on_ok g.T.Ranked.is_at_most g.met.T.Ranked.reflexive c.replace_covered.result _ _ _ c.args.t c.self.view_is c.replace_covered.ensures.ok

pub returns-clause-kept : goal.returns-clause-kept
returns-clause-kept g c = kept-on_ok (λ k. not (g.T.Ranked.is_at_most c.args.t k)) c.replace_covered.result _ _ _ c.args.t c.self.view_is c.replace_covered.ensures.ok

pub returns-then-is_covered-clause-covered : goal.returns-then-is_covered-clause-covered
returns-then-is_covered-clause-covered g c = covered-kept g.T.Ranked.is_at_most g.met.T.Ranked.reflexive c.args.self.now

pub returns-clause-offered : goal.returns-clause-offered
returns-clause-offered g c = offered-on_ok g.T.Ranked.is_at_most g.met.T.Ranked.reflexive c.replace_covered.result _ _ c.args.t c.replace_covered.ensures.ok

unrelated : goal.invariant_of-self
unrelated g c =
    unrelated-result g.T.Ranked.is_at_most c.replace_covered.result c.self.inside.items.items c.self.inside.items.items _ c.args.t refl
    (subst (All (λ k. g.T.Ranked.is_at_most k c.args.t ≡ false)) c.deref.ensures.value (c.if-is_covered.ensures.no refl))
    c.replace_covered.ensures.ok c.replace_covered.ensures.err c.self.invariant

pub invariant_of-self : goal.invariant_of-self
invariant_of-self g c = unrelated g c

pub returns-clause-undominated : goal.returns-clause-undominated
returns-clause-undominated g c = on_ok-of c.replace_covered.result (unrelated g c)

pub returns-clause-unchanged : goal.returns-clause-unchanged
returns-clause-unchanged g c = λ covered. absurd (
    not-covered g.T.Ranked.is_at_most c.args.self.now c.args.t
    (subst (All (λ k. g.T.Ranked.is_at_most k c.args.t ≡ false)) (c.deref.ensures.value ∙ c.self.view_is) (c.if-is_covered.ensures.no refl)) covered)
