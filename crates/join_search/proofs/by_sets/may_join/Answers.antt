use Rattle.std.proofs.Common.{◌≡◌, ◌∙◌, [], inl, inr, sym, subst, true≢false}
use Rattle.join_search.specs.work.Offers.{AreJoinsServed}
use Rattle.join_search.specs.work.Tables.{paths_at}
use Rattle.join_search.proofs.FilledLemmas.{not-false}
use Rattle.join_search.proofs.SetLemmas.{inner-is, outer-within}
use Rattle.join_search.proofs.TableLemmas.{same-number}
use Rattle.join_search.proofs.by_sets.may_join.Goals as goal

pub returns-then-not-within : goal.returns-then-not-within
returns-then-not-within c = λ never. inl (λ b d. absurd (true≢false (sym (c.within.ensures.1 (outer-within c.args.set c.args.part b d)) ∙ c.if-not-within.true)))

pub returns-then-is_bare : goal.returns-then-is_bare
returns-then-is_bare c = λ never. inl (λ b d p.
    let rest = c.minus-rest.result in
    subst (λ t. paths_at c.args.table.now t p ≡ []) (sym (same-number b rest (inner-is c.args.set c.args.part b rest d c.minus-rest.ensures))) (c.is_bare.ensures c.if-is_bare.true p))

pub returns : goal.returns
returns c = λ never. inr (λ front b d.
    let t = c.args.task.now in
    let rest = c.minus-rest.result in
    subst (λ s. AreJoinsServed t.cat.now t.q.now t.asked (paths_at c.args.table.now) front c.args.part s) (sym (same-number b rest (inner-is c.args.set c.args.part b rest d c.minus-rest.ensures)))
    (c.in_ok-past.ensures (not-false c.in_ok-past.past never) front))
