use Rattle.std.proofs.Common.{◌≡◌, ◌<◌, ◌∙◌, ap, sym, true≢false, arith}
use Rattle.std.proofs.lemmas.Bool.Decides.{nat_tests}
use Rattle.pg_base.specs.Sets.{has}
use Rattle.pg_base.proofs.SetLaws.{has-zero}
use Rattle.join_search.proofs.SetLemmas.{outer-less}
use Rattle.join_search.proofs.by_sets.may_be_part.Goals as goal

pub returns-then-is_empty-clause-no : goal.returns-then-is_empty-clause-no
returns-then-is_empty-clause-no c = λ never b d. d.outer (c.is_empty.ensures.0 c.if-is_empty.true)

pub returns-clause-some : goal.returns-clause-some
returns-clause-some c =
    let zero : c.args.part.0 ≡ 0 → ⊥ = λ e. true≢false (sym (c.is_empty.ensures.1 (λ k. ap (λ n. has n k) e ∙ has-zero k)) ∙ c.if-is_empty.false) in
    λ is. grind (arith, zero)

pub returns-clause-no : goal.returns-clause-no
returns-clause-no c = λ never b d.
    let lt : c.args.part.0 < c.args.set.0 = outer-less c.args.set c.args.part b d in
    grind (arith, nat_tests, never, lt)
