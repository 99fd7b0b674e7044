use Rattle.std.proofs.Common.{◌≡◌, [], ap, sym, ◌∙◌, arith}
use Rattle.std.proofs.lemmas.List.{nil_from_length}
use Rattle.pg_expr.specs.Cond.{joined}
use Rattle.pg_expr.specs.Conjuncts.{conjuncts_of_all}
use Rattle.pg_expr.specs.work.View.{conds}
use Rattle.pg_expr.proofs.CondLaws.{joined-nil}
use Rattle.pg_expr.proofs.and_list.+conjuncts.Goals as goal

-- nothing is left
pub all_conjuncts-returns : goal.all_conjuncts-returns
all_conjuncts-returns t c =
    let none : c.loop-part.part-iterator.rest.items ≡ [] = nil_from_length c.loop-part.part-iterator.rest.items (omega (arith, c.in-None.ensures.steps)) in
    sym (joined-nil _) ∙ ap (λ rest. joined (conds c.loop-part.all.items) (conjuncts_of_all (conds rest))) (sym none) ∙ c.loop-part.invariant
