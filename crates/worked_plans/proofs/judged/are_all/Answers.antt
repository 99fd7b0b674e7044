use Rattle.std.proofs.Common.{◌≡◌, ◌∙◌, sym}
use Rattle.eq_classes.specs.Listing.{clause_at}
use Rattle.worked_plans.specs.work.Examples.{firsts_equal}
use Rattle.pg_base.proofs.NumberLemmas.{each-below as below-next}
use Rattle.worked_plans.proofs.judged.are_all.Goals as goal

pub loop-n-preserved : goal.loop-n-preserved
loop-n-preserved c =
    below-next (λ k. (clause_at c.args.classes.now.clauses k).cond ≡ firsts_equal) c.loop-n.n c.loop-n.invariant
    (sym c.clause.ensures ∙ c.is_same.ensures.0 c.if-not-is_same.false ∙ c.requires)
