use Rattle.std.proofs.Common.{◌∙◌, refl, arith}
use Rattle.join_search.proofs.TableLemmas.{forgot-all, forgot-more}
use Rattle.join_search.proofs.table.forget.Goals as goal

pub loop-n-init : goal.loop-n-init
loop-n-init c = record { many = refl; single = λ k single. refl; others = λ k lt. absurd (omega (arith, lt)) }

pub forget_at-requires : goal.forget_at-requires
forget_at-requires c = record { within = omega (arith, c.loop-n-test.true, c.len-n-end.ensures, c.loop-n.invariant.many) }

pub loop-n-preserved : goal.loop-n-preserved
loop-n-preserved c = record {
  many = c.forget_at.ensures.many ∙ c.loop-n.invariant.many;
  single = λ k single. c.forget_at.ensures.single k single ∙ c.loop-n.invariant.single k single;
  others = forgot-more c.loop-n.sets.items c.forget_at.new.sets.items c.loop-n.n c.loop-n.invariant.others c.forget_at.ensures.here c.forget_at.ensures.others;
}

pub returns-clause-single : goal.returns-clause-single
returns-clause-single c = c.loop-n.invariant.single

pub returns-clause-others : goal.returns-clause-others
returns-clause-others c = forgot-all c.loop-n.sets.items c.loop-n.n c.loop-n.invariant.others (omega (arith, c.loop-n-test.false, c.len-n-end.ensures, c.loop-n.invariant.many))
