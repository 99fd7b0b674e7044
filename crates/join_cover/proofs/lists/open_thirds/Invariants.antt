use Rattle.join_cover.specs.work.Serving.{IsThirdServed}
use Rattle.plan_check.specs.work.Views.{certificate}
use Rattle.join_cover.proofs.WalkLemmas.{AreBefore}
use Rattle.join_cover.proofs.lists.open_thirds.Given as goal

abbrev pub invariant-loop-n : goal.invariant-loop-n
invariant-loop-n l = AreBefore (λ z. IsThirdServed l.j.cat.now l.j.q.now (certificate l.j.t.now) l.two.0 l.two.1 l.sets.0.0 l.sets.1.0 z) l.found l.n
