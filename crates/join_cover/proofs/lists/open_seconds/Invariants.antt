use Rattle.join_cover.specs.work.Serving.{IsSecondServed}
use Rattle.plan_check.specs.work.Views.{certificate}
use Rattle.join_cover.proofs.WalkLemmas.{AreBefore}
use Rattle.join_cover.proofs.lists.open_seconds.Given as goal

abbrev pub invariant-loop-n : goal.invariant-loop-n
invariant-loop-n l = AreBefore (λ y. IsSecondServed l.j.cat.now l.j.q.now (certificate l.j.t.now) l.found l.first y l.sets.0.0 l.sets.1.0) l.found l.n
