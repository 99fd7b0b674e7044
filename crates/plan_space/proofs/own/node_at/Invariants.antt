use Rattle.plan_tree.specs.work.Views.{plan}
use Rattle.plan_space.specs.work.Parts.{IsPart}
use Rattle.plan_space.proofs.own.node_at.Given as goal

abbrev pub invariant-parts : goal.invariant-parts
invariant-parts l = IsPart l.cat l.q (plan l.fn.p) 1 l.fn.place (plan l.part.plan.now) l.part.at l.part.place

abbrev pub decreases-parts : goal.decreases-parts
decreases-parts l = l.part.place
