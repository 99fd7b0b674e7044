use Rattle.std.proofs.Common.{inl}
use Rattle.plan_space.proofs.judged.judge_plan.Goals as goal

pub returns-in-Some : goal.returns-in-Some
returns-in-Some c = inl c.in-Some.ensures.some
