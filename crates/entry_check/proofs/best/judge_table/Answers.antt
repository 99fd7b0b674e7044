use Rattle.plan_check.specs.work.Views.{certificate, entry}
use Rattle.entry_check.proofs.BestLemmas.{bad-best, whole-with}
use Rattle.entry_check.proofs.JudgeLemmas.{first-reason}
use Rattle.entry_check.proofs.best.judge_table.Goals as goal

pub returns-in-Some : goal.returns-in-Some
returns-in-Some c = first-reason c.args.j.now.cat.now c.args.j.now.q.now (certificate c.args.j.now.t.now) c.in-Some.reason c.in-Some.ensures

pub returns-in-Some-first_dominated : goal.returns-in-Some-first_dominated
returns-in-Some-first_dominated c = (
  (
    whole-with c.args.j.now.cat.now c.args.j.now.q.now (certificate c.args.j.now.t.now) (entry c.in-Some-finished_side._best.now) c.in-None.ensures c.in-Some-finished_side.ensures.some,
    c.in-Some-first_dominated.ensures,
  ),
  tt,
)

pub returns-in-None-first_dominated : goal.returns-in-None-first_dominated
returns-in-None-first_dominated c = (
  whole-with c.args.j.now.cat.now c.args.j.now.q.now (certificate c.args.j.now.t.now) (entry c.in-Some-finished_side._best.now) c.in-None.ensures c.in-Some-finished_side.ensures.some,
  c.in-None-first_dominated.ensures,
)

pub returns-in-None-finished_side : goal.returns-in-None-finished_side
returns-in-None-finished_side c = (bad-best c.args.j.now.cat.now c.args.j.now.q.now (certificate c.args.j.now.t.now) c.in-None.ensures c.in-None-finished_side.ensures.none, tt)
