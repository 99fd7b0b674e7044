use Rattle.pathkeys.specs.work.Finding.{class_numbers}
use Rattle.plan_check.specs.work.Views.{certificate}
use Rattle.join_cover.proofs.LeastLemmas.{no-inner, no-outer}
use Rattle.join_cover.proofs.merges.open_work.Goals as goal

pub returns-in-None-least_whole : goal.returns-in-None-least_whole
returns-in-None-least_whole c =
    let w = c.args.work.now in
    no-inner c.args.j.now.cat.now c.args.j.now.q.now (certificate c.args.j.now.t.now) c.requires.right (class_numbers w.list.now) w.outer.0 w.inner.0 c.in-None-least_whole.ensures.none

pub returns-in-None : goal.returns-in-None
returns-in-None c =
    let w = c.args.work.now in
    no-outer c.args.j.now.cat.now c.args.j.now.q.now (certificate c.args.j.now.t.now) c.requires.right (class_numbers w.list.now) w.outer.0 w.inner.0 c.in-None.ensures.none
