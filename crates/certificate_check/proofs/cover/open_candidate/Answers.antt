use Rattle.plan_check.specs.work.Views.{certificate}
use Rattle.certificate_check.proofs.CheckLemmas.{covered}
use Rattle.certificate_check.proofs.cover.open_candidate.Goals as goal

pub returns : goal.returns
returns c = covered c.args.j.now.cat.now c.args.j.now.q.now (certificate c.args.j.now.t.now) c.in_default.ensures c.in_default-open_bitmap_scan.ensures c.open_join.result _ (λ x h. h.2.1) c.open_join.ensures
