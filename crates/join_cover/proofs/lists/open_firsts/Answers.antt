use Rattle.std.proofs.Common.{◌≡◌}
use Rattle.std.specs.Prelude.{Some, slice_get}
use Rattle.eq_classes.specs.declared.classes.ClassNo.{ClassNo}
use Rattle.plan_check.specs.work.Views.{certificate}
use Rattle.join_cover.specs.work.Serving.{IsFirstServed}
use Rattle.join_cover.proofs.WalkLemmas.{before-all, before-next, read-none, read-some}
use Rattle.join_cover.proofs.lists.open_firsts.Goals as goal
use Rattle.join_cover.proofs.lists.open_firsts.Goals.{in-Some+in_default-open_one, in_default}

pub loop-n-preserved : goal.loop-n-preserved
loop-n-preserved c =
    let P : ClassNo → Type 0 = λ x. IsFirstServed c.args.j.now.cat.now c.args.j.now.q.now (certificate c.args.j.now.t.now) c.args.found.now x c.args.sets.0.0 c.args.sets.1.0 in
    let here : (x : ClassNo) → slice_get c.args.found.now c.loop-n.n ≡ Some (Some x) → P x = elim c.match-found-n.branch [
      | in-Some+in_default-open_one w ↦ read-some c.args.found.now c.loop-n.n w.in-Some.first P w.in-Some.is w.in_default-open_one.ensures
      | in_default w ↦ read-none c.args.found.now c.loop-n.n P w.in_default.is
    ] in
    before-next P c.args.found.now c.loop-n.n c.loop-n.invariant here

pub returns : goal.returns
returns c = before-all (λ x. IsFirstServed c.args.j.now.cat.now c.args.j.now.q.now (certificate c.args.j.now.t.now) c.args.found.now x c.args.sets.0.0 c.args.sets.1.0) c.args.found.now c.loop-n.n c.loop-n-test.false c.loop-n.invariant
