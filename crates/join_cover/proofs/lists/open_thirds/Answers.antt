use Rattle.std.proofs.Common.{◌≡◌}
use Rattle.std.specs.Prelude.{Some, slice_get}
use Rattle.eq_classes.specs.declared.classes.ClassNo.{ClassNo}
use Rattle.plan_check.specs.work.Views.{certificate}
use Rattle.join_cover.specs.work.Serving.{IsThirdServed}
use Rattle.join_cover.proofs.WalkLemmas.{before-all, before-next, read-none, read-some}
use Rattle.join_cover.proofs.lists.open_thirds.Goals as goal
use Rattle.join_cover.proofs.lists.open_thirds.Goals.{in-Some+in_default-open_three, in_default}

pub loop-n-preserved : goal.loop-n-preserved
loop-n-preserved c =
    let P : ClassNo → Type 0 = IsThirdServed c.args.j.now.cat.now c.args.j.now.q.now (certificate c.args.j.now.t.now) c.args.two.0 c.args.two.1 c.args.sets.0.0 c.args.sets.1.0 in
    let here : (x : ClassNo) → slice_get c.args.found.now c.loop-n.n ≡ Some (Some x) → P x = elim c.match-found-n.branch [
      | in-Some+in_default-open_three w ↦ read-some c.args.found.now c.loop-n.n w.in-Some.z P w.in-Some.is w.in_default-open_three.ensures
      | in_default w ↦ read-none c.args.found.now c.loop-n.n P w.in_default.is
    ] in
    before-next P c.args.found.now c.loop-n.n c.loop-n.invariant here

pub returns : goal.returns
returns c = before-all (IsThirdServed c.args.j.now.cat.now c.args.j.now.q.now (certificate c.args.j.now.t.now) c.args.two.0 c.args.two.1 c.args.sets.0.0 c.args.sets.1.0) c.args.found.now c.loop-n.n c.loop-n-test.false c.loop-n.invariant
