use Rattle.std.proofs.Common.{ap, map, [], ◌∙◌}
use Rattle.pg_expr.specs.work.View.{cond}
use Rattle.eq_classes.specs.work.Grouping.{grouped}
use Rattle.eq_classes.proofs.GroupedLemmas.{left_next}
use Rattle.eq_classes.proofs.group.group_all.Goals.{in-Some+in_ok-groups, in_default}
use Rattle.eq_classes.proofs.group.group_all.Goals as goal

pub loop-k-preserved : goal.loop-k-preserved
loop-k-preserved g c =
    let next = left_next (g.B.Binding.type_of c.args.typed.now) (g.B.Binding.binds c.args.typed.now) c.args.conjuncts.now c.loop-k.k-index c.k-item.result in
    elim c.match-equality.branch [
      | in-Some+in_ok-groups w ↦
          next _ c.loop-k.groups.items c.match-equality.groups.items (grouped (g.B.Binding.type_of c.args.typed.now) (map cond c.args.conjuncts.now) []) c.loop-k-test.true c.k-item.is w.in-Some.ensures.some (ap (λ v. v.items) w.groups-is ∙ w.in_ok-groups.ensures) c.loop-k.invariant
      | in_default w ↦
          next _ c.loop-k.groups.items c.match-equality.groups.items (grouped (g.B.Binding.type_of c.args.typed.now) (map cond c.args.conjuncts.now) []) c.loop-k-test.true c.k-item.is w.in_default.ensures.none (ap (λ v. v.items) w.groups-is) c.loop-k.invariant
    ]
