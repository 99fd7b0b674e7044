use Rattle.std.proofs.Common.{◌∙◌, sym, true, false}
use Rattle.pathkeys.specs.work.Finding.{class_numbers}
use Rattle.plan_space.proofs.OrderLemmas.{differs-on, ends-numbers, passes-on, stands-on, taken-found, within-numbers}
use Rattle.plan_tree.proofs.PlaceLemmas.{number-at as number-within}
use Rattle.plan_space.proofs.order.next_place.Goals as goal
use Rattle.plan_space.proofs.order.next_place.Goals.{else-at-list-via-then-at-list+else-list-at, else-at-list-via-else-at-list}

pub returns-then-is_listed-clause-some : goal.returns-then-is_listed-clause-some
returns-then-is_listed-clause-some c =
    passes-on (class_numbers c.args.list.now) c.args.at c.args.c.0 (taken-found c.args.c.0 c.args.at c.args.list.now c.is_listed.result true c.is_listed.ensures c.if-is_listed.true)

pub returns-then-list-at-clause-some : goal.returns-then-list-at-clause-some
returns-then-list-at-clause-some c =
    stands-on (class_numbers c.args.list.now) c.args.at c.args.c.0 (taken-found c.args.c.0 c.args.at c.args.list.now c.is_listed.result false c.is_listed.ensures c.if-is_listed.false)
    (within-numbers c.args.list.now c.args.at c.if-at-list.true) (number-within c.args.list.now c.args.at (record { 0 = 0 }) c.if-at-list.true ∙ c.if-list-at.true)

pub returns-else-at-list-clause-none : goal.returns-else-at-list-clause-none
returns-else-at-list-clause-none c =
    let other = taken-found c.args.c.0 c.args.at c.args.list.now c.is_listed.result false c.is_listed.ensures c.if-is_listed.false in
    elim c.else-at-list.branch [
      | else-at-list-via-then-at-list+else-list-at w ↦
          differs-on (class_numbers c.args.list.now) c.args.at c.args.c.0 other (within-numbers c.args.list.now c.args.at w.if-at-list.true)
          (λ same. w.if-list-at.false (sym (number-within c.args.list.now c.args.at (record { 0 = 0 }) w.if-at-list.true) ∙ same))
      | else-at-list-via-else-at-list w ↦ ends-numbers c.args.list.now c.args.at c.args.c.0 other w.if-at-list.false
    ]
