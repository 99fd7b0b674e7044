use Rattle.std.proofs.Common.{subst, sym}
use Rattle.std.specs.Prelude.{option_map}
use Rattle.plan_tree.specs.work.Views.{path}
use Rattle.sql_query.specs.Grouped.{GroupedQuery}
use Rattle.group_values.specs.work.GroupCosts.{IsTask}
use Rattle.group_explain.specs.work.GroupPlans.{IsBestOf}
use Rattle.group_explain.proofs.ChoiceLemmas.{has-input, is-chosen, left, none-chosen}
use Rattle.group_explain.proofs.OrderLemmas.{ready}
use Rattle.group_explain.proofs.choice.choose_groups.Goals as goal

pub over_input-requires : goal.over_input-requires
over_input-requires c =
    let cat = c.args.cat.now in
    let plain = option_map path c.in_ok-plain.plain in
    let sorted = option_map path c.in_ok-sorted.sorted in
    record {
      input =
          has-input cat c.args.g.now c.ask_by_groups.new.g c.requires.bound c.in_ok-task.task plain sorted c.in_ok-task.ensures.task
          (subst (λ (h : GroupedQuery). IsBestOf cat h.base plain) c.g.view_is c.in_ok-plain.ensures) c.in_ok-ask_by_groups.ensures
          (subst (λ (h : GroupedQuery). IsBestOf cat h.base sorted) c.g-2.view_is c.in_ok-sorted.ensures) c.least_plan.result c.least_plan.ensures c.in-Some.plan c.in-Some.is;
    }

pub returns-in-Some-clause-chosen : goal.returns-in-Some-clause-chosen
returns-in-Some-clause-chosen c =
    let cat = c.args.cat.now in
    let plain = option_map path c.in_ok-plain.plain in
    let sorted = option_map path c.in_ok-sorted.sorted in
    is-chosen cat c.args.g.now c.ask_by_groups.new.g c.requires.bound c.in_ok-task.task plain sorted c.in_ok-task.ensures.task
    (subst (λ (h : GroupedQuery). IsBestOf cat h.base plain) c.g.view_is c.in_ok-plain.ensures) c.in_ok-ask_by_groups.ensures
    (subst (λ (h : GroupedQuery). IsBestOf cat h.base sorted) c.g-2.view_is c.in_ok-sorted.ensures) c.least_plan.result c.least_plan.ensures c.in-Some.plan c.over_input.result
    c.in-Some.is c.over_input.ensures.task c.over_input.ensures.plan c.over_input.ensures.input

pub returns-in-Some-clause-ready : goal.returns-in-Some-clause-ready
returns-in-Some-clause-ready c =
    let cat = c.args.cat.now in
    let plain = option_map path c.in_ok-plain.plain in
    let sorted = option_map path c.in_ok-sorted.sorted in
    let is = is-chosen cat c.args.g.now c.ask_by_groups.new.g c.requires.bound c.in_ok-task.task plain sorted c.in_ok-task.ensures.task
    (subst (λ (h : GroupedQuery). IsBestOf cat h.base plain) c.g.view_is c.in_ok-plain.ensures) c.in_ok-ask_by_groups.ensures
    (subst (λ (h : GroupedQuery). IsBestOf cat h.base sorted) c.g-2.view_is c.in_ok-sorted.ensures) c.least_plan.result c.least_plan.ensures c.in-Some.plan c.over_input.result
    c.in-Some.is c.over_input.ensures.task c.over_input.ensures.plan c.over_input.ensures.input in
    ready cat c.args.g.now c.requires.bound c.over_input.result c.ask_for.new.g (subst IsTask (sym c.over_input.ensures.task) c.in_ok-task.ensures.numbers) is
    (left c.args.g.now c.ask_by_groups.new.g c.ask_for.new.g c.in-Some.plan c.over_input.result c.in_ok-ask_by_groups.ensures c.ask_for.ensures c.over_input.ensures.plan)

pub returns-in-None-clause-no_plan : goal.returns-in-None-clause-no_plan
returns-in-None-clause-no_plan c same =
    let cat = c.args.cat.now in
    let plain = option_map path c.in_ok-plain.plain in
    let sorted = option_map path c.in_ok-sorted.sorted in
    none-chosen cat c.args.g.now c.ask_by_groups.new.g c.requires.bound c.in_ok-task.task plain sorted c.in_ok-task.ensures.task
    (subst (λ (h : GroupedQuery). IsBestOf cat h.base plain) c.g.view_is c.in_ok-plain.ensures) c.in_ok-ask_by_groups.ensures
    (subst (λ (h : GroupedQuery). IsBestOf cat h.base sorted) c.g-2.view_is c.in_ok-sorted.ensures) c.least_plan.result c.least_plan.ensures c.in-None.is
