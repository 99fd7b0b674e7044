use Rattle.std.proofs.Common.{ap}
use Rattle.std.specs.Prelude.{option_map}
use Rattle.plan_tree.specs.work.Views.{plan}
use Rattle.plan_reader.proofs.ReadLemmas.{none-other, none-read, one-read, only-one}
use Rattle.plan_reader.proofs.reading.read_plan.Goals as goal

pub returns-in-Some-clause-only : goal.returns-in-Some-clause-only
returns-in-Some-clause-only c =
    only-one c.args.cat.now c.args.q.now c.args.block.now c.checked.result (plan c.in-Some.p) c.read_node.new.numbers.items c.checked.ensures.same
    (one-read c.args.cat.now c.args.q.now c.args.block.now c.new-at.result c.read_node.new.at c.new-numbers.result.items c.read_node.new.numbers.items (option_map plan c.in_ok-p.field-0) (plan c.in-Some.p) c.new-at.ensures
    c.new-numbers.ensures.items c.in_ok-p.ensures.only (ap (option_map plan) c.in-Some.is))

pub returns-in-Some-clause-none : goal.returns-in-Some-clause-none
returns-in-Some-clause-none c =
    none-other c.args.cat.now c.args.q.now c.args.block.now c.checked.result (plan c.in-Some.p) c.read_node.new.numbers.items c.checked.ensures.none
    (one-read c.args.cat.now c.args.q.now c.args.block.now c.new-at.result c.read_node.new.at c.new-numbers.result.items c.read_node.new.numbers.items (option_map plan c.in_ok-p.field-0) (plan c.in-Some.p) c.new-at.ensures
    c.new-numbers.ensures.items c.in_ok-p.ensures.only (ap (option_map plan) c.in-Some.is))

pub returns-in-None-clause-none : goal.returns-in-None-clause-none
returns-in-None-clause-none c = λ is p ns w.
    none-read c.args.cat.now c.args.q.now c.args.block.now c.new-at.result c.read_node.new.at c.new-numbers.result.items c.read_node.new.numbers.items (option_map plan c.in_ok-p.field-0) c.new-at.ensures
    c.new-numbers.ensures.items c.in_ok-p.ensures.only (ap (option_map plan) c.in-None.is) p ns w
