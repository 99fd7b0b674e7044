use Rattle.civil.proofs.RoomLemmas.{day-is, micros-fit, sum-fits, total-bound, total-is}
use Rattle.civil.proofs.TimeLemmas.{moment-found}
use Rattle.civil.proofs.times.moment_of.Goals as goal

pub overflow_mul-result : goal.overflow_mul-result
overflow_mul-result c = micros-fit c.args.text.now c.in-Some.day c.from.result c.in-Some.ensures (day-is c.args.text.now c.in-Some.day c.from.result c.in-Some.ensures c.from.ensures)

pub overflow_add-result : goal.overflow_add-result
overflow_add-result c = sum-fits c.args.text.now c.in-Some.day c.from.result c.in-Some-clock_of.clock c.in-Some.ensures (day-is c.args.text.now c.in-Some.day c.from.result c.in-Some.ensures c.from.ensures) c.in-Some-clock_of.ensures.bound

pub returns-in-Some-clock_of-clause-value : goal.returns-in-Some-clock_of-clause-value
returns-in-Some-clock_of-clause-value c =
    moment-found c.args.text.now c.in-Some.day c.in-Some-clock_of.clock _ c.in-Some.ensures c.in-Some-clock_of.ensures.value
    (total-is c.args.text.now c.in-Some.day c.from.result c.in-Some-clock_of.clock c.in-Some.ensures (day-is c.args.text.now c.in-Some.day c.from.result c.in-Some.ensures c.from.ensures) c.in-Some-clock_of.ensures.bound)

pub returns-in-Some-clock_of-clause-bound : goal.returns-in-Some-clock_of-clause-bound
returns-in-Some-clock_of-clause-bound c =
    total-bound c.args.text.now c.in-Some.day c.in-Some-clock_of.clock _ c.in-Some.ensures c.in-Some-clock_of.ensures.bound
    (total-is c.args.text.now c.in-Some.day c.from.result c.in-Some-clock_of.clock c.in-Some.ensures (day-is c.args.text.now c.in-Some.day c.from.result c.in-Some.ensures c.from.ensures) c.in-Some-clock_of.ensures.bound)
