use Rattle.civil.proofs.TimeLemmas.{time-of-text}
use Rattle.civil.proofs.times.clock_of.Goals as goal

pub part_in-requires : goal.part_in-requires
part_in-requires c = record { digits = (time-of-text c.args.text.now c.behind-time.result.now c.behind-time.ensures c.requires).hours }

pub part_in-requires-2 : goal.part_in-requires-2
part_in-requires-2 c = record { digits = (time-of-text c.args.text.now c.behind-time.result.now c.behind-time.ensures c.requires).minutes }

pub part_in-requires-3 : goal.part_in-requires-3
part_in-requires-3 c = record { digits = (time-of-text c.args.text.now c.behind-time.result.now c.behind-time.ensures c.requires).seconds }

pub fraction_of-fraction-requires-clause-digits : goal.fraction_of-fraction-requires-clause-digits
fraction_of-fraction-requires-clause-digits c =
    rw c.behind.ensures (time-of-text c.args.text.now c.behind-time.result.now c.behind-time.ensures c.requires).fraction
