use Rattle.civil.proofs.RoomLemmas.{offset-bound}
use Rattle.civil.proofs.TimeLemmas.{offset-shaped}
use Rattle.civil.proofs.offsets.size_of.Goals as goal

pub part_in-requires : goal.part_in-requires
part_in-requires c = record { digits = (offset-shaped c.args.offset.now c.requires).hours }

pub part_in-requires-2 : goal.part_in-requires-2
part_in-requires-2 c = record { digits = (offset-shaped c.args.offset.now c.requires).minutes }

pub returns-clause-bound : goal.returns-clause-bound
returns-clause-bound c =
    offset-bound c.with_sign.result c.is_negative.result c.in-Some.hours c.in-Some-part_in.minutes c.in-Some.ensures.bound c.in-Some-part_in.ensures.bound c.with_sign.ensures
