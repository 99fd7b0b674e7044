use Rattle.civil.proofs.RoomLemmas.{less-is}
use Rattle.civil.proofs.TimeLemmas.{instant-not, instant-yes}
use Rattle.civil.proofs.offsets.instant_of.Goals as goal

pub returns-then-is_instant : goal.returns-then-is_instant
returns-then-is_instant c =
    instant-yes c.args.clock.now c.args.offset.now c.in-Some.moment c.in-Some-size_of.size _ c.is_instant.result c.in-Some.ensures.value c.in-Some-size_of.ensures.value
    (less-is c.in-Some.moment c.in-Some-size_of.size c.in-Some.ensures.bound c.in-Some-size_of.ensures.bound) c.is_instant.ensures c.if-is_instant.true

pub returns-else-is_instant : goal.returns-else-is_instant
returns-else-is_instant c =
    instant-not c.args.clock.now c.args.offset.now c.in-Some.moment c.in-Some-size_of.size _ c.is_instant.result c.in-Some.ensures.value c.in-Some-size_of.ensures.value
    (less-is c.in-Some.moment c.in-Some-size_of.size c.in-Some.ensures.bound c.in-Some-size_of.ensures.bound) c.is_instant.ensures c.if-is_instant.false
