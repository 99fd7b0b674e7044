use Rattle.std.proofs.Common.{refl}
use Rattle.query_reader.proofs.WantedLemmas.{plan-wanted, rows-wanted}
use Rattle.query_reader.proofs.wanted.wants.Goals as goal

pub returns-then-not-takes_free : goal.returns-then-not-takes_free
returns-then-not-takes_free c = rows-wanted _ c.new-from.result c.new-from.ensures (c.if-not-takes_free.ensures.other refl)

pub returns-else-takes_mark : goal.returns-else-takes_mark
returns-else-takes_mark c = plan-wanted _ c.new-from.result c.takes_free.new.self c.new-from.ensures (c.if-not-takes_free.ensures.took refl) (c.if-takes_mark.ensures.other refl)
