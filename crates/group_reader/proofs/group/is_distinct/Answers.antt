use Rattle.std.proofs.Common.{ap, drop, refl, ◌∙◌}
use Rattle.group_reader.specs.work.Reads.{begins_distinct}
use Rattle.group_reader.proofs.OverLemmas.{no-distinct}
use Rattle.group_reader.proofs.group.is_distinct.Goals as goal

pub returns-then-not-takes_free : goal.returns-then-not-takes_free
returns-then-not-takes_free c = no-distinct c.skip.new.self (c.if-not-takes_free.ensures.other refl) ∙ ap begins_distinct (c.skip.ensures ∙ ap (drop 1) c.new-from.ensures)
