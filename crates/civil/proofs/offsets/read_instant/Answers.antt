use Rattle.std.proofs.Common.{sym, ◌∙◌}
use Rattle.civil.proofs.RoomLemmas.{instant-past, instant-read}
use Rattle.civil.proofs.offsets.read_instant.Goals as goal

pub returns-in-Some : goal.returns-in-Some
returns-in-Some c =
    instant-read c.args.clock.now c.args.offset.now c.in-Some.instant (sym c.is_timestamp.ensures ∙ c.if-not-is_timestamp.false) (sym c.is_offset_text.ensures ∙ c.if-not-is_offset_text.false) c.in-Some.ensures

pub returns-in-None : goal.returns-in-None
returns-in-None c =
    instant-past c.args.clock.now c.args.offset.now (sym c.is_timestamp.ensures ∙ c.if-not-is_timestamp.false) (sym c.is_offset_text.ensures ∙ c.if-not-is_offset_text.false) c.in-None.ensures
