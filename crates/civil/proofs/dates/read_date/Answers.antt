use Rattle.std.proofs.Common.{sym, ◌∙◌}
use Rattle.civil.proofs.DayLemmas.{ten-bytes}
use Rattle.civil.proofs.dates.read_date.Goals as goal

pub day_of-requires : goal.day_of-requires
day_of-requires c = ten-bytes c.args.text.now (sym c.has_date.ensures ∙ c.if-not-has_date.false)
