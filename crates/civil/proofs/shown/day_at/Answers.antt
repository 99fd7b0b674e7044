use Rattle.civil.proofs.NumberedLemmas.{dated, shifted, year-is}
use Rattle.civil.proofs.shown.day_at.Goals as goal

pub returns-in-Ok : goal.returns-in-Ok
returns-in-Ok c =
    dated c.in-Ok.date c.args.day _ c.unsigned_abs.result c.requires c.in-Ok.ensures.value (shifted c.args.day c.from.result c.requires c.from.ensures) (year-is c.in-Ok.date c.unsigned_abs.result c.unsigned_abs.ensures.value)
