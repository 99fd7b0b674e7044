use Rattle.civil.proofs.DayLemmas.{date-digits}
use Rattle.civil.proofs.dates.day_of.Goals as goal

pub number_in-year-requires-clause-digits : goal.number_in-year-requires-clause-digits
number_in-year-requires-clause-digits c = (date-digits c.args.text.now c.requires).0

pub number_in-month-requires-clause-digits : goal.number_in-month-requires-clause-digits
number_in-month-requires-clause-digits c = (date-digits c.args.text.now c.requires).1

pub number_in-day-requires-clause-digits : goal.number_in-day-requires-clause-digits
number_in-day-requires-clause-digits c = (date-digits c.args.text.now c.requires).2
