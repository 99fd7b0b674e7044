use Rattle.civil.proofs.ReadLemmas.{date-typed, numeric-typed, timestamp-typed, timestamptz-typed}
use Rattle.civil.proofs.laws.values_are_in_range.Goals as goal

pub returns-clause-date : goal.returns-clause-date
returns-clause-date c = date-typed

pub returns-clause-timestamp : goal.returns-clause-timestamp
returns-clause-timestamp c = timestamp-typed

pub returns-clause-timestamptz : goal.returns-clause-timestamptz
returns-clause-timestamptz c = timestamptz-typed

pub returns-clause-numeric : goal.returns-clause-numeric
returns-clause-numeric c = numeric-typed
