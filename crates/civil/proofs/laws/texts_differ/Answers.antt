use Rattle.civil.proofs.EndLemmas.{date-apart, numeric-apart, timestamp-apart, timestamptz-apart}
use Rattle.civil.proofs.laws.texts_differ.Goals as goal

pub returns-clause-date : goal.returns-clause-date
returns-clause-date c = date-apart

pub returns-clause-timestamp : goal.returns-clause-timestamp
returns-clause-timestamp c = timestamp-apart

pub returns-clause-timestamptz : goal.returns-clause-timestamptz
returns-clause-timestamptz c = timestamptz-apart

pub returns-clause-numeric : goal.returns-clause-numeric
returns-clause-numeric c = numeric-apart
