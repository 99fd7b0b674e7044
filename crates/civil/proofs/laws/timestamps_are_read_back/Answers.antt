use Rattle.civil.proofs.TimeTextLemmas.{timestamp-back, timestamptz-back}
use Rattle.civil.proofs.laws.timestamps_are_read_back.Goals as goal

pub returns-clause-timestamp : goal.returns-clause-timestamp
returns-clause-timestamp c = timestamp-back

pub returns-clause-timestamptz : goal.returns-clause-timestamptz
returns-clause-timestamptz c = timestamptz-back
