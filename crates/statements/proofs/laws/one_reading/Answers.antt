use Rattle.statements.proofs.OneReadingLemmas.{one_read, one_first_fault, read_apart}
use Rattle.statements.proofs.laws.one_reading.Goals as goal

pub returns : goal.returns
returns c = record { read = one_read; fault = one_first_fault; apart = read_apart }
