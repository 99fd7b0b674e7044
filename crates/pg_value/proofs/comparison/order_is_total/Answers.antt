use Rattle.std.specs.Prelude.{unsigned_abs}
use Rattle.pg_value.proofs.OrderLaws.{value_total, same_numbers, same_naturals, same_texts, same_flags}
use Rattle.pg_value.proofs.comparison.order_is_total.Goals as goal

pub returns-clause-total : goal.returns-clause-total
returns-clause-total c = value_total

pub returns-clause-numbers : goal.returns-clause-numbers
returns-clause-numbers c = same_numbers

pub returns-clause-magnitudes : goal.returns-clause-magnitudes
returns-clause-magnitudes c = λ m n h. same_naturals (unsigned_abs m) (unsigned_abs n) h

pub returns-clause-texts : goal.returns-clause-texts
returns-clause-texts c = same_texts

pub returns-clause-flags : goal.returns-clause-flags
returns-clause-flags c = same_flags

pub returns-clause-uuids : goal.returns-clause-uuids
returns-clause-uuids c = same_texts

pub returns-clause-dates : goal.returns-clause-dates
returns-clause-dates c = same_numbers

pub returns-clause-timestamps : goal.returns-clause-timestamps
returns-clause-timestamps c = same_numbers

pub returns-clause-instants : goal.returns-clause-instants
returns-clause-instants c = same_numbers

pub returns-clause-numerics : goal.returns-clause-numerics
returns-clause-numerics c = λ scale. same_numbers
