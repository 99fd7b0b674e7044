use Rattle.civil.proofs.EndLemmas.{before-epoch, epoch-date, first-date, first-instant, last-date, last-instant, small-numeric}
use Rattle.civil.proofs.laws.ends_are_printed.Goals as goal

pub returns-clause-first_day : goal.returns-clause-first_day
returns-clause-first_day c = first-date

pub returns-clause-last_day : goal.returns-clause-last_day
returns-clause-last_day c = last-date

pub returns-clause-epoch : goal.returns-clause-epoch
returns-clause-epoch c = epoch-date

pub returns-clause-first : goal.returns-clause-first
returns-clause-first c = first-instant

pub returns-clause-last : goal.returns-clause-last
returns-clause-last c = last-instant

pub returns-clause-before_epoch : goal.returns-clause-before_epoch
returns-clause-before_epoch c = before-epoch

pub returns-clause-numeric : goal.returns-clause-numeric
returns-clause-numeric c = small-numeric
