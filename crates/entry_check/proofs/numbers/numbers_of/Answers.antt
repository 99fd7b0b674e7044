use Rattle.std.proofs.Common.{arith, refl}
use Rattle.entry_check.proofs.PartLemmas.{not-admissible, numbers-are}
use Rattle.entry_check.proofs.numbers.numbers_of.Goals as goal

pub returns-then-cost-ge-MOST_COST-clause-none : goal.returns-then-cost-ge-MOST_COST-clause-none
returns-then-cost-ge-MOST_COST-clause-none c = λ contents p e. not-admissible contents c.args.q.now p c.args.cost e c.if-cost-ge-MOST_COST.true

pub returns-clause-some : goal.returns-clause-some
returns-clause-some c = λ contents p some e f. numbers-are contents c.args.q.now p c.args.cost c.args.rows _ some e (omega (arith, c.if-cost-ge-MOST_COST.false)) f refl refl refl
