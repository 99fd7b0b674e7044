use Rattle.scan_cover.proofs.FillLemmas.{filled-more, filled-past}
use Rattle.scan_cover.proofs.filling.Arms.push.Goals as goal

pub returns-then-self-lt-MOST_ATOMS : goal.returns-then-self-lt-MOST_ATOMS
returns-then-self-lt-MOST_ATOMS c = λ found h. filled-more c.args.self.now found c.args.i h c.if-self-lt-MOST_ATOMS.true

pub returns-else-self-lt-MOST_ATOMS : goal.returns-else-self-lt-MOST_ATOMS
returns-else-self-lt-MOST_ATOMS c = λ found h. filled-past c.args.self.now found c.args.i h c.if-self-lt-MOST_ATOMS.false
