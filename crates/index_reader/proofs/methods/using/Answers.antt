use Rattle.std.proofs.Common.{refl}
use Rattle.index_reader.proofs.WordLemmas.{no-method}
use Rattle.index_reader.proofs.methods.using.Goals as goal

pub returns-then-not-takes : goal.returns-then-not-takes
returns-then-not-takes c = λ u rest ends is. no-method u rest c.args.from.now c.takes.new.self (c.if-not-takes.ensures.left refl) (c.if-not-takes.ensures.other refl) is
