use mathlib.Core.Path.{fun_ext}
use Rattle.eq_classes.proofs.rel_sets.both.Goals as goal

pub returns : goal.returns
returns c = fun_ext c.union.ensures
