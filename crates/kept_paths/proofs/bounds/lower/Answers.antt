use Rattle.std.proofs.Common.{Some}
use Rattle.kept_paths.proofs.ReadLemmas.{differ-from, known-other}
use Rattle.kept_paths.proofs.bounds.lower.Goals as goal

pub returns-in-Some-clause-others : goal.returns-in-Some-clause-others
returns-in-Some-clause-others c = λ ks ne.
    known-other c.args.list.now c.args.bounds.now (c.get_mut.follows.lender c.lowered.result) (Some c.lowered.result)
    ((c.get_mut.follows.holds c.lowered.result).3 c.requires) ks (differ-from c.args.list.now ks ne)
