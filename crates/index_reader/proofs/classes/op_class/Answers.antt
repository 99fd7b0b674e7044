use Rattle.opfamily.specs.declared.classes.OpClass.{OpClass}
use Rattle.index_reader.proofs.KeyLemmas.{reads-memory}
use Rattle.index_reader.proofs.classes.op_class.Goals as goal

pub returns-in_err-name-clause-read : goal.returns-in_err-name-clause-read
returns-in_err-name-clause-read c = λ tree rest ends is. reads-memory OpClass OpClass (λ k. k) _ c.from_residual.result rest _ c.from_residual.ensures.1
